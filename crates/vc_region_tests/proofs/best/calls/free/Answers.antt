use Rattle.vc_base.proofs.Common.{ℕ, ap, Layout}
use Rattle.vc_region_tests.proofs.Lents.{lent-same}
use Rattle.vc_region_tests.proofs.best.calls.free.Goals as goal

pub returns-in-Some : goal.returns-in-Some
returns-in-Some g c = lent-same _ _ _ _ c.requires c.free.ensures.disc (ap (λ (r : Layout ℕ). r.segments) c.free.ensures.layout)
