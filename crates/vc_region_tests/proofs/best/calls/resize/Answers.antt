use Rattle.vc_region_tests.proofs.Lents.{lent-served}
use Rattle.vc_region_tests.proofs.best.calls.resize.Goals as goal

pub returns-in-Ok : goal.returns-in-Ok
returns-in-Ok g c = lent-served _ _ _ _ _ c.requires.lent c.in-Ok.ensures.disc
