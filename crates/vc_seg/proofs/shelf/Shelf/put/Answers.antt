use Rattle.vc_base.proofs.Common.{Some, arith}
use Rattle.vc_seg.proofs.Slots.{place_at-push}
use Rattle.vc_seg.proofs.shelf.Shelf.put.Goals as goal

pub returns-in-Ok-clause-place : goal.returns-in-Ok-clause-place
returns-in-Ok-clause-place g c = rw c.in-Ok.ensures.items (place_at-push _ c.args.self.now.slots.items c.len.result (Some c.args.disc) (omega (arith, c.args.self.now.slots.ok.0, c.in-Ok.ensures.len)))
