use Rattle.vc_base.proofs.Common.{OnSome, Some, None, Option, arith, map-set}
use Rattle.vc_seg.proofs.Slots.{place_at-set}
use Rattle.vc_seg.proofs.shelf.Shelf.take.Goals as goal

-- what holds holds of a `Some` too
OnSome-from : {X P : Type 0} (o : Option X) → P → OnSome o P
OnSome-from None p = tt
OnSome-from (Some x) p = p

pub returns-clause-emptied : goal.returns-clause-emptied
returns-clause-emptied g c = rw c.take.ensures.after (OnSome-from _ (map-set _ _ _ _))

pub returns-clause-place : goal.returns-clause-place
returns-clause-place g c = rw c.take.ensures.after (OnSome-from _ (place_at-set _ c.args.self.now.slots.items c.args.n None (omega arith) (omega (arith, c.args.self.now.slots.ok.0))))
