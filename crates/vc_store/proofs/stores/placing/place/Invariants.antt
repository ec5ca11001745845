use Rattle.vc_base.proofs.Common.{length}
use Rattle.vc_store.proofs.Placed.{Placed}
use Rattle.vc_store.proofs.stores.placing.place.Given as goal

abbrev pub invariant-loop-left : goal.invariant-loop-left
invariant-loop-left l = Placed l.dicts (length l.fn.places.items) l.left l.places.items

abbrev pub decreases-loop-left : goal.decreases-loop-left
decreases-loop-left l = l.left
