use Rattle.vc_store.proofs.Copied.{Counted}
use Rattle.vc_store.proofs.stores.copies.are_few.Given as goal

abbrev pub invariant-loop-n : goal.invariant-loop-n
invariant-loop-n l = Counted l.dicts l.n l.count
