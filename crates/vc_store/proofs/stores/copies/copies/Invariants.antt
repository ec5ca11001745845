use Rattle.vc_store.proofs.Copied.{Copied}
use Rattle.vc_store.proofs.stores.copies.copies.Given as goal

abbrev pub invariant-loop-n : goal.invariant-loop-n
invariant-loop-n l = Copied l.dicts l.n l.copies
