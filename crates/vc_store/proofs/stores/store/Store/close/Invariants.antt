use Rattle.vc_store.proofs.Ended.{EndsBelow}
use Rattle.vc_store.proofs.stores.store.Store.close.Given as goal

abbrev pub invariant-loop-n : goal.invariant-loop-n
invariant-loop-n g l = EndsBelow (λ z. (goal.SegDisc-dyn g z).state z.1) g.D.DictDisc.rules g.D.DictDisc.gone l.n l.fn.self l.store
