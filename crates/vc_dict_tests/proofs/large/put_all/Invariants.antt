use Rattle.vc_objects.specs.Promises.{CanAsk}
use Rattle.vc_dict_tests.proofs.large.put_all.Given as goal

abbrev pub invariant-loop-number : goal.invariant-loop-number
invariant-loop-number g l = CanAsk (λ p. (g.dyn-1.0.entry p.0).1.state p.1) (g.D.DictDisc.rules l.kind) l.best l.dict
