use Rattle.vc_objects.specs.Promises.{CanAsk}
use Rattle.vc_dict_tests.proofs.puts.put_in_steps.Given as goal

abbrev pub invariant-loop-i : goal.invariant-loop-i
invariant-loop-i g l = CanAsk (λ p. (g.dyn-1.0.entry p.0).1.state p.1) (g.D.DictDisc.rules l.kind) l.best l.dict
