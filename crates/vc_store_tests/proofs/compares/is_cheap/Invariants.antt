use Rattle.vc_base.proofs.Common.{map}
use Rattle.vc_algebra.specs.Filling.{CanFillIn}
use Rattle.vc_store_tests.proofs.compares.is_cheap.Given as goal

abbrev pub invariant-loop-ask : goal.invariant-loop-ask
invariant-loop-ask g l = CanFillIn (λ z. (goal.SegDisc-dyn g z).state z.1) (map g.D.DictDisc.rules l.layers.kinds.items) l.layers.region l.layers.dicts
