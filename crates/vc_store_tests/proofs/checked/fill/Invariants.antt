use Rattle.vc_store.specs.Stores.Stores.{IsOpen, disc_of}
use Rattle.vc_checked.specs.Checked.{rules_by}
use Rattle.vc_store_tests.proofs.checked.fill.Given as goal

abbrev pub invariant-loop-method : goal.invariant-loop-method
invariant-loop-method g l = IsOpen rules_by l.store (disc_of l.store (λ z. (goal.SegDisc-dyn g z).state z.1))

abbrev pub invariant-loop-n : goal.invariant-loop-n
invariant-loop-n g l = IsOpen rules_by l.store (disc_of l.store (λ z. (goal.SegDisc-dyn g z).state z.1))
