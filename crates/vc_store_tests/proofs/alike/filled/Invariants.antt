use Rattle.vc_dtdisc.specs.Shapes.{rules_of}
use Rattle.vc_dtdisc.specs.declared.shape.Shape.TheVariants.{Whole}
use Rattle.vc_store.specs.Stores.Alike.{HaveRules}
use Rattle.vc_store.specs.Stores.Stores.{IsOpen, disc_of}
use Rattle.vc_store_tests.proofs.alike.filled.Given as goal

-- it is open, and its kinds have the rules
abbrev pub invariant-loop-word : goal.invariant-loop-word
invariant-loop-word g l =
    record {
      is_open : IsOpen g.D.DictDisc.rules l.store (disc_of l.store (λ z. (goal.SegDisc-dyn g z).state z.1));
      kinds : HaveRules g.D.DictDisc.rules l.store (rules_of Whole);
    }
