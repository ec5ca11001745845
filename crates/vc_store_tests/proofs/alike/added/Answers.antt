use Rattle.vc_dtdisc.specs.Shapes.{rules_of}
use Rattle.vc_dtdisc.specs.declared.shape.Shape.TheVariants.{Whole}
use Rattle.vc_store.proofs.Carried.{rules-after}
use Rattle.vc_store_tests.proofs.alike.added.Goals as goal

pub returns-clause-kinds : goal.returns-clause-kinds
returns-clause-kinds g c =
    rules-after c.dict.result c.args.store.now c.dict.new.self (rules_of Whole) c.args.kind c.requires.kind c.dict.ensures.kind c.dict.ensures.others c.dict.ensures.same c.requires.kinds
