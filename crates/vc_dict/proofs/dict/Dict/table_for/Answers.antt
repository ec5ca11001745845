use Rattle.vc_base.proofs.Common.{None, sym, ◌∙◌}
use Rattle.vc_dtdisc.specs.Shapes.{rules_of}
use Rattle.vc_dtdisc.specs.declared.shape.Shape.TheVariants.{Whole}
use Rattle.vc_dict.proofs.RemethodLemmas.{first_wanted, no_slots}
use Rattle.vc_dict.proofs.dict.Dict.table_for.Goals as goal

pub returns-then-has_table-2 : goal.returns-then-has_table-2
returns-then-has_table-2 c =
    c.wants_table.ensures ∙ first_wanted c.new.result c.args.self.now.method c.args.method c.args.self.now.count (no_slots c.new.result (rules_of Whole) (c.new.ensures (rules_of Whole) (λ a. None)))
    (sym c.has_table.ensures ∙ c.if-has_table.false) (sym c.has_table-else-has_table.ensures ∙ c.if-has_table-2.true)
