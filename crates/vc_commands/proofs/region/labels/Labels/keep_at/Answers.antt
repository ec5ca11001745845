use Rattle.vc_base.proofs.Common.{◌≡◌, ◌+◌, ◌-◌, Some, sym, ap, ◌∙◌, arith}
use Rattle.slab.specs.Slab.{get}
use Rattle.vc_commands.specs.Labels.{tag_of}
use Rattle.vc_commands.proofs.Agreeing.{others-stay}
use Rattle.vc_commands.proofs.region.labels.Labels.keep_at.Goals as goal

pub returns-in-Some-clause-others : goal.returns-in-Some-clause-others
returns-in-Some-clause-others c =
    let old = c.args.self.now in
    let l = c.in-Some.label.now in
    let place : (c.args.key + 1) - 1 ≡ c.args.key = omega arith in
    let named : tag_of old l.name ≡ Some (c.args.key + 1) = c.requires.agree.named (c.args.key + 1) l (omega arith) (ap (get old.by_tag) place ∙ sym c.in-Some.ensures) in
    others-stay old c.keep.new.self l.name (c.args.key + 1) named c.keep.result c.keep.ensures.some c.keep.ensures.none
