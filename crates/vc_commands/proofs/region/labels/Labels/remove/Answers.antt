use Rattle.vc_base.proofs.Common.{◌≡◌, Some, None, sym, refl, ap, ◌∙◌}
use Rattle.vc_commands.specs.Labels.{tag_in, tag_of}
use Rattle.vc_commands.specs.declared.region.labels.Labels.{Labels}
use Rattle.vc_commands.proofs.Agreeing.{agree-left, all-forgotten, kept-forgotten, without-label}
use Rattle.vc_commands.proofs.region.labels.Labels.remove.Goals as goal

pub returns-clause-agree : goal.returns-clause-agree
returns-clause-agree c =
    let e = c.remove-in-Some-Live.ensures in
    let old = c.args.self.now in
    let new : Labels = record { by_tag = c.remove-in-Some-Live.new.self; tags = c.remove.new.self } in
    let x = c.args.name.now in
    let tag = c.in-Some-Live.tag in
    let named : tag_of old x ≡ Some tag = ap tag_in (sym c.in-Some-Live.ensures.value ∙ ap (λ k. Some k) c.in-Some-Live.field-0-is) in
    let w = without-label old new x tag c.remove-in-Some-Live.result None refl c.requires.agree named e.value e.updates c.remove.ensures.updates e.len in
    agree-left old new tag (record { name = x; at = c.remove-in-Some-Live.result.at }) c.requires.agree w
    (all-forgotten old new x tag c.remove.result c.requires.agree c.remove.ensures.value named (kept-forgotten old new x tag named c.remove.ensures.updates.0) c.remove.ensures.len e.len)

pub returns-clause-kept : goal.returns-clause-kept
returns-clause-kept c =
    kept-forgotten c.args.self.now (record { by_tag = c.remove-in-Some-Live.new.self; tags = c.remove.new.self }) c.args.name.now c.in-Some-Live.tag
    (ap tag_in (sym c.in-Some-Live.ensures.value ∙ ap (λ k. Some k) c.in-Some-Live.field-0-is)) c.remove.ensures.updates.0
