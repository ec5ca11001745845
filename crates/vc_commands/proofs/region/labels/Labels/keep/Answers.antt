use Rattle.vc_base.proofs.Common.{◌≡◌, ◌+◌, cond, length, is_some, Some, sym, refl, ap, ◌∙◌}
use Rattle.vc_commands.specs.FreedNames.{with_line}
use Rattle.vc_commands.specs.Labels.{kept_of, known_of, tag_of}
use Rattle.vc_commands.specs.declared.region.labels.Known.TheVariants.{Freed}
use Rattle.vc_commands.specs.declared.region.labels.Labels.{Labels}
use Rattle.vc_commands.proofs.Agreeing.{agree-left, all-kept, both_ok, from_ok, there-ok, without-label}
use Rattle.vc_commands.proofs.FreedNames.{kept-freed}
use Rattle.vc_commands.proofs.region.labels.Labels.keep.Goals as goal

pub returns-in-Some-clause-agree : goal.returns-in-Some-clause-agree
returns-in-Some-clause-agree c =
    let old = c.args.self.now in
    let new : Labels = record { by_tag = c.remove.new.self; tags = c.insert.new.self } in
    let x = c.args.name.now in
    let named : tag_of old x ≡ Some c.in-Some.tag = sym c.tag.ensures ∙ c.in-Some.is in
    let succeeds = there-ok c.insert.result (known_of old x) c.in-Some.tag c.insert.ensures.absent named in
    let updates = from_ok c.insert.result succeeds c.insert.ensures.updates in
    let b = both_ok c.insert.result _ _ succeeds c.insert.ensures.old c.insert.ensures.len in
    let kept : kept_of new ≡ with_line x c.args.line (kept_of old) = kept-freed old.tags.entries new.tags.entries x c.args.line updates.0 in
    let w = without-label old new x c.in-Some.tag c.remove.result (Some (Freed c.args.line)) refl c.requires.agree named c.remove.ensures.value c.remove.ensures.updates updates c.remove.ensures.len in
    agree-left old new c.in-Some.tag (record { name = x; at = c.remove.result.at }) c.requires.agree w
    (all-kept old new x c.in-Some.tag c.args.line c.requires.agree named kept (b.2 ∙ ap (λ o. length old.tags.entries + cond (is_some o) 0 1) b.1) c.remove.ensures.len)

pub returns-in-Some-clause-kept : goal.returns-in-Some-clause-kept
returns-in-Some-clause-kept c =
    kept-freed c.args.self.now.tags.entries c.insert.new.self.entries c.args.name.now c.args.line
    (from_ok c.insert.result (there-ok c.insert.result (known_of c.args.self.now c.args.name.now) c.in-Some.tag c.insert.ensures.absent (sym c.tag.ensures ∙ c.in-Some.is)) c.insert.ensures.updates).0
