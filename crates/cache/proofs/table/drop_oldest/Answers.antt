use Rattle.vc_base.proofs.Common.{◌≡◌, ◌++◌, Some, length, codes, ap, ◌∙◌}
use Rattle.vc_store.specs.Collections.{contents}
use Rattle.vc_store.specs.Reading.{Contents, current, first_place, object_at_index, without_key}
use Rattle.cache.specs.Asking.{key_line, key_rules}
use Rattle.cache.proofs.Keys.{first-is}
use Rattle.cache.proofs.table.drop_oldest.Goals as goal

pub returns-clause-drops : goal.returns-clause-drops
returns-clause-drops g c =
    let old = (contents c.args.queue.now).objects in
    let new = (contents c.remove.new.self).objects in
    let bytes : c.extend_from_slice.new.self.items ≡ c.in-Some.key.now =
    c.in_ok-extend_from_slice.ensures.items ∙ ap (λ xs. xs ++ c.in-Some.key.now) c.new-oldest.ensures.items in
    let key : c.as_slice.result.now ≡ c.in-Some.key.now = c.as_slice.ensures.value ∙ bytes in
    let told : c.as_slice-3.result.now ≡ c.in-Some.key.now = c.as_slice-3.ensures.value ∙ bytes in
    let firsts : (contents c.first.new.self).objects ≡ old = ap (λ (d : Contents). d.objects) c.first.ensures.goes.moved in
    let shown : Some c.in-Some.key.now ≡ object_at_index (first_place (length old)) old =
    c.in-Some.ensures ∙ ap current c.first.ensures.goes.moved in
    let gone : new ≡ without_key key_rules c.in-Some.key.now old =
    c.in_ok-remove.ensures.removes.lacks.objects
    ∙ (ap (λ r. without_key r c.as_slice.result.now (contents c.first.new.self).objects) (c.first.ensures.keeps.stays.rules ∙ c.requires.queue.rules)
    ∙ (ap (λ k. without_key key_rules k (contents c.first.new.self).objects) key
    ∙ ap (without_key key_rules c.in-Some.key.now) firsts)) in (
      c.in-Some.key.now,
      first-is c.in-Some.key.now old new shown gone,
      c.in_ok-put_line.ensures ∙ ap (λ k. c.args.lines.now.items ++ key_line (codes "gone ") k) told,
    )
