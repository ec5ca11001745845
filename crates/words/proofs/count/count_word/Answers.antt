use Rattle.vc_base.proofs.Common.{◌≡◌, ◌++◌, ap, ◌∙◌, sym}
use Rattle.std.specs.Int.{w64, to_be_bytes}
use Rattle.vc_model.specs.Count.{next_count}
use Rattle.vc_dtdisc.specs.Shapes.{rules_of}
use Rattle.vc_store.specs.Collections.{contents}
use Rattle.vc_store.specs.Reading.{found}
use Rattle.words.specs.Counting.{count_found, counted_word, stored_count}
use Rattle.words.proofs.Counted.{count-else, count-then, counts-one, counts-part}
use Rattle.words.proofs.Kept.{set-on, set-stays}
use Rattle.words.proofs.count.count_word.Goals as goal
use Rattle.words.proofs.count.count_word.Goals.{then-counted, else-counted}

pub returns-in_err-counted-clause-stays : goal.returns-in_err-counted-clause-stays
returns-in_err-counted-clause-stays g c =
    set-stays _ c.args.set.now c.remove.new.self c.requires c.remove.ensures.stays

pub returns-in_err-extend_from_slice-clause-stays : goal.returns-in_err-extend_from_slice-clause-stays
returns-in_err-extend_from_slice-clause-stays g c =
    set-stays _ c.args.set.now c.remove.new.self c.requires c.remove.ensures.stays

pub returns-in_err-extend_from_slice-2-clause-stays : goal.returns-in_err-extend_from_slice-2-clause-stays
returns-in_err-extend_from_slice-2-clause-stays g c =
    set-stays _ c.args.set.now c.remove.new.self c.requires c.remove.ensures.stays

pub returns-clause-stays : goal.returns-clause-stays
returns-clause-stays g c =
    set-on _ c.args.set.now c.remove.new.self c.insert.new.self
    (set-stays _ c.args.set.now c.remove.new.self c.requires c.remove.ensures.stays) c.insert.ensures.keeps.stays

pub returns-clause-counts : goal.returns-clause-counts
returns-clause-counts g c =
    let old = c.args.set.now in
    let mid = c.remove.new.self in
    let word = c.args.word.now in
    let found_is = c.in_ok-counted.ensures.removes.bytes in
    let count : c.if-counted.count ≡ count_found (found (rules_of old.kind.shape) word (contents old).objects) =
    elim c.if-counted.branch [
      | then-counted w ↦ count-then c.in_ok-counted.counted c.remove.new.out.items _ c.if-counted.count w.if-counted.true found_is (w.count-is ∙ (w.count_of-count.ensures ∙ ap stored_count w.deref.ensures.value))
      | else-counted w ↦ count-else c.in_ok-counted.counted c.remove.new.out.items _ c.if-counted.count w.if-counted.false found_is w.count-is
    ] in
    let bytes : c.extend_from_slice.new.self.items ≡ to_be_bytes w64 (next_count c.if-counted.count) =
    c.in_ok-extend_from_slice.ensures.items
    ∙ (ap (λ xs. xs ++ c.to_be_bytes.result) c.clear.ensures.items
    ∙ (c.to_be_bytes.ensures ∙ ap (to_be_bytes w64) c.one_more.ensures)) in
    let object : c.deref-2.result.now ≡ counted_word (next_count c.if-counted.count) word =
    c.deref-2.ensures.value ∙ (c.in_ok-extend_from_slice-2.ensures.items ∙ ap (λ xs. xs ++ word) bytes) in
    counts-part c.insert.result word (contents old) (contents c.insert.new.self) (sym c.if-is_empty.ensures)
    (counts-one c.insert.result (rules_of old.kind.shape) (rules_of mid.kind.shape) c.if-counted.count word c.deref-2.result.now (contents old) (contents mid) (contents c.insert.new.self)
    c.requires.rules (c.remove.ensures.stays.rules ∙ c.requires.rules) (c.remove.ensures.stays.method ∙ c.requires.method)
    count c.in_ok-counted.ensures.removes.lacks.objects object c.insert.ensures.objects)
