use Rattle.vc_base.proofs.Common.{◌≡◌, ◌+◌, ◌/◌, ◌==◌, if◌then◌else◌, length, get_or, replicate, slice_set, sym, refl, ap, ◌∙◌, subst, arith, length-replicate}
use Rattle.vc_seg.specs.Field.{field_at}
use Rattle.vc_image_check.proofs.Marking.{Marking, get-zeros, here, marking-end, marking-next, marking-start}
use Rattle.vc_image_check.proofs.marks.row.marks_of.Goals as goal

pub loop-at-init : goal.loop-at-init
loop-at-init c =
    let b = c.args.bytes.now in
    let even = c.requires.size.multiple in
    let is : c.in_ok-marks.marks.items ≡ replicate (length b / 32) 0 = c.in_ok-marks.ensures.items_if_clones_equal (λ y same. same) in
    let long : length c.in_ok-marks.marks.items ≡ length b / 32 = ap length is ∙ length-replicate (length b / 32) 0 in
    marking-start b c.in_ok-marks.marks.items c.requires (omega (arith, long, even)) (λ k. ap (λ z. get_or z k 0) is ∙ get-zeros (length b / 32) k 0 refl)

pub loop-at-smaller : goal.loop-at-smaller
loop-at-smaller c =
    let b = c.args.bytes.now in
    let h = here b c.loop-at.marks.items c.loop-at.at c.loop-at.invariant c.loop-at-test.true in
    let least = h.least in
    let within = h.within in
    let s = c.word-in-loop-at-2.ensures in
    let lt = c.loop-at-test.true in
    omega (arith, least, within, s, lt)

pub loop-at-preserved : goal.loop-at-preserved
loop-at-preserved c =
    let b = c.args.bytes.now in
    let set' = slice_set c.loop-at.marks.items ((c.loop-at.at + 16) / 32) c.mark_by.result in
    let is : c.mark_by.result ≡ (if field_at (c.loop-at.at + 4) b == 0 then 1 else (if field_at (c.loop-at.at + 8) b == 0 then 3 else 2)) =
    c.mark_by.ensures ∙ rw (c.word.ensures, c.word-in-loop-at.ensures) refl in
    subst (λ n. Marking b set' (c.loop-at.at + n)) (sym c.word-in-loop-at-2.ensures)
    (marking-next b c.loop-at.marks.items set' c.loop-at.at c.mark_by.result ((c.loop-at.at + 16) / 32) c.loop-at.invariant c.loop-at-test.true refl refl is)

pub returns : goal.returns
returns c = marking-end c.args.bytes.now c.loop-at.marks.items c.loop-at.at c.loop-at.invariant c.loop-at-test.false
