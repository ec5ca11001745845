use Rattle.vc_base.proofs.Common.{◌≡◌, ℕ, ◌+◌, ◌*◌, ◌<◌, length, take, drop, sym, refl, ap, ◌∙◌, subst, arith, length-replicate}
use Rattle.vc_extent.specs.Tiles.{IsTiled}
use Rattle.vc_seg.specs.Segment.{Bytes}
use Rattle.vc_image_check.specs.Bytes.Contents.{image_segment_count, segment_pair_at}
use Rattle.vc_image_check.specs.Laws.Segs.{legal, segment, segment-is, segs-count, segs-each, size-is, there, within}
use Rattle.vc_image_check.specs.Marks.Mark.{AreMarks, lists}
use Rattle.vc_image_check.proofs.Filling.{filled-end, filled-next, filled-start, lists-set, row-items}
use Rattle.vc_image_check.proofs.marks.marks.Marks.of.Goals as goal
use Rattle.vc_image_check.proofs.marks.marks.Marks.of.Goals.{After-word-size}

-- there is one more segment, and its bytes lie in the image
below : (c : After-word-size) → c.loop-i.i < image_segment_count c.args.image.now
below c = let lt = c.loop-i-test.true in let e = c.word-segments.ensures in omega (arith, lt, e)

size : (c : After-word-size) → c.word-size.result ≡ (segment_pair_at (20 + 8 * c.loop-i.i) c.args.image.now).1
size c = size-is c.word-size.result c.loop-i.i c.args.image.now c.word-size.ensures

least : (c : After-word-size) → c.word-number.result < 1024
least c =
    let last = (legal c.args.image.now c.requires.head c.loop-i.i c.loop-i.at c.loop-i.invariant.place (below c)).last in
    let e = c.word-number.ensures in
    omega (arith, last, e)

pub loop-i-init : goal.loop-i-init
loop-i-init c =
    let is = c.in_ok-places.ensures.items_if_clones_equal (λ x same. same) in
    let s = c.word-segments.ensures in
    let d = c.word.ensures in
    filled-start c.args.image.now (lists c.in_ok-rows.rows.items) c.in_ok-places.places.items (20 + 8 * c.word-segments.result + 36 * c.word.result) c.in_ok-rows.ensures
    (ap length is ∙ length-replicate {A = ℕ} 1024 0) (omega (arith, s, d))

pub part-requires : goal.part-requires
part-requires c =
    let w = within c.args.image.now c.requires.head c.loop-i.i c.loop-i.at c.loop-i.invariant.place (below c) in
    let s = size c in
    omega (arith, w, s)

pub marks_of-requires : goal.marks_of-requires
marks_of-requires c =
    let h = (goal.at.marks_of-requires c).After-word-size in
    let b = c.args.image.now in
    let p = c.loop-i.invariant.place in
    let is = segment-is b c.requires.head c.loop-i.i c.loop-i.at p (below h) in
    let e : c.part.result.now ≡ take (segment_pair_at (20 + 8 * c.loop-i.i) b).1 (drop c.loop-i.at b) = c.part.ensures ∙ ap (λ k. take k (drop c.loop-i.at b)) (size h) in
    subst IsTiled (ap (λ (s : Bytes). s.bytes) is ∙ sym e)
    (segs-each (λ s. IsTiled s.bytes) b c.requires.tiled c.loop-i.i (segment b c.requires.head c.loop-i.i c.loop-i.at p (below h)) (there b c.requires.head c.loop-i.i c.loop-i.at p (below h)))

pub index_mut-requires : goal.index_mut-requires
index_mut-requires c =
    let h = (goal.at.index_mut-requires c).After-word-size in
    let n = least h in
    let many = c.loop-i.invariant.many in
    let l = row-items c.loop-i.rows.items in
    omega (arith, n, many, l, c.loop-i.rows.ok.0)

pub index_mut-requires-in-loop-i : goal.index_mut-requires-in-loop-i
index_mut-requires-in-loop-i c =
    let h = (goal.at.index_mut-requires-in-loop-i c).After-word-size in
    let n = least h in
    let all = c.loop-i.invariant.all in
    omega (arith, n, all, c.loop-i.places.ok.0)

pub loop-i-preserved : goal.loop-i-preserved
loop-i-preserved c =
    let h = (goal.at.loop-i-preserved c).After-word-size in
    let b = c.args.image.now in
    filled-next b c.requires.head (lists c.loop-i.rows.items) _ c.loop-i.places.items _ c.loop-i.i c.loop-i.at c.word-number.result c.word-size.result c.in_ok-rows-2.field-0.items
    c.loop-i.invariant (below h) c.word-number.ensures (size h) (subst (λ z. AreMarks z c.in_ok-rows-2.field-0.items) c.part.ensures c.in_ok-rows-2.ensures)
    (lists-set c.loop-i.rows.items c.word-number.result c.in_ok-rows-2.field-0) refl

pub returns : goal.returns
returns c =
    let end = c.loop-i-test.false in
    let e = c.word-segments.ensures in
    filled-end c.args.image.now c.requires.head (lists c.loop-i.rows.items) c.loop-i.places.items c.loop-i.i c.loop-i.at c.loop-i.invariant (omega (arith, end, e, segs-count c.args.image.now c.requires.head))
