use Rattle.vc_base.proofs.Common.{◌≡◌, ◌+◌, ◌*◌, ◌<◌, length, take, drop, true≢false, sym, ap, ◌∙◌, subst, arith}
use Rattle.vc_image_check.specs.Bytes.Contents.{image_segment_count, segment_pair_at}
use Rattle.vc_image_check.specs.Segments.Sound.{IsSoundSegment}
use Rattle.vc_image_check.proofs.Each.{Sofar, first-unsound, legal, long, next, part-is, size-is, sofar-all, within}
use Rattle.vc_image_check.proofs.segments.segments.unsound_segment.Goals as goal
use Rattle.vc_image_check.proofs.segments.segments.unsound_segment.Goals.{After-part, After-word-size}

-- there is one more segment, and this is the part of its bytes
below : (c : After-word-size) → c.loop-i.i < image_segment_count c.args.image.now
below c = omega (arith, c.loop-i-test.true, c.word-segments.ensures)

its-bytes : (c : After-part) → c.part.result.now ≡ take (segment_pair_at (20 + 8 * c.loop-i.i) c.args.image.now).1 (drop c.loop-i.at c.args.image.now)
its-bytes c = part-is c.word-size.result c.loop-i.i c.loop-i.at c.args.image.now c.part.result.now c.word-size.ensures c.part.ensures

pub part-requires : goal.part-requires
part-requires c =
    let w = within c.args.image.now c.requires c.loop-i.i c.loop-i.at c.loop-i.invariant (below c) in
    omega (arith, w, size-is c.word-size.result c.loop-i.i c.args.image.now c.word-size.ensures)

pub is_sound_segment-requires : goal.is_sound_segment-requires
is_sound_segment-requires c =
    let more = below (goal.at.is_sound_segment-requires c).After-word-size in
    legal c.args.image.now c.requires c.loop-i.i c.loop-i.at c.loop-i.invariant more (length c.part.result.now)
    (ap length (its-bytes c) ∙ long c.args.image.now c.requires c.loop-i.i c.loop-i.at c.loop-i.invariant more)

pub returns-then-not-is_sound_segment-clause-some : goal.returns-then-not-is_sound_segment-clause-some
returns-then-not-is_sound_segment-clause-some c =
    let h = goal.at.returns-then-not-is_sound_segment-clause-some c in
    first-unsound c.args.image.now c.requires c.loop-i.i c.loop-i.at c.loop-i.invariant (below h.After-word-size) c.word-then-not-is_sound_segment.result c.word-then-not-is_sound_segment.ensures
    (λ sound. absurd (true≢false (sym (c.is_sound_segment.ensures.1 (subst IsSoundSegment (sym (its-bytes h.After-part)) sound)) ∙ c.if-not-is_sound_segment.true)))

pub loop-i-preserved : goal.loop-i-preserved
loop-i-preserved c =
    let h = goal.at.loop-i-preserved c in
    subst (λ k. Sofar c.args.image.now (c.loop-i.i + 1) (c.loop-i.at + k)) (sym (size-is c.word-size.result c.loop-i.i c.args.image.now c.word-size.ensures))
    (next c.args.image.now c.requires c.loop-i.i c.loop-i.at c.loop-i.invariant (below h.After-word-size) (subst IsSoundSegment (its-bytes h.After-part) (c.is_sound_segment.ensures.0 c.if-not-is_sound_segment.false)))

pub returns-clause-none : goal.returns-clause-none
returns-clause-none c = sofar-all c.args.image.now c.loop-i.i c.loop-i.at c.loop-i.invariant (omega (arith, c.loop-i-test.false, c.loop-i.auto.i-end, c.word-segments.ensures))
