use Rattle.vc_base.proofs.Common.{◌<◌, ◌∙◌, arith, rules}
use Rattle.vc_image_check.specs.Bytes.Contents.{image_segment_count}
use Rattle.vc_image.proofs.Lending.{bytes-even, bytes-legal, bytes-within, first, last, lending-next, lent-all, lent-whole, refused-here, tiled, unused}
use Rattle.vc_image.proofs.lends.lend.lend_image.Given.{Over}
use Rattle.vc_image.proofs.lends.lend.lend_image.Goals as goal
use Rattle.vc_image.proofs.lends.lend.lend_image.Goals.{After-word-size}

-- there is one more segment
below : (g : Over) (c : After-word-size g) → c.loop-i.i < image_segment_count c.args.image.now
below g c = let lt = c.loop-i-test.true in let e = c.word-segments.ensures in omega (arith, lt, e)

pub slice_bounds-lend_copy-end : goal.slice_bounds-lend_copy-end
slice_bounds-lend_copy-end g c =
    let h = (goal.at.slice_bounds-lend_copy-end g c).After-word-size in
    bytes-within c.args.image.now c.requires.head c.loop-i.i c.loop-i.at _ _ _ c.loop-i.invariant (below g h) c.word-size.result c.word-size.ensures

pub lend_copy-requires-clause-size : goal.lend_copy-requires-clause-size
lend_copy-requires-clause-size g c =
    let h = (goal.at.lend_copy-requires-clause-size g c).After-word-size in
    bytes-legal c.args.image.now c.requires.head c.loop-i.i c.loop-i.at _ _ _ c.loop-i.invariant (below g h) c.word-size.result c.word-size.ensures

pub lend_copy-requires-clause-multiple : goal.lend_copy-requires-clause-multiple
lend_copy-requires-clause-multiple g c =
    let h = (goal.at.lend_copy-requires-clause-multiple g c).After-word-size in
    bytes-even c.args.image.now c.requires.head c.loop-i.i c.loop-i.at _ _ _ c.loop-i.invariant (below g h) c.word-size.result c.word-size.ensures c.requires.even

pub adopt-requires-clause-first : goal.adopt-requires-clause-first
adopt-requires-clause-first g c =
    let h = (goal.at.adopt-requires-clause-first g c).After-word-size in
    first c.args.image.now c.requires.head c.loop-i.i c.loop-i.at _ _ _ c.loop-i.invariant (below g h) c.word-size.result c.word-size.ensures c.word-number.result c.word-number.ensures c.in-Ok-lend_copy.segment c.in-Ok-lend_copy.ensures.segment

pub adopt-requires-clause-last : goal.adopt-requires-clause-last
adopt-requires-clause-last g c =
    let h = (goal.at.adopt-requires-clause-last g c).After-word-size in
    last c.args.image.now c.requires.head c.loop-i.i c.loop-i.at _ _ _ c.loop-i.invariant (below g h) c.word-size.result c.word-size.ensures c.word-number.result c.word-number.ensures c.in-Ok-lend_copy.segment c.in-Ok-lend_copy.ensures.segment

pub adopt-requires-clause-unused : goal.adopt-requires-clause-unused
adopt-requires-clause-unused g c =
    let h = (goal.at.adopt-requires-clause-unused g c).After-word-size in
    unused c.args.image.now c.requires.head c.loop-i.i c.loop-i.at _ _ _ c.loop-i.invariant (below g h) c.word-size.result c.word-size.ensures c.word-number.result c.word-number.ensures c.in-Ok-lend_copy.segment c.in-Ok-lend_copy.ensures.segment

pub adopt-requires-clause-tiled : goal.adopt-requires-clause-tiled
adopt-requires-clause-tiled g c =
    let h = (goal.at.adopt-requires-clause-tiled g c).After-word-size in
    tiled c.args.image.now c.requires.head c.loop-i.i c.loop-i.at _ _ _ c.loop-i.invariant (below g h) c.word-size.result c.word-size.ensures c.word-number.result c.word-number.ensures c.in-Ok-lend_copy.segment c.in-Ok-lend_copy.ensures.segment c.requires.tiled

pub returns-in-Err-Refused-clause-fault : goal.returns-in-Err-Refused-clause-fault
returns-in-Err-Refused-clause-fault g c =
    let h = (goal.at.returns-in-Err-Refused-clause-fault g c).After-word-size in
    refused-here c.args.image.now c.requires.head c.loop-i.i c.loop-i.at _ _ _ c.loop-i.invariant (below g h) c.word-size.result c.word-size.ensures c.word-number.result c.word-number.ensures _ _
    (c.in-Err-Refused.ensures.refused (search rules)) c.give_up.ensures.back c.give_up.ensures.nothing

pub loop-i-preserved : goal.loop-i-preserved
loop-i-preserved g c =
    let h = (goal.at.loop-i-preserved g c).After-word-size in
    lending-next c.args.image.now c.requires.head c.loop-i.i c.loop-i.at _ _ _ c.loop-i.invariant (below g h) c.word-size.result c.word-size.ensures c.word-number.result c.word-number.ensures c.in-Ok-lend_copy.segment c.in-Ok-lend_copy.ensures.segment _ _ c.adopt.ensures c.in-Ok-lend_copy.ensures.lent

pub returns-clause-segments : goal.returns-clause-segments
returns-clause-segments g c =
    let end = c.loop-i-test.false in
    let e = c.word-segments.ensures in
    c.loop-i.invariant.filled ∙ lent-all c.args.image.now c.loop-i.i c.loop-i.at _ _ _ c.requires.head c.loop-i.invariant (omega (arith, end, e))

pub returns-clause-lent : goal.returns-clause-lent
returns-clause-lent g c =
    let end = c.loop-i-test.false in
    let e = c.word-segments.ensures in
    lent-whole c.args.image.now c.loop-i.i c.loop-i.at _ _ _ c.requires.head c.loop-i.invariant (omega (arith, end, e))
