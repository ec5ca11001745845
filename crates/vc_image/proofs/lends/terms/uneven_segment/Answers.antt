use Rattle.vc_base.proofs.Common.{arith}
use Rattle.vc_image.proofs.Uneven.{even-all, even-next, uneven-here}
use Rattle.vc_image.proofs.lends.terms.uneven_segment.Goals as goal

pub returns-then-word-round-ne0 : goal.returns-then-word-round-ne0
returns-then-word-round-ne0 c =
    let lt = c.loop-i-test.true in
    let e = c.word-i-end.ensures in
    uneven-here c.args.image.now c.args.round c.loop-i.i (omega (arith, lt, e)) c.loop-i.invariant c.word.result c.word.ensures c.if-word-round-ne0.true c.requires.head c.word-then-word-round-ne0.result c.word-then-word-round-ne0.ensures

pub loop-i-preserved : goal.loop-i-preserved
loop-i-preserved c =
    let lt = c.loop-i-test.true in
    let e = c.word-i-end.ensures in
    even-next c.args.image.now c.args.round c.loop-i.i (omega (arith, lt, e)) c.loop-i.invariant c.word.result c.word.ensures c.if-word-round-ne0.false

pub returns : goal.returns
returns c =
    let end = c.loop-i-test.false in
    let e = c.word-i-end.ensures in
    even-all c.args.image.now c.args.round c.loop-i.i c.requires.head (omega (arith, end, e)) c.loop-i.invariant
