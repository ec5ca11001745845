use Rattle.vc_base.proofs.Common.{arith}
use Rattle.vc_image.proofs.Busy.{counted, counting-next, here}
use Rattle.vc_image.proofs.lends.blocks.count_in.Goals as goal

pub loop-at-smaller : goal.loop-at-smaller
loop-at-smaller c =
    let h = here c.args.bytes.now c.loop-at.count c.loop-at.at c.loop-at.invariant c.loop-at-test.true in
    let least = h.least in
    let within = h.within in
    let s = c.word-in-loop-at.ensures in
    let lt = c.loop-at-test.true in
    omega (arith, least, within, s, lt)

pub loop-at-preserved : goal.loop-at-preserved
loop-at-preserved c =
    counting-next c.args.bytes.now c.loop-at.count c.loop-at.at c.loop-at.invariant c.loop-at-test.true c.word.result c.word-in-loop-at.result c.one_if_busy-count.result c.word.ensures c.word-in-loop-at.ensures c.one_if_busy-count.ensures

pub returns-clause-value : goal.returns-clause-value
returns-clause-value c = counted c.args.bytes.now c.loop-at.count c.loop-at.at c.loop-at.invariant c.loop-at-test.false
