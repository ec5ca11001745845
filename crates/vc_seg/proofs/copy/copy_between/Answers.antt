use Rattle.vc_base.proofs.Common.{arith}
use Rattle.vc_seg.proofs.Copies.{copied-back, copied-front}
use Rattle.vc_seg.proofs.copy.copy_between.Goals as goal

pub returns-then-source-target-2 : goal.returns-then-source-target-2
returns-then-source-target-2 c =
    λ d.
    let split = c.split_at_mut-front.ensures in
    copied-back c.args.segs.now c.split_at_mut-front.result.0.now c.split_at_mut-front.result.1.now c.args.source c.args.from c.args.target c.args.to c.args.len c.index-front-source.result c.index-back-0.result d c.carry.new.self
    split.value split.front_len c.if-source-target-2.true (omega (arith, split.back_len, c.requires.target)) c.carry.ensures.number c.carry.ensures.bytes

pub returns-else-source-target-2 : goal.returns-else-source-target-2
returns-else-source-target-2 c =
    λ d.
    let split = c.split_at_mut-front-else-source-target-2.ensures in
    let above = c.if-source-target-2.false in
    copied-front c.args.segs.now c.split_at_mut-front-else-source-target-2.result.0.now c.split_at_mut-front-else-source-target-2.result.1.now c.args.source c.args.from c.args.target c.args.to c.args.len c.index-back-0-else-source-target-2.result c.index-front-target.result d c.carry-else-source-target-2.new.self
    split.value split.front_len (omega (arith, c.if-source-target.false, above)) (omega (arith, split.back_len, c.requires.source)) c.carry-else-source-target-2.ensures.number c.carry-else-source-target-2.ensures.bytes
