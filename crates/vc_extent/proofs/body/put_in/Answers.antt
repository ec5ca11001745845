use Rattle.vc_base.proofs.Common.{length, arith}
use Rattle.vc_extent.proofs.Bodies.{body-changed}
use Rattle.vc_extent.proofs.Changed.{range-below, range-room}
use Rattle.vc_extent.proofs.body.put_in.Goals as goal

pub overflow_add-at-2 : goal.overflow_add-at-2
overflow_add-at-2 c = omega (arith, range-below c.requires.busy.there c.args.off (length c.args.src.now) c.requires.within)

pub put-requires : goal.put-requires
put-requires c = omega (arith, range-room c.requires.busy.there c.args.off (length c.args.src.now) c.requires.within)

pub returns : goal.returns
returns c = body-changed c.args.seg.now c.put.new.self c.args.at c.args.off c.args.src.now c.requires.busy.there c.requires.busy.busy c.requires.within c.put.ensures.bytes c.put.ensures.number
