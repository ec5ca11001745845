use Rattle.vc_base.proofs.Common.{◌≡◌, arith}
use Rattle.vc_base.proofs.Places.{span-least}
use Rattle.vc_seg.proofs.BytesByNumber.{bytes_of_number-most}
use Rattle.vc_last.specs.Head.{block_of}
use Rattle.vc_last.proofs.head.size_at.Goals as goal

pub returns-clause-most : goal.returns-clause-most
returns-clause-most c =
    let is : c.field.result ≡ (block_of c.args.segs.now c.args.a.0).size = search (arith, c.field.ensures, c.seg.ensures, c.off.ensures) in
    let most = bytes_of_number-most (block_of c.args.segs.now c.args.a.0).seg c.args.segs.now c.requires.segments.legal in
    omega (arith, c.requires.head.within, most, is, span-least (block_of c.args.segs.now c.args.a.0).size)
