use Rattle.vc_base.proofs.Common.{◌-◌, length, drop, ap, ◌∙◌, arith, length-drop, take_all}
use Rattle.vc_image_check.proofs.blocks.blocks.ImageBlocksHolders.object.Goals as goal

pub returns : goal.returns
returns c =
    let b = c.bytes_of.result.now in
    let long = length-drop 32 b in
    take_all (length b - 32) (drop 32 b) (omega (arith, long)) ∙ ap (drop 32) c.bytes_of.ensures.bytes
