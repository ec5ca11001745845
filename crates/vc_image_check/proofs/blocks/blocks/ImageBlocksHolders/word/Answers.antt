use Rattle.vc_base.proofs.Common.{◌*◌, take, drop, ap, ◌∙◌, w64, from_le_bytes, word}
use Rattle.vc_image_check.proofs.blocks.blocks.ImageBlocksHolders.word.Goals as goal

pub returns : goal.returns
unfolding word
returns c = c.number.ensures ∙ ap (λ b. from_le_bytes w64 (take 8 (drop (8 * c.args.k) b))) c.bytes_of.ensures.bytes
