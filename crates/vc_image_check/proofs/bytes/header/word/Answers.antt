use Rattle.vc_base.proofs.Common.{rules}
use Rattle.vc_seg.specs.Field.{field_at}
use Rattle.vc_image_check.proofs.bytes.header.word.Goals as goal

pub returns : goal.returns
unfolding field_at
returns c = search rules
