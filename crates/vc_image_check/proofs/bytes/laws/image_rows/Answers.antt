use Rattle.vc_base.proofs.Common.{refl}
use Rattle.vc_seg.specs.Field.{field_at}
use Rattle.vc_image_check.specs.Bytes.Contents.{contents_of_image}
use Rattle.vc_image_check.specs.Bytes.Image.{image_of, number_bytes}
use Rattle.vc_image_check.proofs.bytes.laws.image_rows.Goals as goal

pub returns-clause-nothing : goal.returns-clause-nothing
unfolding image_of number_bytes
returns-clause-nothing c = refl

pub returns-clause-written : goal.returns-clause-written
unfolding image_of number_bytes
returns-clause-written c = refl

pub returns-clause-read : goal.returns-clause-read
unfolding contents_of_image field_at
returns-clause-read c = refl
