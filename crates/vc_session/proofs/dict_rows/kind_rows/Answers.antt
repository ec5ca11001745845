use Rattle.vc_base.proofs.Common.{refl, digits}
use Rattle.percent_encoding.specs.Percent.{percent_decode, percent_encode_byte}
use Rattle.vc_session.proofs.dict_rows.kind_rows.Goals as goal

pub returns : goal.returns
unfolding digits percent_decode percent_encode_byte
returns c = record { text_and_clip = refl }
