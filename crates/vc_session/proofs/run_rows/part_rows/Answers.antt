use Rattle.vc_base.proofs.Common.{refl, digits}
use Rattle.hex.specs.Hex.{encode_with}
use Rattle.percent_encoding.specs.Percent.{percent_decode}
use Rattle.vc_session.proofs.run_rows.part_rows.Goals as goal

pub returns : goal.returns
unfolding digits percent_decode encode_with
returns c = record { written = refl; grown = refl; parsed = refl; line_moved = refl; buffer_moved = refl }
