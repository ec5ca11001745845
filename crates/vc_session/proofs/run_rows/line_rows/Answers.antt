use Rattle.vc_base.proofs.Common.{refl, digits}
use Rattle.vc_session.proofs.run_rows.line_rows.Goals as goal

pub returns : goal.returns
unfolding digits
returns c = record { empty = refl; first_block = refl; bad_line = refl; fault = refl }
