use Rattle.vc_base.proofs.Common.{refl, digits}
use Rattle.vc_session.proofs.run_rows.refusal_rows.Goals as goal

pub returns : goal.returns
unfolding digits
returns c = record { refused_segment = refl; free_and_close = refl; closed_empty = refl; refusals = refl }
