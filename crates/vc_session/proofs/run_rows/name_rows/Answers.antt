use Rattle.vc_base.proofs.Common.{refl, digits}
use Rattle.vc_session.proofs.run_rows.name_rows.Goals as goal

pub returns : goal.returns
unfolding digits
returns c = record { kept_name = refl; put = refl; again = refl; taken = refl; all = refl }
