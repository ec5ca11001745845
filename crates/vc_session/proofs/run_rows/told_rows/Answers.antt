use Rattle.vc_base.proofs.Common.{refl, digits}
use Rattle.vc_session.proofs.run_rows.told_rows.Goals as goal

pub returns : goal.returns
unfolding digits
returns c = record { numbers = refl; told = refl }
