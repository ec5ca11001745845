use Rattle.vc_base.proofs.Common.{refl, digits}
use Rattle.vc_session.proofs.method_rows.last_rows.Goals as goal

pub returns : goal.returns
unfolding digits
returns c = record { last = refl; last_resized = refl }
