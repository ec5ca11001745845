use Rattle.vc_base.proofs.Common.{refl, digits}
use Rattle.vc_session.proofs.method_rows.pool_rows.Goals as goal

pub returns : goal.returns
unfolding digits
returns c = record { pool = refl; pool_numbers = refl }
