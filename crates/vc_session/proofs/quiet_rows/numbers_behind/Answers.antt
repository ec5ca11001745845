use Rattle.vc_base.proofs.Common.{refl, digits}
use Rattle.vc_session.proofs.quiet_rows.numbers_behind.Goals as goal

pub returns : goal.returns
unfolding digits
returns c = refl
