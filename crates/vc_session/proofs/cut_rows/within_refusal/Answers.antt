use Rattle.vc_base.proofs.Common.{refl, digits}
use Rattle.vc_session.proofs.cut_rows.within_refusal.Goals as goal

pub returns-clause-text : goal.returns-clause-text
unfolding digits
returns-clause-text c = refl

pub returns-clause-granted : goal.returns-clause-granted
unfolding digits
returns-clause-granted c = refl
