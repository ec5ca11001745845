use Rattle.vc_base.proofs.Common.{refl, digits}
use Rattle.vc_session.proofs.version_rows.numbered_replies.Goals as goal

pub returns-clause-text : goal.returns-clause-text
unfolding digits
returns-clause-text c = refl

pub returns-clause-needs : goal.returns-clause-needs
unfolding digits
returns-clause-needs c = refl
