use Rattle.vc_base.proofs.Common.{refl, digits}
use Rattle.vc_session.proofs.version_rows.without_numbers.Goals as goal

pub returns-clause-stat : goal.returns-clause-stat
unfolding digits
returns-clause-stat c = refl

pub returns-clause-quiet : goal.returns-clause-quiet
unfolding digits
returns-clause-quiet c = refl
