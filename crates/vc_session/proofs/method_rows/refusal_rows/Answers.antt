use Rattle.vc_base.proofs.Common.{refl, digits}
use Rattle.vc_session.proofs.method_rows.refusal_rows.Goals as goal

pub returns : goal.returns
unfolding digits
returns c = record { refused_budget = refl; method_refusals = refl }
