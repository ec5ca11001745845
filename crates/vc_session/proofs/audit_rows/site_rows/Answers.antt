use Rattle.vc_base.proofs.Common.{refl, digits}
use Rattle.vc_session.proofs.audit_rows.site_rows.Goals as goal

pub returns : goal.returns
unfolding digits
returns c = record { profiled = refl }
