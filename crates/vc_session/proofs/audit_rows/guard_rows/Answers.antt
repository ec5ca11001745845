use Rattle.vc_base.proofs.Common.{refl, digits}
use Rattle.percent_encoding.specs.Percent.{percent_decode}
use Rattle.vc_session.proofs.audit_rows.guard_rows.Goals as goal

pub returns : goal.returns
unfolding digits percent_decode
returns c = record { audited = refl; watched = refl; damaged = refl }
