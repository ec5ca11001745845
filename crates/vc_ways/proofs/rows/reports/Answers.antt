use Rattle.vc_base.proofs.Common.{refl, digits}
use Rattle.vc_ways.proofs.rows.reports.Goals as goal

pub returns : goal.returns
unfolding digits
returns c = record { freed_gap = refl; three_classes = refl; site = refl; none = refl }
