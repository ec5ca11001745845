use Rattle.vc_base.proofs.Common.{refl, digits}
use Rattle.vc_session.proofs.run_rows.gap_rows.Goals as goal

pub returns : goal.returns
unfolding digits
returns c = record { freed_gap = refl; tie = refl; merging = refl; aligned = refl; fixed = refl }
