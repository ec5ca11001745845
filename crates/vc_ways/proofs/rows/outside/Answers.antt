use Rattle.vc_base.proofs.Common.{refl, digits}
use Rattle.vc_ways.proofs.rows.outside.Goals as goal

pub returns : goal.returns
unfolding digits
returns c = record { region = refl; command = refl; fixed = refl; nothing = refl; greatest = refl; exists = refl; not_resized = refl; freed = refl; bad = refl }
