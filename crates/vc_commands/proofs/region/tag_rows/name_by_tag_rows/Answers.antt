use Rattle.vc_base.proofs.Common.{refl, digits}
use Rattle.vc_commands.proofs.region.tag_rows.name_by_tag_rows.Goals as goal

pub returns : goal.returns
unfolding digits
returns c = record { none = refl; first = refl; most = refl }
