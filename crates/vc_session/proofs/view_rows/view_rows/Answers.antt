use Rattle.vc_base.proofs.Common.{refl, digits}
use Rattle.percent_encoding.specs.Percent.{percent_decode}
use Rattle.vc_session.proofs.view_rows.view_rows.Goals as goal

pub returns : goal.returns
unfolding digits percent_decode
returns c = record { set_over_set = refl; ordered_over_ordered = refl; bag_over_bag = refl }
