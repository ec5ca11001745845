use Rattle.vc_base.proofs.Common.{refl, digits}
use Rattle.percent_encoding.specs.Percent.{percent_decode}
use Rattle.vc_session.proofs.dict_rows.set_rows.Goals as goal

pub returns : goal.returns
unfolding digits percent_decode
returns c = record { ordered_set_of_fruit = refl; ordered_bag_without_case = refl; bag_to_set = refl; bag_to_stack = refl }
