use Rattle.vc_base.proofs.Common.{refl, digits}
use Rattle.percent_encoding.specs.Percent.{percent_decode}
use Rattle.vc_session.proofs.dict_rows.list_rows.Goals as goal

pub returns : goal.returns
unfolding digits percent_decode
returns c = record { list_of_letters = refl; queue_in_region = refl; unnamed_deletes = refl }
