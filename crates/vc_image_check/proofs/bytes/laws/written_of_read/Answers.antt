use Rattle.vc_image_check.specs.Laws.Reading.{written-back}
use Rattle.vc_image_check.proofs.bytes.laws.written_of_read.Goals as goal

pub returns : goal.returns
returns c = λ bytes small h. written-back bytes small h
