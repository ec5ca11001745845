use Rattle.vc_image.proofs.LoadedAgain.{savable-in}
use Rattle.vc_image.proofs.saved.again.sound_can_be_saved.Goals as goal

pub returns : goal.returns
returns g c = λ kinds image lawful sound h. savable-in kinds image c.args.region.now c.args.dicts.now lawful sound h
