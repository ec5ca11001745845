use Rattle.vc_image.proofs.Returning.{savable-loaded}
use Rattle.vc_image.proofs.saved.again.loaded_can_be_saved.Goals as goal

pub returns : goal.returns
returns g c = λ kinds terms image lawful h. savable-loaded kinds terms image c.args.loaded.now.region c.args.loaded.now.dicts lawful h
