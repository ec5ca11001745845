use Rattle.vc_image.proofs.Begun.{front-in}
use Rattle.vc_image.proofs.saved.fronts.saved_front.Goals as goal

pub returns : goal.returns
returns g c = front-in c.args.region.now c.args.dicts.now c.requires.best c.requires.few
