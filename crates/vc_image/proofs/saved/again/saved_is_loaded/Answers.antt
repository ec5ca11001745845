use Rattle.vc_image.specs.Save.{image_in}
use Rattle.vc_image.proofs.Returning.{never-unsound, same-in}
use Rattle.vc_image.proofs.Joined.{sound-in}
use Rattle.vc_image.proofs.saved.again.saved_is_loaded.Goals as goal

pub returns-clause-never_bad : goal.returns-clause-never_bad
returns-clause-never_bad g c = λ kinds part s h.
    let region = c.args.region.now in
    let dicts = c.args.dicts.now in
    never-unsound kinds (image_in region dicts) part (sound-in kinds region dicts s) h

pub returns-clause-same : goal.returns-clause-same
returns-clause-same g c = λ kinds terms s h. same-in kinds terms c.args.dicts.now c.args.loaded.now.region c.args.loaded.now.dicts c.args.region.now s h
