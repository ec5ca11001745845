use Rattle.vc_image.proofs.Joined.{read-in, readable-in, sound-in}
use Rattle.vc_image.proofs.saved.sound.saved_is_sound.Goals as goal

pub returns-clause-sound : goal.returns-clause-sound
returns-clause-sound g c = λ kinds s. sound-in kinds c.args.region.now c.args.dicts.now s

pub returns-clause-again : goal.returns-clause-again
returns-clause-again g c = λ kinds s.
    let region = c.args.region.now in
    let dicts = c.args.dicts.now in
    read-in kinds region dicts (readable-in kinds region dicts s)
