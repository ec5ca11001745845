use Rattle.vc_image.proofs.Joined.{dicts-in, read-in}
use Rattle.vc_image.proofs.saved.reading.saved_is_read.Goals as goal

pub returns-clause-contents : goal.returns-clause-contents
returns-clause-contents g c = λ kinds s. read-in kinds c.args.region.now c.args.dicts.now s

pub returns-clause-dicts : goal.returns-clause-dicts
returns-clause-dicts g c = λ kinds s. dicts-in kinds c.args.region.now c.args.dicts.now s
