use Rattle.vc_base.proofs.Common.{map}
use Rattle.vc_image.proofs.loading.load_best.Goals as goal

pub returns-in-Ok-None-clause-loaded : goal.returns-in-Ok-None-clause-loaded
returns-in-Ok-None-clause-loaded g c =
    c.load_sound.ensures.loaded (map g.D.DictDisc.rules c.args.kinds.now.items) (rw c.in-Ok-None.field-0-is at c.in-Ok-None.ensures.none)
