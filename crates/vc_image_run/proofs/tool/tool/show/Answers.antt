use Rattle.vc_base.proofs.Common.{map, refl}
use Rattle.vc_image_run.proofs.Telling.{told-shown}
use Rattle.vc_image_run.proofs.tool.tool.show.Goals as goal

pub returns-in-Err-clause-shows : goal.returns-in-Err-clause-shows
returns-in-Err-clause-shows g c =
    told-shown (map g.D.DictDisc.rules c.args.kinds.now.items) c.args.image.now _ _ _ c.in-Err.fault c.tell.result c.in-Err.ensures.err c.tell.ensures.status (refl, c.tell.ensures.told)
