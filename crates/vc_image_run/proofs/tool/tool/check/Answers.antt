use Rattle.vc_base.proofs.Common.{map, refl}
use Rattle.vc_image_run.proofs.Telling.{put-checked, told-checked}
use Rattle.vc_image_run.proofs.tool.tool.check.Goals as goal

pub returns-in-Ok-clause-checks : goal.returns-in-Ok-clause-checks
returns-in-Ok-clause-checks g c =
    put-checked (map g.D.DictDisc.rules c.args.kinds.now.items) c.args.image.now _ _ c.put.result c.in-Ok.ensures c.put.ensures.puts

pub returns-in-Err-clause-checks : goal.returns-in-Err-clause-checks
returns-in-Err-clause-checks g c =
    told-checked (map g.D.DictDisc.rules c.args.kinds.now.items) c.args.image.now _ _ c.in-Err.fault c.tell.result c.in-Err.ensures c.tell.ensures.status (refl, c.tell.ensures.told)
