use Rattle.vc_base.proofs.Common.{refl}
use Rattle.vc_cost.proofs.BestLemmas.{alloc_made}
use Rattle.vc_cost.proofs.best_making.alloc_last.Goals as goal

-- src/best_making.rt:26:1
pub returns-in-Ok-clause-made : goal.returns-in-Ok-clause-made
returns-in-Ok-clause-made g c =
    alloc_made _ c.args.best.now c.alloc.new.self c.args.live.now.items c.put_behind.new.live.items c.args.steps.now c.alloc.new.steps c.requires.live c.args.size _ c.in-Ok.at c.put_behind.ensures.items c.in-Ok.ensures.answer
    c.in-Ok.ensures.disc c.in-Ok.ensures.put (c.alloc.ensures.call refl)
