use Rattle.vc_base.proofs.Common.{Discipline}
use Rattle.vc_image_run.proofs.Copied.{few-entries}
use Rattle.vc_image_run.proofs.Ended.{saved-by}
use Rattle.vc_steps.specs.Moment.{moment}
use Rattle.vc_image_run.proofs.script.running.run_and_save.Given as given
use Rattle.vc_image_run.proofs.script.running.run_and_save.Goals as goal

abbrev meaning : (g : given.Over) → (x : g.dyn-1.0.I) × (g.dyn-1.0.entry x).0.Denot → Discipline
meaning g p = (g.dyn-1.0.entry p.0).1.state p.1

pub image_of_session-requires : goal.image_of_session-requires
image_of_session-requires g c =
    record { few = few-entries c.run_script-ran.new.session.dicts.entries c.run_script-ran.ensures.lasts.lasts.stands.views.numbered }

pub returns-in-None : goal.returns-in-None
returns-in-None g c =
    record {
      lasts = c.run_script-ran.ensures.lasts;
      runs =
          saved-by (meaning g) g.D.DictDisc.rules g.D.DictDisc.gone c.run_script-ran.new.shelf c.run_script-ran.new.session c.run_script-ran.new.kinds.items c.run_script-ran.ensures.lasts.lasts.stands
          (moment (meaning g) g.D.DictDisc.rules g.D.DictDisc.gone c.args.shelf.now c.args.session.now c.args.kinds.now.items) _ _ c.image_of_session.result
          (rw (c.in-Ok.is, c.in-None.is) at c.run_script-ran.ensures.runs) c.image_of_session.ensures.image c.image_of_session.ensures.sound c.image_of_session.ensures.err;
    }
