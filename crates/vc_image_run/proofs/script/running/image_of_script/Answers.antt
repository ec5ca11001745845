use Rattle.vc_base.proofs.Common.{◌≡◌, inl, refl, subst, Discipline, map}
use Rattle.vc_image_run.specs.Script.Promises.{Saves}
use Rattle.vc_image_run.proofs.Ended.{runs-none, saves-arms, saves-at_rest}
use Rattle.vc_steps.specs.Moment.{moment, moment_at_end, moment_at_rest}
use Rattle.vc_session.proofs.HowFar.{first-arms}
use Rattle.vc_session.proofs.Rest.{new-ended, new-moment, new-session}
use Rattle.vc_session.proofs.SessionLasts.{lent-same}
use Rattle.vc_session.specs.Streams.{flows}
use Rattle.vc_script.specs.declared.tool.Tool.TheVariants.{Dtrun}
use Rattle.vc_image_run.proofs.script.running.image_of_script.Given as given
use Rattle.vc_image_run.proofs.script.running.image_of_script.Goals as goal

abbrev meaning : (g : given.Over) → (x : g.dyn-1.0.I) × (g.dyn-1.0.entry x).0.Denot → Discipline
meaning g p = (g.dyn-1.0.entry p.0).1.state p.1

pub run_and_save-image-requires-clause-session : goal.run_and_save-image-requires-clause-session
run_and_save-image-requires-clause-session g c =
    new-session (meaning g) g.D.DictDisc.rules g.D.DictDisc.gone c.args.shelf.now c.in-Ok-over.session c.args.kinds.now.items c.in-Ok-over.ensures.none

pub returns-in_default-clause-saves : goal.returns-in_default-clause-saves
returns-in_default-clause-saves g c = inl (runs-none _ _ _ refl refl)

pub returns-in_default-over-clause-saves : goal.returns-in_default-over-clause-saves
returns-in_default-over-clause-saves g c = inl (runs-none _ _ _ refl refl)

pub returns-in_default-clause-keeps : goal.returns-in_default-clause-keeps
returns-in_default-clause-keeps g c = lent-same

pub returns-in_default-over-clause-keeps : goal.returns-in_default-over-clause-keeps
returns-in_default-over-clause-keeps g c = lent-same

pub returns : goal.returns
returns g c =
    let M = meaning g in
    let by = g.D.DictDisc.rules in
    let gone = g.D.DictDisc.gone in
    let start = moment M by gone c.args.shelf.now c.in-Ok-over.session c.args.kinds.now.items in
    let last = moment M by gone c.run_and_save-image.new.shelf c.run_and_save-image.new.session c.run_and_save-image.new.kinds.items in
    let before = moment_at_rest M by gone c.args.shelf.now c.args.kinds.now.items in
    let after = moment_at_rest M by gone c.end.new.shelf c.end.new.kinds.items in
    let same : start ≡ before = new-moment M by gone c.args.shelf.now c.in-Ok-over.session c.args.kinds.now.items c.in-Ok-over.ensures.none c.in-Ok-over.ensures.unarmed in
    let old = flows g.S.Source.left g.S.Source.failures g.O.Sink.written g.O.Sink.failures c.args.source.now c.args.out.now in
    let new = flows g.S.Source.left g.S.Source.failures g.O.Sink.written g.O.Sink.failures c.run_and_save-image.new.source c.run_and_save-image.new.out in
    record {
      saves =
          saves-at_rest start before (moment_at_end last) after old new same
          (λ written. record { written = refl; accounts = c.end.ensures.shelf; gone = c.end.ensures.gone }) refl (map by c.args.kinds.now.items) c.run_and_save-image.result
          (subst (λ ks. Saves ks c.run_and_save-image.result start (moment_at_end last) old new) c.run_and_save-image.ensures.lasts.lasts.keeps_rules c.run_and_save-image.ensures.runs);
      keeps =
          new-ended M by gone c.args.shelf.now c.in-Ok-over.session c.args.kinds.now.items c.in-Ok-over.ensures.none c.in-Ok-over.ensures.unarmed c.run_and_save-image.ensures.lasts
          (first-arms Dtrun (g.S.Source.left c.args.source.now) last (saves-arms (map by c.run_and_save-image.new.kinds.items) start (moment_at_end last) old new c.run_and_save-image.result c.run_and_save-image.ensures.runs))
          c.end.ensures.shelf c.end.ensures.rules c.end.ensures.unarmed;
    }
