use Rattle.vc_base.proofs.Common.{◌≡◌, refl, Discipline, rules}
use Rattle.vc_steps.specs.Moment.{moment_at_end, moment, moment_at_rest}
use Rattle.vc_steps.proofs.SettledShelf.{keeps-same}
use Rattle.vc_session.proofs.Broken.{cuts-source}
use Rattle.vc_session.proofs.HowFar.{first-arms, unarmed-arms}
use Rattle.vc_session.proofs.QuietCounts.{busy-none}
use Rattle.vc_session.proofs.SessionLasts.{lent-same}
use Rattle.vc_session.proofs.SoFar.{on_err}
use Rattle.vc_steps.specs.Told.{rules_in}
use Rattle.vc_session.proofs.Rest.{new-ended, new-moment, new-session, runs-rest}
use Rattle.vc_session.proofs.script.run_source.Given as given
use Rattle.vc_session.proofs.script.run_source.Goals as goal

abbrev meaning : (g : given.Over) → (x : g.dyn-1.0.I) × (g.dyn-1.0.entry x).0.Denot → Discipline
meaning g p = (g.dyn-1.0.entry p.0).1.state p.1

pub run_script-ended-requires-clause-session : goal.run_script-ended-requires-clause-session
run_script-ended-requires-clause-session g c =
    new-session (meaning g) g.D.DictDisc.rules g.D.DictDisc.gone c.args.shelf.now c.in_ok-session.session c.args.kinds.now.items c.in_ok-session.ensures.none

pub run_script-ended-requires-clause-counts : goal.run_script-ended-requires-clause-counts
run_script-ended-requires-clause-counts g c = λ quiet. busy-none (meaning g) (rules_in g.D.DictDisc.rules c.args.kinds.now.items) c.args.shelf.now c.in_ok-session.session c.in_ok-session.ensures.none.0

pub returns : goal.returns
returns g c =
    let M = meaning g in
    let rules = g.D.DictDisc.rules in
    let gone = g.D.DictDisc.gone in
    let start = moment M rules gone c.args.shelf.now c.in_ok-session.session c.args.kinds.now.items in
    let last = moment M rules gone c.run_script-ended.new.shelf c.run_script-ended.new.session c.run_script-ended.new.kinds.items in
    let before = moment_at_rest M rules gone c.args.shelf.now c.args.kinds.now.items in
    let after = moment_at_rest M rules gone c.end.new.shelf c.end.new.kinds.items in
    let same : start ≡ before = new-moment M rules gone c.args.shelf.now c.in_ok-session.session c.args.kinds.now.items c.in_ok-session.ensures.none c.in_ok-session.ensures.unarmed in
    record {
      runs =
          runs-rest c.args.tool c.args.words.now start before (moment_at_end last) after _ _ c.run_script-ended.result same
          (λ written. record { written = refl; accounts = c.end.ensures.shelf; gone = c.end.ensures.gone }) refl c.run_script-ended.ensures.runs.script;
      keeps =
          new-ended M rules gone c.args.shelf.now c.in_ok-session.session c.args.kinds.now.items c.in_ok-session.ensures.none c.in_ok-session.ensures.unarmed c.run_script-ended.ensures.lasts
          (first-arms c.args.tool (g.S.Source.left c.args.source.now) last c.run_script-ended.ensures.runs.script.arms) c.end.ensures.shelf c.end.ensures.rules c.end.ensures.unarmed;
    }

pub returns-in_err-cutter-clause-runs : goal.returns-in_err-cutter-clause-runs
returns-in_err-cutter-clause-runs g c =
    record {
      replay = search rules;
      cut_short = search rules;
      cut = on_err _ _ (cuts-source c.args.tool c.args.words.now _ _ _ (keeps-same _) refl);
      not_ahead = search rules;
      arms = unarmed-arms _ _ (moment_at_rest (meaning g) g.D.DictDisc.rules g.D.DictDisc.gone c.args.shelf.now c.args.kinds.now.items) refl;
      read = search rules;
      write = search rules;
      reads = search rules;
      writes = search rules;
    }

pub returns-in_err-cutter-clause-keeps : goal.returns-in_err-cutter-clause-keeps
returns-in_err-cutter-clause-keeps g c = lent-same

pub returns-in_err-session-clause-runs : goal.returns-in_err-session-clause-runs
returns-in_err-session-clause-runs g c =
    record {
      replay = search rules;
      cut_short = search rules;
      cut = on_err _ _ (cuts-source c.args.tool c.args.words.now _ _ _ (keeps-same _) refl);
      not_ahead = search rules;
      arms = unarmed-arms _ _ (moment_at_rest (meaning g) g.D.DictDisc.rules g.D.DictDisc.gone c.args.shelf.now c.args.kinds.now.items) refl;
      read = search rules;
      write = search rules;
      reads = search rules;
      writes = search rules;
    }

pub returns-in_err-session-clause-keeps : goal.returns-in_err-session-clause-keeps
returns-in_err-session-clause-keeps g c = lent-same
