use Rattle.vc_base.proofs.Common.{◌≡◌, refl, ◌∙◌, arith, Discipline, rules}
use Rattle.vc_steps.specs.Moment.{moment_at_end, moment, moment_at_rest}
use Rattle.vc_steps.proofs.SettledShelf.{keeps-same}
use Rattle.vc_session.proofs.GeneratedCuts.{cuts-generated}
use Rattle.vc_session.proofs.QuietCounts.{busy-none}
use Rattle.vc_session.proofs.SessionLasts.{arming-of, lent-same}
use Rattle.vc_session.proofs.SoFar.{on_err}
use Rattle.vc_steps.specs.Told.{rules_in}
use Rattle.vc_session.proofs.GeneratedRun.{asked-most, generated-rests, if_some}
use Rattle.vc_session.proofs.Rest.{new-ended, new-moment, new-session}
use Rattle.vc_session.proofs.generated.run_generated.Given as given
use Rattle.vc_session.proofs.generated.run_generated.Goals as goal

abbrev meaning : (g : given.Over) → (x : g.dyn-1.0.I) × (g.dyn-1.0.entry x).0.Denot → Discipline
meaning g p = (g.dyn-1.0.entry p.0).1.state p.1

pub run_all-ended-requires-clause-session : goal.run_all-ended-requires-clause-session
run_all-ended-requires-clause-session g c =
    new-session (meaning g) g.D.DictDisc.rules g.D.DictDisc.gone c.args.shelf.now c.in_ok-session.session c.args.kinds.now.items c.in_ok-session.ensures.none

pub run_all-ended-requires-clause-counts : goal.run_all-ended-requires-clause-counts
run_all-ended-requires-clause-counts g c = busy-none (meaning g) (rules_in g.D.DictDisc.rules c.args.kinds.now.items) c.args.shelf.now c.in_ok-session.session c.in_ok-session.ensures.none.0

pub run_all-ended-requires-clause-most : goal.run_all-ended-requires-clause-most
run_all-ended-requires-clause-most g c = asked-most c.args.asked.now.words.generate c.in-Some.n c.in-Some.is c.args.asked.now.in_range

pub returns : goal.returns
returns g c =
    let M = meaning g in
    let rules = g.D.DictDisc.rules in
    let gone = g.D.DictDisc.gone in
    let start = moment M rules gone c.args.shelf.now c.in_ok-session.session c.args.kinds.now.items in
    let last = moment M rules gone c.run_all-ended.new.shelf c.run_all-ended.new.session c.run_all-ended.new.kinds.items in
    let before = moment_at_rest M rules gone c.args.shelf.now c.args.kinds.now.items in
    let after = moment_at_rest M rules gone c.end.new.shelf c.end.new.kinds.items in
    let same : start ≡ before = new-moment M rules gone c.args.shelf.now c.in_ok-session.session c.args.kinds.now.items c.in_ok-session.ensures.none c.in_ok-session.ensures.unarmed in
    record {
      runs =
          if_some _ c.args.asked.now.words.generate c.in-Some.n c.in-Some.is
          (generated-rests c.args.tool c.args.asked.now.words c.in-Some.n start before (moment_at_end last) after _ _ _ _ c.run_all-ended.result same
          (λ written. record { written = refl; accounts = c.end.ensures.shelf; gone = c.end.ensures.gone }) c.run_all-ended.ensures.runs);
      keeps =
          new-ended M rules gone c.args.shelf.now c.in_ok-session.session c.args.kinds.now.items c.in_ok-session.ensures.none c.in_ok-session.ensures.unarmed (arming-of c.run_all-ended.ensures.lasts)
          (λ first. c.run_all-ended.ensures.lasts.armed ∙ c.in_ok-session.ensures.unarmed) c.end.ensures.shelf c.end.ensures.rules c.end.ensures.unarmed;
    }

pub returns-in_err-session-clause-runs : goal.returns-in_err-session-clause-runs
returns-in_err-session-clause-runs g c =
    if_some _ c.args.asked.now.words.generate c.in-Some.n c.in-Some.is
    (record {
      run = search rules;
      cut = on_err _ _ (cuts-generated c.args.tool c.args.asked.now.words c.in-Some.n c.in-Some.is (asked-most c.args.asked.now.words.generate c.in-Some.n c.in-Some.is c.args.asked.now.in_range) _ _ (keeps-same _) refl);
      read = search rules;
      write = search rules;
      writes = omega arith;
    })

pub returns-in_err-session-clause-keeps : goal.returns-in_err-session-clause-keeps
returns-in_err-session-clause-keeps g c = lent-same
