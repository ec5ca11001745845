use Rattle.vc_base.proofs.Common.{rules}
use Rattle.vc_session.proofs.RunAsked.{asked-script, cuts-asked, generated-ahead, some-of}
use Rattle.vc_session.proofs.SoFar.{if_err, on_err}
use Rattle.vc_session.proofs.tool.run_asked.Goals as goal

pub returns-in-None-clause-runs : goal.returns-in-None-clause-runs
returns-in-None-clause-runs g c = asked-script c.in-None.is c.run_source.ensures.runs

pub returns-in_err-run_generated-in-Some-clause-runs : goal.returns-in_err-run_generated-in-Some-clause-runs
returns-in_err-run_generated-in-Some-clause-runs g c =
    let r = some-of _ _ _ c.in-Some.is c.in_err-run_generated-in-Some.ensures.runs in
    record {
      replay = search rules;
      cut = on_err _ _ (cuts-asked c.args.tool c.args.asked.now.words _ _ _ c.in-Some.is r.cut);
      not_ahead = if_err _ _ _ (generated-ahead c.args.tool c.args.asked.now.words _ _ _ _ c.in-Some.is);
      read = search rules;
      write = search rules;
      reads = search rules;
      writes = search rules;
    }
