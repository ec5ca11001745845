use Rattle.vc_base.proofs.Common.{refl, arith, same_Some, rules}
use Rattle.vc_session.proofs.SessionLasts.{arming-same}
use Rattle.vc_session.proofs.HowFar.{so_far-last, so_far-part}
use Rattle.vc_session.proofs.RunMiddle.{bad-line}
use Rattle.vc_steps.proofs.SettledShelf.{keeps-same}
use Rattle.vc_session.proofs.SoFar.{end-count, end-none, end-same, end-whole, so_far-end_bad, so_far-end_good, so_far-end_none, so_far-none}
use Rattle.vc_session.proofs.engine.run_last.Goals as goal

pub run_line-requires-clause-unarmed : goal.run_line-requires-clause-unarmed
run_line-requires-clause-unarmed g c =
    let follows = end-count c.args.cutter.now c.end.new.self c.end.result c.end.ensures.state c.end.ensures.cut c.in-Whole.is in
    λ first. c.requires.goes_on.unarmed (omega (arith, first, c.number.ensures.value, follows))

pub run_line-requires-clause-can_run : goal.run_line-requires-clause-can_run
run_line-requires-clause-can_run g c =
    let follows = end-count c.args.cutter.now c.end.new.self c.end.result c.end.ensures.state c.end.ensures.cut c.in-Whole.is in
    record {
      stands = c.requires.session;
      can_count = λ is_quiet. c.requires.goes_on.can_count is_quiet c.number.result (omega (arith, c.number.ensures.value, follows));
    }

pub returns-in-Some : goal.returns-in-Some
returns-in-Some g c =
    let is = c.requires.goes_on.feeds.cutting in
    let last = end-whole c.args.cutter.now c.end.new.self c.end.result is c.end.ensures.state c.end.ensures.cut c.in-Whole.is in
    let follows = end-count c.args.cutter.now c.end.new.self c.end.result c.end.ensures.state c.end.ensures.cut c.in-Whole.is in
    let ran = rw (c.line.ensures, c.number.ensures.value, c.in-Some.is) at c.in_ok-fault-in-Whole.ensures.runs.runs.ran in
    record {
      lasts = c.run_line.ensures.runs.lasts;
      runs = record {
        ended =
            rw c.number-in-Some.ensures.value
            (record { end = λ after r at_end written. so_far-end_bad is _ _ c.end.new.self.count c.end.new.self.line last follows _ _ _ c.in-Some.fault c.end.new.self.count after refl refl (so_far-none _ c.requires.none r) at_end ran written });
        far = record {
          far = λ r at_end.
              let line = bad-line c.args.quiet c.args.tool c.end.new.self.count c.end.new.self.line c.in-Some.fault ran in
              so_far-part _ _ _ _ (same_Some _ _ line.idle.told) line.idle.armed (so_far-none _ c.requires.none r) c.run_line.ensures.runs.lasts.lasts.accounts;
        };
      };
    }

pub returns-in-None : goal.returns-in-None
returns-in-None g c =
    let is = c.requires.goes_on.feeds.cutting in
    let last = end-whole c.args.cutter.now c.end.new.self c.end.result is c.end.ensures.state c.end.ensures.cut c.in-Whole.is in
    let follows = end-count c.args.cutter.now c.end.new.self c.end.result c.end.ensures.state c.end.ensures.cut c.in-Whole.is in
    let ran = rw (c.line.ensures, c.number.ensures.value, c.in-None.is) at c.in_ok-fault-in-Whole.ensures.runs.runs.ran in
    record {
      lasts = c.run_line.ensures.runs.lasts;
      runs = record {
        ended = record { end = λ after r at_end written. so_far-end_good is _ _ c.end.new.self.count c.end.new.self.line last follows _ _ _ after (omega (arith, c.number.ensures.value, c.number.ensures.few)) refl refl (so_far-none _ c.requires.none r) at_end ran written };
        far = record { far = λ r at_end. so_far-last _ _ c.end.new.self.count c.end.new.self.line last follows _ _ _ refl refl (so_far-none _ c.requires.none r) at_end ran };
      };
    }

pub returns-in_default : goal.returns-in_default
returns-in_default g c =
    let is = c.requires.goes_on.feeds.cutting in
    let same = end-same c.args.cutter.now c.end.new.self c.end.result c.end.ensures.state c.end.ensures.cut c.in_default.not-Whole in
    record {
      lasts = arming-same c.requires.session;
      runs = record {
        ended = record { end = λ after r at_end written. so_far-end_none is c.end.new.self.count after same (so_far-none _ c.requires.none r) at_end (end-none c.args.cutter.now c.end.result is c.end.ensures.cut c.in_default.not-Whole) written };
        far = record { far = λ {start} {text} r at_end. so_far-part _ text c.args.scratch.now.replies.items c.args.scratch.now.replies.items refl refl (so_far-none _ c.requires.none r) (keeps-same _) };
      };
    }

pub returns-in_err-fault-in-Whole : goal.returns-in_err-fault-in-Whole
returns-in_err-fault-in-Whole g c =
    record {
      lasts = c.run_line.ensures.runs.lasts;
      runs = record {
        ended = search rules;
        far = record { far = λ r at_end. so_far-part _ _ _ _ c.in_err-fault-in-Whole.ensures.same c.in_err-fault-in-Whole.ensures.armed (so_far-none _ c.requires.none r) c.run_line.ensures.runs.lasts.lasts.accounts };
      };
    }
