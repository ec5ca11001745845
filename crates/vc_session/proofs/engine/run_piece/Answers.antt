use Rattle.vc_base.proofs.Common.{◌≡◌, ◌+◌, IsTrue, sym, refl, ap, ◌∙◌, subst, arith, length-drop, same_Some, take_rest, rules}
use Rattle.vc_session.proofs.QuietCounts.{can-same}
use Rattle.vc_session.specs.SoFar.{Ends}
use Rattle.vc_session.proofs.SessionLasts.{arming-same, arming-trans}
use Rattle.vc_session.proofs.HowFar.{goes-far, goes-far-on}
use Rattle.vc_session.proofs.RunMiddle.{bad-line}
use Rattle.vc_session.proofs.SoFar.{fed-is, more-count, more-kept, ok-some, on_err, so_far-bad_cut, so_far-bad_line, so_far-line, so_far-more, so_far-none, whole-count, whole-kept}
use Rattle.vc_script.specs.Cutter.{result_of_feed}
use Rattle.vc_script.specs.declared.cutter.Cut.TheVariants.{Whole}
use Rattle.vc_session.proofs.engine.run_piece.Given as given
use Rattle.vc_session.proofs.engine.run_piece.Goals as goal
use Rattle.vc_session.proofs.engine.run_piece.Goals.{In-Whole}

-- the piece ends a line here
fed-whole : (g : given.Over) (c : In-Whole g) → result_of_feed c.loop-rest.cutter c.loop-rest.rest.now ≡ record { after = c.feed-cut.new.self; cut = Whole; used = c.feed-cut.result.1 }
fed-whole g c = fed-is c.loop-rest.cutter c.loop-rest.rest.now c.feed-cut.new.self _ _ c.feed-cut.result.1 c.feed-cut.ensures.fed c.in-Whole.is

pub loop-rest-init : goal.loop-rest-init
loop-rest-init g c = record {
  feeds = c.requires.goes_on.feeds;
  lasts = arming-same c.requires.session;
  counts = c.requires.goes_on.can_count;
  unarmed = c.requires.goes_on.unarmed;
  goes_on = record { on = λ r. so_far-none _ c.requires.none r };
  less = omega arith;
}

pub loop-rest-preserved-in-More : goal.loop-rest-preserved-in-More
loop-rest-preserved-in-More g c =
    let e = fed-is c.loop-rest.cutter c.loop-rest.rest.now c.feed-cut.new.self _ _ c.feed-cut.result.1 c.feed-cut.ensures.fed c.in-More.is in
    let kept = more-kept c.loop-rest.cutter c.loop-rest.rest.now c.feed-cut.new.self c.feed-cut.result.1 c.loop-rest.invariant.feeds.cutting e in
    rw take_rest
    (record {
      feeds = record { is_open = subst IsTrue (sym kept.fed) c.loop-rest.invariant.feeds.is_open; cutting = kept.cutting };
      lasts = c.loop-rest.invariant.lasts;
      unarmed = λ none. c.loop-rest.invariant.unarmed (sym (more-count c.loop-rest.cutter c.loop-rest.rest.now c.feed-cut.new.self c.feed-cut.result.1 c.loop-rest.invariant.feeds.cutting e) ∙ none);
      counts = can-same _ _ _ _ _ (more-count c.loop-rest.cutter c.loop-rest.rest.now c.feed-cut.new.self c.feed-cut.result.1 c.loop-rest.invariant.feeds.cutting e) c.loop-rest.invariant.counts;
      goes_on = record { on = λ r. so_far-more c.feed-cut.new.self c.feed-cut.result.1 c.loop-rest.invariant.feeds.cutting (c.loop-rest.invariant.goes_on.on r) e };
      less = omega (arith, c.loop-rest.invariant.less, kept.less, c.feed-cut.ensures.within, length-drop c.feed-cut.result.1 c.loop-rest.rest.now);
    })

pub returns-in-Bad : goal.returns-in-Bad
returns-in-Bad g c =
    let e = fed-is c.loop-rest.cutter c.loop-rest.rest.now c.feed-cut.new.self _ _ c.feed-cut.result.1 c.feed-cut.ensures.fed c.in-Bad.is in
    record {
      runs = record {
        lasts = c.loop-rest.invariant.lasts;
        runs = record {
          good = λ is. absurd (cc is);
          bad = λ bad same.
              subst (Ends _ _ _ _ _ _ _ _ _ _) (ap (λ n. (n + 1, c.in-Bad.fault)) (sym c.number.ensures.value) ∙ ok-some (c.number.result + 1, c.in-Bad.fault) bad same)
              (record { end = λ after r written. so_far-bad_cut c.feed-cut.new.self c.feed-cut.result.1 c.loop-rest.invariant.feeds.cutting c.in-Bad.fault c.feed-cut.new.self.count after (c.loop-rest.invariant.goes_on.on r) e written });
          open_is = λ is. absurd (cc is);
          less = λ is. absurd (cc is);
          counted = λ is. absurd (cc is);
          far_bad = λ bad same. goes-far c.loop-rest.invariant.goes_on;
          far_wanting = tt;
        };
      };
      unarmed = λ is. absurd (cc is);
    }

pub returns-in-Some : goal.returns-in-Some
returns-in-Some g c =
    let e = fed-whole g (goal.at.returns-in-Some g c).In-Whole in
    let ran = rw (c.line.ensures, c.number-in-Whole.ensures.value, c.in-Some.is) at c.in_ok-fault-in-Whole.ensures.runs.runs.ran in
    record {
      runs = record {
        lasts = arming-trans c.loop-rest.invariant.lasts c.run_line.ensures.runs.lasts;
        runs = record {
          good = λ is. absurd (cc is);
          bad = λ bad same.
              subst (Ends _ _ _ _ _ _ _ _ _ _) (ap (λ n. (n, c.in-Some.fault)) (sym c.number-in-Some.ensures.value) ∙ ok-some (c.number-in-Some.result, c.in-Some.fault) bad same)
              (record { end = λ after r written. so_far-bad_line _ _ _ _ _ c.feed-cut.new.self c.feed-cut.result.1 c.in-Some.fault c.feed-cut.new.self.count after refl refl c.loop-rest.invariant.feeds.cutting (c.loop-rest.invariant.goes_on.on r) e ran written });
          open_is = λ is. absurd (cc is);
          less = λ is. absurd (cc is);
          counted = λ is. absurd (cc is);
          far_bad = λ bad same.
              let line = bad-line c.args.quiet c.args.tool c.feed-cut.new.self.count c.feed-cut.new.self.line c.in-Some.fault ran in
              goes-far-on _ _ _ c.loop-rest.invariant.goes_on (same_Some _ _ line.idle.told) line.idle.armed c.run_line.ensures.runs.lasts.lasts.accounts;
          far_wanting = tt;
        };
      };
      unarmed = λ is. absurd (cc is);
    }

pub loop-rest-preserved : goal.loop-rest-preserved
loop-rest-preserved g c =
    let e = fed-whole g (goal.at.loop-rest-preserved g c).In-Whole in
    let kept = whole-kept c.loop-rest.cutter c.loop-rest.rest.now c.feed-cut.new.self c.feed-cut.result.1 c.loop-rest.invariant.feeds.cutting e in
    let ran = rw (c.line.ensures, c.number-in-Whole.ensures.value, c.in-None.is) at c.in_ok-fault-in-Whole.ensures.runs.runs.ran in
    rw take_rest
    (record {
      feeds = record { is_open = subst IsTrue (sym kept.fed) c.loop-rest.invariant.feeds.is_open; cutting = kept.cutting };
      lasts = arming-trans c.loop-rest.invariant.lasts c.run_line.ensures.runs.lasts;
      unarmed = λ none. absurd (omega (arith, none, whole-count c.loop-rest.cutter c.loop-rest.rest.now c.feed-cut.new.self c.feed-cut.result.1 c.loop-rest.invariant.feeds.cutting e));
      counts = rw c.number-in-Whole.ensures.value at c.in_ok-fault-in-Whole.ensures.runs.runs.can;
      goes_on = record { on = λ r. so_far-line _ _ _ _ c.feed-cut.new.self c.feed-cut.result.1 refl refl c.loop-rest.invariant.feeds.cutting (c.loop-rest.invariant.goes_on.on r) e ran };
      less = omega (arith, c.loop-rest.invariant.less, kept.less, c.feed-cut.ensures.within, length-drop c.feed-cut.result.1 c.loop-rest.rest.now);
    })

pub run_line-requires-clause-unarmed : goal.run_line-requires-clause-unarmed
run_line-requires-clause-unarmed g c =
    let e = fed-whole g (goal.at.run_line-requires-clause-unarmed g c).In-Whole in
    λ first. c.loop-rest.invariant.unarmed (omega (arith, first, c.number-in-Whole.ensures.value, whole-count c.loop-rest.cutter c.loop-rest.rest.now c.feed-cut.new.self c.feed-cut.result.1 c.loop-rest.invariant.feeds.cutting e))

pub run_line-requires-clause-can_run : goal.run_line-requires-clause-can_run
run_line-requires-clause-can_run g c =
    let e = fed-whole g (goal.at.run_line-requires-clause-can_run g c).In-Whole in
    record {
      stands = c.loop-rest.invariant.lasts.lasts.stands;
      can_count = λ is_quiet. c.loop-rest.invariant.counts is_quiet c.number-in-Whole.result (omega (arith, c.number-in-Whole.ensures.value, whole-count c.loop-rest.cutter c.loop-rest.rest.now c.feed-cut.new.self c.feed-cut.result.1 c.loop-rest.invariant.feeds.cutting e));
    }

pub returns-in_err-fault-in-Whole : goal.returns-in_err-fault-in-Whole
returns-in_err-fault-in-Whole g c =
    record {
      runs = record {
        lasts = arming-trans c.loop-rest.invariant.lasts c.run_line.ensures.runs.lasts;
        runs = record {
          good = search rules;
          bad = search rules;
          open_is = search rules;
          less = search rules;
          counted = search rules;
          far_bad = search rules;
          far_wanting = on_err _ _ (goes-far-on _ _ _ c.loop-rest.invariant.goes_on c.in_err-fault-in-Whole.ensures.same c.in_err-fault-in-Whole.ensures.armed c.run_line.ensures.runs.lasts.lasts.accounts);
        };
      };
      unarmed = search rules;
    }
