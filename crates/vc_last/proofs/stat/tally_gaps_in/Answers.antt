use Rattle.vc_base.proofs.Common.{◌≡◌, ◌++◌, sym, ap, ◌∙◌, subst}
use Rattle.vc_seg.specs.Tally.{HasRoom, tallied_all}
use Rattle.vc_last.specs.Gaps.{gap_end_below, sizes_above}
use Rattle.vc_last.specs.Head.{before_of, block_of}
use Rattle.vc_last.proofs.Backs.{gaps-end, gaps-last, gaps_back}
use Rattle.vc_last.proofs.Chains.{latest-head}
use Rattle.vc_last.proofs.UnorderedFolds.{step-part, step-rest, step-room}
use Rattle.vc_last.proofs.Walks.{shorter, rest-kept}
use Rattle.vc_last.proofs.stat.tally_gaps_in.Goals as goal

pub loop-at-smaller : goal.loop-at-smaller
loop-at-smaller c = shorter c.args.segs.now c.loop-at.at.0 c.before_at-at.result.0 c.loop-at.invariant.kept c.loop-at-test.true c.before_at-at.ensures

pub before_at-at-requires : goal.before_at-at-requires
before_at-at-requires c = latest-head c.args.segs.now c.loop-at.at.0 c.loop-at-test.true c.loop-at.invariant.kept

pub with_gap-end-requires-clause-block : goal.with_gap-end-requires-clause-block
with_gap-end-requires-clause-block c = latest-head c.args.segs.now c.loop-at.at.0 c.loop-at-test.true c.loop-at.invariant.kept

pub with_gap-end-requires-clause-room : goal.with_gap-end-requires-clause-room
with_gap-end-requires-clause-room c =
    step-part c.loop-at.tally (gaps_back c.args.segs.now c.loop-at.at.0 c.args.number c.loop-at.to) (gaps_back c.args.segs.now (before_of c.args.segs.now c.loop-at.at.0) c.args.number (gap_end_below c.args.number c.loop-at.to (block_of c.args.segs.now c.loop-at.at.0))) (sizes_above c.args.number c.loop-at.to (block_of c.args.segs.now c.loop-at.at.0)) (gaps-last c.args.segs.now c.loop-at.at.0 c.args.number c.loop-at.to c.loop-at.invariant.kept c.loop-at-test.true) c.loop-at.invariant.room

pub loop-at-preserved : goal.loop-at-preserved
loop-at-preserved c =
    let all : gaps_back c.args.segs.now c.loop-at.at.0 c.args.number c.loop-at.to ≡ gaps_back c.args.segs.now c.before_at-at.result.0 c.args.number c.with_gap-end.result.1 ++ sizes_above c.args.number c.loop-at.to (block_of c.args.segs.now c.loop-at.at.0) =
    gaps-last c.args.segs.now c.loop-at.at.0 c.args.number c.loop-at.to c.loop-at.invariant.kept c.loop-at-test.true
    ∙ (ap (λ a. gaps_back c.args.segs.now a c.args.number (gap_end_below c.args.number c.loop-at.to (block_of c.args.segs.now c.loop-at.at.0)) ++ (sizes_above c.args.number c.loop-at.to (block_of c.args.segs.now c.loop-at.at.0))) (sym c.before_at-at.ensures) ∙ ap (λ k. gaps_back c.args.segs.now c.before_at-at.result.0 c.args.number k ++ (sizes_above c.args.number c.loop-at.to (block_of c.args.segs.now c.loop-at.at.0))) (sym c.with_gap-end.ensures.to)) in
    record {
      kept = rest-kept c.args.segs.now c.loop-at.at.0 c.before_at-at.result.0 c.loop-at.invariant.kept c.loop-at-test.true c.before_at-at.ensures;
      room = step-room c.loop-at.tally c.with_gap-end.result.0 (gaps_back c.args.segs.now c.loop-at.at.0 c.args.number c.loop-at.to) (gaps_back c.args.segs.now c.before_at-at.result.0 c.args.number c.with_gap-end.result.1) (sizes_above c.args.number c.loop-at.to (block_of c.args.segs.now c.loop-at.at.0)) all c.with_gap-end.ensures.tally c.loop-at.invariant.room;
      rest = step-rest c.loop-at.tally c.with_gap-end.result.0 (gaps_back c.args.segs.now c.loop-at.at.0 c.args.number c.loop-at.to) (gaps_back c.args.segs.now c.before_at-at.result.0 c.args.number c.with_gap-end.result.1) (sizes_above c.args.number c.loop-at.to (block_of c.args.segs.now c.loop-at.at.0)) all c.with_gap-end.ensures.tally ∙ c.loop-at.invariant.rest;
    }

pub with_run-requires : goal.with_run-requires
with_run-requires c = subst (HasRoom c.loop-at.tally) (gaps-end c.args.segs.now c.loop-at.at.0 c.args.number c.loop-at.to c.loop-at-test.false) c.loop-at.invariant.room

pub returns : goal.returns
returns c = c.with_run.ensures ∙ (sym (ap (tallied_all c.loop-at.tally) (gaps-end c.args.segs.now c.loop-at.at.0 c.args.number c.loop-at.to c.loop-at-test.false)) ∙ c.loop-at.invariant.rest)
