use Rattle.vc_base.proofs.Common.{ℕ, ◌-◌, Some, None, option_map, find, sym, ap, ◌∙◌, place_of, Block, address_of, holds_byte}
use Rattle.vc_last.specs.Chain.{blocks_from}
use Rattle.vc_last.specs.Head.{block_of}
use Rattle.vc_last.proofs.Lists.{pair}
use Rattle.vc_last.proofs.Chains.{latest-some, latest-head}
use Rattle.vc_last.proofs.Walks.{block-is, find-among, find-end, find-here, find-step, shorter, rest-kept}
use Rattle.vc_last.proofs.walk.block_in.Goals as goal

pub holds-requires : goal.holds-requires
holds-requires c = latest-head c.args.segs.now c.loop-at.at.0 c.loop-at-test.true c.loop-at.invariant.kept

pub before_at-at-requires : goal.before_at-at-requires
before_at-at-requires c = latest-head c.args.segs.now c.loop-at.at.0 c.loop-at-test.true c.loop-at.invariant.kept

pub loop-at-preserved : goal.loop-at-preserved
loop-at-preserved c =
    record {
      kept = rest-kept c.args.segs.now c.loop-at.at.0 c.before_at-at.result.0 c.loop-at.invariant.kept c.loop-at-test.true c.before_at-at.ensures;
      rest = ap (λ a. find (holds_byte (c.args.seg, c.args.off)) (blocks_from c.args.segs.now a)) c.before_at-at.ensures
          ∙ (find-step c.args.segs.now c.loop-at.at.0 c.args.seg c.args.off c.loop-at.invariant.kept c.loop-at-test.true (sym c.holds.ensures ∙ c.if-holds.false) ∙ c.loop-at.invariant.rest);
    }

pub loop-at-smaller : goal.loop-at-smaller
loop-at-smaller c = shorter c.args.segs.now c.loop-at.at.0 c.before_at-at.result.0 c.loop-at.invariant.kept c.loop-at-test.true c.before_at-at.ensures

pub returns-then-holds-clause-value : goal.returns-then-holds-clause-value
returns-then-holds-clause-value c =
    let segs = c.args.segs.now in
    let l = latest-some segs c.loop-at.at.0 c.loop-at-test.true c.loop-at.invariant.kept in
    let is = block-is segs c.args.latest.0 c.args.seg c.args.off (Some (block_of segs c.loop-at.at.0))
    (sym (find-here segs c.loop-at.at.0 c.args.seg c.args.off c.loop-at.invariant.kept c.loop-at-test.true (sym c.holds.ensures ∙ c.if-holds.true)) ∙ c.loop-at.invariant.rest) in
    sym (ap (option_map {U = ℕ × ℕ} (λ (f : Block ℕ × ℕ). (address_of f.0, f.1))) is ∙ pair (address_of (block_of segs c.loop-at.at.0)) c.loop-at.at.0 (c.args.off - (place_of c.loop-at.at.0).1) (c.args.off - c.off.result) l.at (ap (λ k. c.args.off - k) (sym c.off.ensures)))

pub returns-then-holds-clause-live : goal.returns-then-holds-clause-live
returns-then-holds-clause-live c =
    find-among c.args.segs.now c.args.latest.0 c.loop-at.at.0 (holds_byte (c.args.seg, c.args.off))
    (sym (find-here c.args.segs.now c.loop-at.at.0 c.args.seg c.args.off c.loop-at.invariant.kept c.loop-at-test.true (sym c.holds.ensures ∙ c.if-holds.true)) ∙ c.loop-at.invariant.rest) (latest-some c.args.segs.now c.loop-at.at.0 c.loop-at-test.true c.loop-at.invariant.kept).at

pub returns-clause-value : goal.returns-clause-value
returns-clause-value c =
    sym (ap (option_map {U = ℕ × ℕ} (λ (f : Block ℕ × ℕ). (address_of f.0, f.1)))
    (block-is c.args.segs.now c.args.latest.0 c.args.seg c.args.off None (sym (find-end c.args.segs.now c.loop-at.at.0 c.args.seg c.args.off c.loop-at-test.false) ∙ c.loop-at.invariant.rest)))
