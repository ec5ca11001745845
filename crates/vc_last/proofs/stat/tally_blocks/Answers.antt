use Rattle.vc_base.proofs.Common.{◌≡◌, ℕ, List, [], ◌∷◌, ◌++◌, map, sym, ap, ◌∙◌, subst, Block}
use Rattle.vc_seg.specs.Tally.{HasRoom, tally_with, tallied_all}
use Rattle.vc_last.specs.Head.{before_of, block_of}
use Rattle.vc_last.proofs.Backs.{sizes-last, sizes_back}
use Rattle.vc_last.proofs.Chains.{latest-none, latest-head}
use Rattle.vc_last.proofs.UnorderedFolds.{step-part, step-rest, step-room}
use Rattle.vc_last.proofs.Walks.{shorter, rest-kept}
use Rattle.vc_last.proofs.stat.tally_blocks.Goals as goal

pub loop-at-smaller : goal.loop-at-smaller
loop-at-smaller c = shorter c.args.segs.now c.loop-at.at.0 c.before_at-at.result.0 c.loop-at.invariant.kept c.loop-at-test.true c.before_at-at.ensures

pub before_at-at-requires : goal.before_at-at-requires
before_at-at-requires c = latest-head c.args.segs.now c.loop-at.at.0 c.loop-at-test.true c.loop-at.invariant.kept

pub size_at-requires : goal.size_at-requires
size_at-requires c = latest-head c.args.segs.now c.loop-at.at.0 c.loop-at-test.true c.loop-at.invariant.kept

pub with-tally-requires : goal.with-tally-requires
with-tally-requires c =
    subst (λ n. HasRoom c.loop-at.tally (n ∷ [])) (sym c.size_at.ensures.value)
    (step-part c.loop-at.tally (sizes_back c.args.segs.now c.loop-at.at.0) (sizes_back c.args.segs.now (before_of c.args.segs.now c.loop-at.at.0)) ((block_of c.args.segs.now c.loop-at.at.0).size ∷ []) (sizes-last c.args.segs.now c.loop-at.at.0 c.loop-at.invariant.kept c.loop-at-test.true) c.loop-at.invariant.room)

pub loop-at-preserved : goal.loop-at-preserved
loop-at-preserved c =
    let all : sizes_back c.args.segs.now c.loop-at.at.0 ≡ sizes_back c.args.segs.now c.before_at-at.result.0 ++ (block_of c.args.segs.now c.loop-at.at.0).size ∷ [] =
    sizes-last c.args.segs.now c.loop-at.at.0 c.loop-at.invariant.kept c.loop-at-test.true ∙ ap (λ a. sizes_back c.args.segs.now a ++ (block_of c.args.segs.now c.loop-at.at.0).size ∷ []) (sym c.before_at-at.ensures) in
    let more = c.with-tally.ensures ∙ ap (tally_with c.loop-at.tally) c.size_at.ensures.value in
    record {
      kept = rest-kept c.args.segs.now c.loop-at.at.0 c.before_at-at.result.0 c.loop-at.invariant.kept c.loop-at-test.true c.before_at-at.ensures;
      room = step-room c.loop-at.tally c.with-tally.result (sizes_back c.args.segs.now c.loop-at.at.0) (sizes_back c.args.segs.now c.before_at-at.result.0) ((block_of c.args.segs.now c.loop-at.at.0).size ∷ []) all more c.loop-at.invariant.room;
      rest = step-rest c.loop-at.tally c.with-tally.result (sizes_back c.args.segs.now c.loop-at.at.0) (sizes_back c.args.segs.now c.before_at-at.result.0) ((block_of c.args.segs.now c.loop-at.at.0).size ∷ []) all more ∙ c.loop-at.invariant.rest;
    }

pub returns : goal.returns
returns c = sym (ap (λ a. tallied_all c.loop-at.tally (sizes_back c.args.segs.now a)) c.loop-at-test.false ∙ ap (λ (bs : List (Block ℕ)). tallied_all c.loop-at.tally (map (λ (b : Block ℕ). b.size) bs)) (latest-none c.args.segs.now)) ∙ c.loop-at.invariant.rest
