use Rattle.vc_base.proofs.Common.{ℕ, ◌+◌, List, map, All, sym, refl, ◌∙◌, subst}
use Rattle.vc_best.proofs.Common.{Extent, IsOneFree, change_in, one_free, pair_of, tiling}
use Rattle.vc_gaps.specs.GapLaws.{gap_none}
use Rattle.vc_best.specs.Made.{MadeCost, count_below}
use Rattle.vc_best.proofs.Made.{count-all, made-most, made-none}
use Rattle.vc_best.proofs.EmptyGaps.{below-first, below-last, still-free}
use Rattle.vc_best.proofs.EmptySegments.{all-free, apart-tiling, free-first, free-merged, free-more, layout-cleared, segments-of}
use Rattle.vc_best.proofs.compact.clear.Given.{Over}
use Rattle.vc_best.proofs.compact.clear.Goals as goal
use Rattle.vc_best.proofs.compact.clear.Goals.{After-loop-number}

pub loop-number-init : goal.loop-number-init
loop-number-init g c =
    record {
      pairs = refl;
      free = free-first c.args.extents.now.segs.items (segments-of _ _ c.args.extents.now.kept);
      gaps = below-first _ _ c.args.extents.now.kept;
      cost = made-none _ c.args.steps.now _ (gap_none _ _ c.args.extents.now.kept);
    }

pub loop-number-preserved : goal.loop-number-preserved
loop-number-preserved g c =
    let n = c.loop-number.number in
    let t = tiling c.loop-number.extents.segs.items in
    record {
      pairs = c.clear_one.ensures.pairs ∙ c.loop-number.invariant.pairs;
      free =
          still-free (n + 1) (change_in n one_free t) (tiling c.clear_one.new.extents.segs.items) c.clear_one.ensures.plain
          (free-more n t (apart-tiling c.loop-number.extents.segs.items (segments-of _ _ c.loop-number.extents.kept)) c.loop-number.invariant.free);
      gaps = c.clear_one.ensures.gaps;
      cost =
          let ss = c.loop-number.invariant.pairs in
          subst (λ (ps : List (ℕ × ℕ)). MadeCost (tiling c.clear_one.new.extents.segs.items) c.clear_one.new.root.0 c.args.steps.now c.clear_one.new.steps (count_below (n + 1) ps)) ss
          (c.clear_one.ensures.cost c.args.steps.now
          (subst (λ (ps : List (ℕ × ℕ)). MadeCost t c.loop-number.root.0 c.args.steps.now c.loop-number.steps (count_below n ps)) (sym ss) c.loop-number.invariant.cost));
    }

-- all segments are free at its end
all : (g : Over) (c : After-loop-number g) → All (λ (s : ℕ × List Extent). IsOneFree s.1) (tiling c.loop-number.extents.segs.items)
all g c =
    all-free c.loop-number.number c.loop-number.extents.segs.items (segments-of _ _ c.loop-number.extents.kept) c.loop-number-test.false c.loop-number.invariant.free

pub returns-clause-layout : goal.returns-clause-layout
returns-clause-layout g c = layout-cleared c.args.extents.now.segs.items c.loop-number.extents.segs.items c.loop-number.invariant.pairs (all g (goal.at.returns-clause-layout g c).After-loop-number)

pub returns-clause-kept : goal.returns-clause-kept
returns-clause-kept g c =
    record {
      merged = free-merged (tiling c.loop-number.extents.segs.items) (all g (goal.at.returns-clause-kept g c).After-loop-number);
      gaps = below-last _ _ c.loop-number.extents.kept c.loop-number.number c.loop-number.root.0 c.loop-number-test.false c.loop-number.invariant.gaps;
    }

pub returns-clause-cost : goal.returns-clause-cost
returns-clause-cost g c = made-most _ _ _ _ _ _ (count-all c.loop-number.number (map pair_of c.args.extents.now.segs.items)) c.loop-number.invariant.cost
