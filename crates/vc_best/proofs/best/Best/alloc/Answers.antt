use Rattle.vc_base.proofs.Common.{◌≡◌, ℕ, ◌+◌, ◌≤◌, min, [], length, Ok, Err, option_map, sym, ap, ◌∙◌, subst, arith, place_of, place_in, Layout, span}
use Rattle.vc_best.proofs.Common.{AreAllowed, AreWhole, HasGaps, IsPutInGap, layout_by, tiling}
use Rattle.vc_model.specs.Numbers.{gap_count}
use Rattle.vc_gaps.specs.Cost.{GapsCost}
use Rattle.vc_gaps.proofs.GapTrees.{gap_tree-of}
use Rattle.vc_best.proofs.Asking.{Answers-in_gap, Asks-in_gap, IsPutByAsking-same}
use Rattle.vc_best.proofs.Bests.{least-found, least-none}
use Rattle.vc_best.proofs.BlockCounts.{put-count}
use Rattle.vc_best.proofs.Calls.{call_costs}
use Rattle.vc_best.proofs.Costs.{cost_within, then_cost}
use Rattle.vc_best.proofs.Counting.{blocks-few}
use Rattle.vc_best.proofs.Held.{AreHeld, AreMost, held, merged-of, most-of, tree-of}
use Rattle.vc_best.proofs.NodesFew.{searched}
use Rattle.vc_best.proofs.Others.{others-asked, others-in_gap}
use Rattle.vc_best.proofs.Plain.{layout-stays, merged-stays}
use Rattle.vc_best.proofs.Puts.{place-runs, place_at}
use Rattle.vc_best.proofs.There.{there-asked, there-in_gap}
use Rattle.vc_best.proofs.best.Best.alloc.Given.{Over}
use Rattle.vc_best.proofs.best.Best.alloc.Goals as goal
use Rattle.vc_best.proofs.best.Best.alloc.Goals.{After-fit-least, After-put_in_gap-to, After-put_by_asking}

-- the tree before, and what the search leaves of the rest
before : (g : Over) (c : After-fit-least g) → HasGaps (tiling c.args.self.now.extents.segs.items) c.args.self.now.root.0 []
before g c = tree-of c.args.self.now.extents.segs.items c.args.self.now.extents.index.items c.args.self.now.root.0 c.args.self.now.extents.kept c.args.self.now.gaps

same : (g : Over) (c : After-fit-least g) → layout_by c.fit-least.new.extents.segs.items ≡ layout_by c.args.self.now.extents.segs.items
same g c = layout-stays c.args.self.now.extents.segs.items c.fit-least.new.extents.segs.items c.fit-least.ensures.rest

whole : (g : Over) (c : After-fit-least g) → AreWhole c.fit-least.new.extents.segs.items c.fit-least.result.0.0
whole g c =
    let old = c.args.self.now.extents.segs.items in
    record {
      kept = record {
        merged = merged-stays (tiling old) (tiling c.fit-least.new.extents.segs.items) c.fit-least.ensures.rest.extents (merged-of (tiling old) c.args.self.now.merged);
        gaps = c.fit-least.ensures.fitted.gaps [] (before g c);
      };
      sizes = subst (λ (r : Layout ℕ). AreMost r.blocks) (sym (same g c)) (most-of (layout_by old) c.args.self.now.whole);
    }

allowed : (g : Over) (c : After-fit-least g) → AreAllowed c.args.size c.args.align
allowed g c = record { sized = c.requires.size; aligned = c.requires.align }

pub fit-least-requires-clause-tree : goal.fit-least-requires-clause-tree
fit-least-requires-clause-tree g c =
    let root = c.args.self.now.root.0 in
    gap_tree-of (tiling c.args.self.now.extents.segs.items) root [] (tree-of _ _ root c.args.self.now.extents.kept c.args.self.now.gaps)

pub put_in_gap-to-requires-clause-least : goal.put_in_gap-to-requires-clause-least
put_in_gap-to-requires-clause-least g c =
    let t = tiling c.args.self.now.extents.segs.items in
    let h = before g (goal.at.put_in_gap-to-requires-clause-least g c).After-fit-least in
    least-found t (tiling c.fit-least.new.extents.segs.items) c.fit-least.ensures.rest.extents (span c.args.size) c.span_of.result c.args.align c.fit-least.result.1 c.in-Some.a c.in-Some.is c.span_of.ensures (c.fit-least.ensures.fitted.best h)

pub put_in_gap-to-requires-clause-allowed : goal.put_in_gap-to-requires-clause-allowed
put_in_gap-to-requires-clause-allowed g c = allowed g (goal.at.put_in_gap-to-requires-clause-allowed g c).After-fit-least

pub put_in_gap-to-requires-clause-whole : goal.put_in_gap-to-requires-clause-whole
put_in_gap-to-requires-clause-whole g c = whole g (goal.at.put_in_gap-to-requires-clause-whole g c).After-fit-least

pub put_by_asking-requires-clause-allowed : goal.put_by_asking-requires-clause-allowed
put_by_asking-requires-clause-allowed g c = allowed g (goal.at.put_by_asking-requires-clause-allowed g c).After-fit-least

pub put_by_asking-requires-clause-whole : goal.put_by_asking-requires-clause-whole
put_by_asking-requires-clause-whole g c = whole g (goal.at.put_by_asking-requires-clause-whole g c).After-fit-least

pub put_by_asking-requires-clause-none : goal.put_by_asking-requires-clause-none
put_by_asking-requires-clause-none g c =
    let t = tiling c.args.self.now.extents.segs.items in
    let f = (goal.at.put_by_asking-requires-clause-none g c).After-fit-least in
    ap (λ (r : Layout ℕ). place_in r c.args.size c.args.align) (same g f)
    ∙ place-runs _ _ c.args.size c.args.align c.args.self.now.extents.kept (merged-of t c.args.self.now.merged)
    ∙ ap (option_map (place_at c.args.align)) (least-none t (span c.args.size) c.span_of.result c.args.align c.fit-least.result.1 c.in-None.is c.span_of.ensures (c.fit-least.ensures.fitted.best (before g f)))

-- they are below 2^32 with the new one
few : (g : Over) (c : After-fit-least g) → c.args.self.now.busy ≤ 1072693248
few g c =
    let f = blocks-few _ _ c.args.self.now.extents.kept in
    omega (arith, c.args.self.now.counted, f)

pub overflow_add-self : goal.overflow_add-self
overflow_add-self g c = let f = few g (goal.at.overflow_add-self g c).After-fit-least in omega arith

pub overflow_add-self-in-Ok : goal.overflow_add-self-in-Ok
overflow_add-self-in-Ok g c = let f = few g (goal.at.overflow_add-self-in-Ok g c).After-fit-least in omega arith

pub invariant_of-self : goal.invariant_of-self
invariant_of-self g c =
    let n = c.put_in_gap-to.new.extents in
    let w = c.put_in_gap-to.ensures.whole in
    let h = held n.segs.items n.index.items n.kept w.sizes w.kept.merged in
    let one = put-count (layout_by c.fit-least.new.extents.segs.items) (layout_by n.segs.items) c.args.tag c.args.size (place_of c.put_in_gap-to.result.0) c.put_in_gap-to.ensures.put.layout in
    let old = ap (λ (r : Layout ℕ). length r.blocks) (same g (goal.at.invariant_of-self g c).After-fit-least) in
    record { sound = h.sound; whole = h.whole; merged = h.merged; gaps = ∣ w.kept.gaps ∣₁; counted = omega (arith, one, old, c.args.self.now.counted) }

-- what the call that may ask leaves
left : (g : Over) (c : After-put_by_asking g) → AreHeld c.put_by_asking.new.extents.segs.items
left g c =
    let n = c.put_by_asking.new.extents in
    held n.segs.items n.index.items n.kept c.put_by_asking.ensures.whole.sizes c.put_by_asking.ensures.whole.kept.merged

pub invariant_of-self-in-Ok : goal.invariant_of-self-in-Ok
invariant_of-self-in-Ok g c =
    let at = goal.at.invariant_of-self-in-Ok g c in
    let h = left g at.After-put_by_asking in
    let one : length (layout_by c.put_by_asking.new.extents.segs.items).blocks ≡ length (layout_by c.fit-least.new.extents.segs.items).blocks + 1 = c.in-Ok.ensures.put.count in
    let old = ap (λ (r : Layout ℕ). length r.blocks) (same g at.After-fit-least) in
    record { sound = h.sound; whole = h.whole; merged = h.merged; gaps = ∣ c.put_by_asking.ensures.whole.kept.gaps ∣₁; counted = omega (arith, one, old, c.args.self.now.counted) }

pub invariant_of-self-in-Err-1 : goal.invariant_of-self-in-Err-1
invariant_of-self-in-Err-1 g c =
    let at = goal.at.invariant_of-self-in-Err-1 g c in
    let h = left g at.After-put_by_asking in
    let is : layout_by c.put_by_asking.new.extents.segs.items ≡ layout_by c.args.self.now.extents.segs.items = c.in-Err.ensures.put.err ∙ same g at.After-fit-least in
    record { sound = h.sound; whole = h.whole; merged = h.merged; gaps = ∣ c.put_by_asking.ensures.whole.kept.gaps ∣₁; counted = c.args.self.now.counted ∙ sym (ap (λ (r : Layout ℕ). length r.blocks) is) }

-- the block in its gap, by the layout before the search
in_gap : (g : Over) (c : After-put_in_gap-to g) → IsPutInGap (layout_by c.args.self.now.extents.segs.items) (layout_by c.put_in_gap-to.new.extents.segs.items) c.args.tag c.args.size c.args.align c.put_in_gap-to.result.0
in_gap g c =
    subst (λ (r : Layout ℕ). IsPutInGap r (layout_by c.put_in_gap-to.new.extents.segs.items) c.args.tag c.args.size c.args.align c.put_in_gap-to.result.0)
    (layout-stays c.args.self.now.extents.segs.items c.fit-least.new.extents.segs.items c.fit-least.ensures.rest) c.put_in_gap-to.ensures.put

pub returns-in-Some-clause-answer : goal.returns-in-Some-clause-answer
returns-in-Some-clause-answer g c = Answers-in_gap _ _ _ _ _ c.put_in_gap-to.result (in_gap g (goal.at.returns-in-Some-clause-answer g c).After-put_in_gap-to) _

pub returns-in-Some-clause-disc : goal.returns-in-Some-clause-disc
returns-in-Some-clause-disc g c = Asks-in_gap _ _ _ _ _ c.put_in_gap-to.result (in_gap g (goal.at.returns-in-Some-clause-disc g c).After-put_in_gap-to) _ _

pub returns-in-Some-clause-put : goal.returns-in-Some-clause-put
returns-in-Some-clause-put g c =
    let p = in_gap g (goal.at.returns-in-Some-clause-put g c).After-put_in_gap-to in
    record { there = there-in_gap _ _ _ _ _ c.put_in_gap-to.result p; fresh = p.fresh; others = others-in_gap _ _ _ _ _ c.put_in_gap-to.result p }

pub returns-in-Ok-clause-answer : goal.returns-in-Ok-clause-answer
returns-in-Ok-clause-answer g c = (IsPutByAsking-same _ _ _ _ _ _ _ (Ok c.in-Ok.to) (same g (goal.at.returns-in-Ok-clause-answer g c).After-fit-least) c.in-Ok.ensures.put).answer

pub returns-in-Ok-clause-put : goal.returns-in-Ok-clause-put
returns-in-Ok-clause-put g c =
    let p = IsPutByAsking-same _ _ _ _ _ _ _ (Ok c.in-Ok.to) (same g (goal.at.returns-in-Ok-clause-put g c).After-fit-least) c.in-Ok.ensures.put in
    record { there = there-asked _ (Ok c.in-Ok.to) _ _ _ _ _ p; fresh = p.fresh; others = others-asked _ (Ok c.in-Ok.to) _ _ _ _ _ p }

pub returns-in-Err-clause-answer : goal.returns-in-Err-clause-answer
returns-in-Err-clause-answer g c = (IsPutByAsking-same _ _ _ _ _ _ _ (Err c.in-Err.fault) (same g (goal.at.returns-in-Err-clause-answer g c).After-fit-least) c.in-Err.ensures.put).answer

pub returns-in-Err-clause-no_memory : goal.returns-in-Err-clause-no_memory
returns-in-Err-clause-no_memory g c = (IsPutByAsking-same _ _ _ _ _ _ _ (Err c.in-Err.fault) (same g (goal.at.returns-in-Err-clause-no_memory g c).After-fit-least) c.in-Err.ensures.put).no_memory

-- what the search costs, and then the block in its gap or in a segment that is asked for
found : (g : Over) (c : After-put_in_gap-to g) → c.args.align ≡ 32 → GapsCost (tiling c.args.self.now.extents.segs.items) (tiling c.put_in_gap-to.new.extents.segs.items) c.args.self.now.root.0 c.put_in_gap-to.new.root.0 c.args.steps.now c.put_in_gap-to.new.steps 40 3 2
found g c unit = then_cost (whole g (goal.at.After-put_in_gap-to g c).After-fit-least).kept.gaps (c.fit-least.ensures.cost unit) c.put_in_gap-to.ensures.cost

asked : (g : Over) (c : After-put_by_asking g) → c.args.align ≡ 32 → GapsCost (tiling c.args.self.now.extents.segs.items) (tiling c.put_by_asking.new.extents.segs.items) c.args.self.now.root.0 c.put_by_asking.new.root.0 c.args.steps.now c.put_by_asking.new.steps 40 3 2
asked g c unit = cost_within (then_cost (whole g (goal.at.After-put_by_asking g c).After-fit-least).kept.gaps (c.fit-least.ensures.cost unit) c.put_by_asking.ensures.cost) 40 3 2 (omega arith) (omega arith) (omega arith)

pub returns-in-Some-clause-cost : goal.returns-in-Some-clause-cost
returns-in-Some-clause-cost g c = found g (goal.at.returns-in-Some-clause-cost g c).After-put_in_gap-to

pub returns-in-Some-clause-call : goal.returns-in-Some-clause-call
returns-in-Some-clause-call g c = λ unit. call_costs c.args.self.now _ 1 c.args.steps.now _ 40 3 2 (omega arith) (omega arith) (found g (goal.at.returns-in-Some-clause-call g c).After-put_in_gap-to unit)

pub returns-in-Ok-clause-cost : goal.returns-in-Ok-clause-cost
returns-in-Ok-clause-cost g c = asked g (goal.at.returns-in-Ok-clause-cost g c).After-put_by_asking

pub returns-in-Ok-clause-call : goal.returns-in-Ok-clause-call
returns-in-Ok-clause-call g c = λ unit. call_costs c.args.self.now _ 1 c.args.steps.now _ 40 3 2 (omega arith) (omega arith) (asked g (goal.at.returns-in-Ok-clause-call g c).After-put_by_asking unit)

pub returns-in-Err-clause-cost : goal.returns-in-Err-clause-cost
returns-in-Err-clause-cost g c = asked g (goal.at.returns-in-Err-clause-cost g c).After-put_by_asking

pub returns-in-Err-clause-call : goal.returns-in-Err-clause-call
returns-in-Err-clause-call g c = λ unit. call_costs c.args.self.now _ 1 c.args.steps.now _ 40 3 2 (omega arith) (omega arith) (asked g (goal.at.returns-in-Err-clause-call g c).After-put_by_asking unit)

-- what the search takes at least, where there is a gap
sought : (g : Over) (c : After-fit-least g) → c.args.steps.now + min 1 (gap_count (layout_by c.args.self.now.extents.segs.items)) ≤ c.fit-least.new.steps
sought g c =
    let b = c.args.self.now in
    searched b.extents.segs.items b.extents.index.items b.extents.kept (merged-of (tiling b.extents.segs.items) b.merged) b.root.0 (before g c) c.args.steps.now c.fit-least.new.steps c.fit-least.ensures.rises c.fit-least.ensures.least_steps

pub returns-in-Some-clause-least_steps : goal.returns-in-Some-clause-least_steps
returns-in-Some-clause-least_steps g c =
    let first = sought g (goal.at.returns-in-Some-clause-least_steps g c).After-fit-least in
    let then = c.put_in_gap-to.ensures.least_steps in
    omega arith

pub returns-in-Ok-clause-least_steps : goal.returns-in-Ok-clause-least_steps
returns-in-Ok-clause-least_steps g c =
    let first = sought g (goal.at.returns-in-Ok-clause-least_steps g c).After-fit-least in
    let then = c.in-Ok.ensures.least_steps in
    omega arith

pub returns-in-Err-clause-least_steps : goal.returns-in-Err-clause-least_steps
returns-in-Err-clause-least_steps g c =
    let first = sought g (goal.at.returns-in-Err-clause-least_steps g c).After-fit-least in
    let then = c.put_by_asking.ensures.rises in
    omega arith
