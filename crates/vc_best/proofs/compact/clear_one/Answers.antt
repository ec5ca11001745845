use Rattle.vc_base.proofs.Common.{ℕ, map, not, ◌≢◌, List, IsSome, All, Option, sym, ap, ◌∙◌, subst}
use Rattle.vc_best.proofs.Common.{CanLinkGap, Extent, GapLinked, IsThere, one_free, pair_of, plain, tiling}
use Rattle.std.proofs.Math.Bool.{not-not}
use Rattle.vc_gaps.specs.GapLaws.{gap_none}
use Rattle.vc_best.proofs.Backs.{some-of}
use Rattle.vc_best.proofs.EmptyGaps.{below-linked, below-none, can-clear, made-linked}
use Rattle.vc_best.proofs.Made.{count-more, count-one, made-most}
use Rattle.vc_best.proofs.EmptySegments.{change-none, no-value, none-there}
use Rattle.vc_best.proofs.compact.clear_one.Given.{Over}
use Rattle.vc_best.proofs.compact.clear_one.Goals as goal
use Rattle.vc_best.proofs.compact.clear_one.Goals.{Else-is_some, Then-is_some}

none : (g : Over) (c : Else-is_some g) → All (λ (s : ℕ × List Extent). s.0 ≢ c.args.number) (tiling c.args.extents.now.segs.items)
none g c = none-there c.args.number c.args.extents.now.segs.items (sym c.has.ensures ∙ no-value c.has.result c.is_some.result (sym c.is_some.ensures) c.if-is_some.false)

there : (g : Over) (c : Then-is_some g) → IsThere c.args.number c.args.extents.now.segs.items
there g c = subst (λ (o : Option ℕ). IsSome o) c.has.ensures (some-of c.has.result (not c.is_some.result) (sym c.is_some.ensures ∙ sym (not-not c.is_some.result)) (ap not c.if-is_some.true))

pub returns-else-is_some-clause-plain : goal.returns-else-is_some-clause-plain
returns-else-is_some-clause-plain g c = ap plain (sym (change-none c.args.number one_free (tiling c.args.extents.now.segs.items) (none g (goal.at.returns-else-is_some-clause-plain g c).Else-is_some)))

pub returns-else-is_some-clause-gaps : goal.returns-else-is_some-clause-gaps
returns-else-is_some-clause-gaps g c = below-none c.args.number (tiling c.args.extents.now.segs.items) c.args.root.now.0 (none g (goal.at.returns-else-is_some-clause-gaps g c).Else-is_some) c.requires.gaps

pub link_gap-requires : goal.link_gap-requires
link_gap-requires g c =
    let t1 = tiling c.reset-a.new.self.segs.items in
    subst (CanLinkGap t1 c.args.root.now.0) (sym c.reset-a.ensures.value)
    (can-clear _ _ c.args.number c.args.root.now.0 c.args.extents.now.kept (there g (goal.at.link_gap-requires g c).Then-is_some) t1 c.reset-a.ensures.tiling c.requires.gaps)

pub returns-then-is_some-clause-plain : goal.returns-then-is_some-clause-plain
returns-then-is_some-clause-plain g c = c.link_gap.ensures.rest.extents ∙ ap plain c.reset-a.ensures.tiling

pub returns-then-is_some-clause-gaps : goal.returns-then-is_some-clause-gaps
returns-then-is_some-clause-gaps g c =
    let t1 = tiling c.reset-a.new.self.segs.items in
    let t2 = tiling c.link_gap.new.extents.segs.items in
    below-linked _ _ c.args.number c.args.root.now.0 c.args.extents.now.kept (there g (goal.at.returns-then-is_some-clause-gaps g c).Then-is_some) t1 c.reset-a.ensures.tiling c.requires.gaps t2 c.link_gap.result.0 c.link_gap.ensures.rest.extents
    (subst (λ (z : ℕ). GapLinked t1 t2 c.args.root.now.0 z c.link_gap.result.0) c.reset-a.ensures.value c.link_gap.ensures.linked)

pub returns-else-is_some-clause-cost : goal.returns-else-is_some-clause-cost
returns-else-is_some-clause-cost g c = λ start m. made-most _ _ _ _ _ _ (count-more c.args.number (map pair_of c.args.extents.now.segs.items)) m

pub returns-then-is_some-clause-cost : goal.returns-then-is_some-clause-cost
returns-then-is_some-clause-cost g c = λ start m.
    let n = c.args.number in
    let e = c.args.extents.now in
    let here = there g (goal.at.returns-then-is_some-clause-cost g c).Then-is_some in
    let r = c.reset-a.new.self in
    let t1 = tiling r.segs.items in
    let t2 = tiling c.link_gap.new.extents.segs.items in
    made-most t2 c.link_gap.result.0 start c.link_gap.new.steps _ _ (count-one n (map pair_of e.segs.items) here)
    (made-linked _ _ n c.args.root.now.0 e.kept here t1 c.reset-a.ensures.tiling c.requires.gaps t2 c.link_gap.result.0 start c.args.steps.now c.link_gap.new.steps _
    (gap_none r.segs.items r.index.items r.kept) c.link_gap.ensures.rest.extents
    (subst (λ (z : ℕ). GapLinked t1 t2 c.args.root.now.0 z c.link_gap.result.0) c.reset-a.ensures.value c.link_gap.ensures.linked) c.link_gap.ensures.cost c.link_gap.ensures.rises m)
