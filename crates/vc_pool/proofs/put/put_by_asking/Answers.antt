use Rattle.vc_base.proofs.Common.{◌≡◌, ℕ, ◌+◌, ◌≤◌, List, Option, Some, None, map, sym, refl, ap, ◌∙◌, subst, arith, IsSegmentSize, Terms, cell_for, round_up}
use Rattle.vc_model.specs.Discipline.{IsRound}
use Rattle.vc_model.specs.Segments.{growing}
use Rattle.vc_seg.proofs.Rounding.{IsSegmentSize-asked}
use Rattle.vc_pool.specs.Cells.Blocks.{pair_of}
use Rattle.vc_pool.specs.Cells.Kept.{FitsElement}
use Rattle.vc_pool.specs.Cells.Place.{cells_in, pair_in}
use Rattle.vc_pool.specs.declared.cells.segment.PoolSegment.{PoolSegment}
use Rattle.vc_pool.proofs.SegmentList.{pairs-in}
use Rattle.vc_pool.proofs.put.put_by_asking.Goals as goal
use Rattle.vc_pool.proofs.put.put_by_asking.Goals.{After-growing_of}
use Rattle.vc_pool.proofs.put.put_by_asking.Given.{Over}

-- the terms of the discipline that is asked
abbrev terms : (g : Over) → After-growing_of g → Terms
terms g c = ((goal.SegDisc-dyn g (c.args.disc.now.vtable, c.args.disc.now.value)).state c.args.disc.now.value).terms

some : {size element : ℕ} → FitsElement size element → 1 ≤ element
some h = let low = h.some in let high = h.fits in omega (arith, low, high)

-- a segment of one cell at least is legal
need-legal : (element cell bytes round : ℕ) → IsRound round → 1 ≤ element → element ≤ 16777216 → cell ≡ cell_for element → bytes ≡ round_up (32 + cell) round → IsSegmentSize bytes
need-legal element cell bytes round legal some most same is =
    subst IsSegmentSize (sym (is ∙ ap (λ n. round_up (32 + n) round) same)) (IsSegmentSize-asked round (32 + cell_for element) legal (omega (arith, some)) (omega (arith, most)))

-- what was found, by the segments with their cells
found : (g : Over) (c : After-growing_of g) → (o : Option (ℕ × ℕ)) → o ≡ c.growing_of.result → growing (terms g c) (map pair_of (cells_in c.args.segs.now.items)) ≡ o
found g c o is = ap (growing (terms g c)) (sym (pairs-in c.args.segs.now.items) ∙ ap (map pair_in) (sym c.deref.ensures.value)) ∙ (sym c.growing_of.ensures ∙ sym is)

pub put_in_longer-requires-clause-grows : goal.put_in_longer-requires-clause-grows
put_in_longer-requires-clause-grows g c =
    let at = (goal.at.put_in_longer-requires-clause-grows g c).After-growing_of in
    let here = found g at (Some c.in-Some.field-0) (sym c.in-Some.is) in
    let there = subst (λ (ss : List PoolSegment). growing (terms g at) (map pair_of (cells_in ss)) ≡ Some c.in-Some.field-0) (sym c.deref_mut.ensures.value) here in
    rw there refl

pub put_in_longer-requires-clause-bytes : goal.put_in_longer-requires-clause-bytes
put_in_longer-requires-clause-bytes g c = need-legal c.args.element c.rounded_up.result c.rounded_up-bytes.result c.round_of.result c.round_of.ensures.legal (some c.requires.size) c.requires.kept.most c.rounded_up.ensures c.rounded_up-bytes.ensures

pub put_in_new-requires-clause-new : goal.put_in_new-requires-clause-new
put_in_new-requires-clause-new g c = let at = (goal.at.put_in_new-requires-clause-new g c).After-growing_of in found g at None (sym c.in-None.is)

pub put_in_new-requires-clause-bytes : goal.put_in_new-requires-clause-bytes
put_in_new-requires-clause-bytes g c = need-legal c.args.element c.rounded_up.result c.rounded_up-bytes.result c.round_of.result c.round_of.ensures.legal (some c.requires.size) c.requires.kept.most c.rounded_up.ensures c.rounded_up-bytes.ensures
