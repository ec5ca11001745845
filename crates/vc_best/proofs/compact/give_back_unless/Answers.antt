use Rattle.vc_base.proofs.Common.{◌≡◌, ℕ, true, false, not, eqb, List, [], ◌∷◌, ◌++◌, map, length, IsSome, All, filter, sym, refl, ap, ◌∙◌, subst, arith, ∥∥₁_elim, ℕ_set, All-filter, address, HasOut, without_last, Layout}
use Rattle.vc_best.proofs.Common.{Extent, GapsChange, HasGaps, IsMerged, IsNamed, IsOneFree, IsThere, behind_of, extent_of, extents_of, is_merged, pair_of, size_of, tiling}
use Rattle.vc_base.proofs.Options.{none_where}
use Rattle.vc_seg.specs.Back.{is_marked, stays_from}
use Rattle.vc_seg.proofs.Backs.{Contains-ends, Contains-own, is_kept-marked, is_kept-unmarked}
use Rattle.vc_gaps.proofs.Added.{gaps-removed}
use Rattle.vc_best.proofs.Backs.{kept-none, one-gone, out-gone, some-of}
use Rattle.vc_best.proofs.Costs.{changed_cost, still_cost, then_cost}
use Rattle.vc_best.proofs.EmptyGaps.{first-off, one-first, start-address}
use Rattle.vc_best.proofs.Linking.{gaps-changed, in-tree}
use Rattle.vc_best.proofs.Plain.{layout-stays, merged-stays, one_free-stays}
use Rattle.vc_best.proofs.Segments.{free-by, layout-removed}
use Rattle.vc_best.proofs.Sets.{pairs-set}
use Rattle.vc_best.proofs.Walks.{start-named, start-whole}
use Rattle.vc_best.proofs.compact.give_back_unless.Given.{Over}
use Rattle.vc_best.proofs.compact.give_back_unless.Goals as goal
use Rattle.vc_best.proofs.compact.give_back_unless.Goals.{After-first-first, After-remove-segment, After-unlink_gap}

pub returns-then-marks-number-clause-given : goal.returns-then-marks-number-clause-given
returns-then-marks-number-clause-given g c =
    let segs = c.args.extents.now.segs.items in
    record { segments = sym (is_kept-marked (λ (s : ℕ × ℕ). s) (is_marked c.args.marks.now) c.args.number (map pair_of segs) c.if-marks-number.true); blocks = refl; count = omega arith }

pub returns-then-is_none-clause-given : goal.returns-then-is_none-clause-given
returns-then-is_none-clause-given g c =
    let segs = c.args.extents.now.segs.items in
    record {
      segments = sym (kept-none (is_marked c.args.marks.now) c.args.number (map pair_of segs) (sym c.has.ensures ∙ none_where c.has.result c.is_none.result c.is_none.ensures c.if-is_none.true));
      blocks = refl;
      count = omega arith;
    }

-- the segment is there, is one free extent, and its address is at an offset of 32
there : (g : Over) (c : After-first-first g) → IsThere c.args.number c.args.extents.now.segs.items
there g c = subst IsSome c.has.ensures (some-of c.has.result c.is_none.result c.is_none.ensures c.if-is_none.false)

one : (g : Over) (c : After-first-first g) → IsOneFree (extents_of c.args.number (tiling c.args.extents.now.segs.items))
one g c =
    free-by _ _ c.args.number c.args.extents.now.kept c.requires.kept.merged (there g c) (sym (c.requires.marks c.args.number (there g c)) ∙ c.if-marks-number.false)

whole : (g : Over) (c : After-first-first g) → extents_of c.args.number (tiling c.args.extents.now.segs.items) ≡ extent_of (tiling c.args.extents.now.segs.items) c.first-first.result.0 ∷ behind_of (tiling c.args.extents.now.segs.items) c.first-first.result.0
whole g c = start-whole _ _ c.args.number c.first-first.result.0 c.args.extents.now.kept (there g c) c.first-first.ensures

named : (g : Over) (c : After-first-first g) → IsNamed (tiling c.args.extents.now.segs.items) c.first-first.result.0
named g c = start-named _ _ c.args.number c.first-first.result.0 c.args.extents.now.kept (there g c) c.first-first.ensures

pub first-first-requires : goal.first-first-requires
first-first-requires g c = subst IsSome c.has.ensures (some-of c.has.result c.is_none.result c.is_none.ensures c.if-is_none.false)

pub unlink_gap-requires : goal.unlink_gap-requires
unlink_gap-requires g c =
    let f = (goal.at.unlink_gap-requires g c).After-first-first in
    in-tree (tiling c.args.extents.now.segs.items) c.args.root.now.0 [] c.first-first.result.0 c.requires.kept.gaps (named g f) (subst IsOneFree (whole g f) (one g f)).0 refl

-- it is so without its node
still : (g : Over) (c : After-unlink_gap g) → IsOneFree (extents_of c.args.number (tiling c.unlink_gap.new.extents.segs.items))
still g c = one_free-stays (tiling c.args.extents.now.segs.items) (tiling c.unlink_gap.new.extents.segs.items) c.unlink_gap.ensures.rest.extents c.args.number (one g (goal.at.After-unlink_gap g c).After-first-first)

pub remove-segment-requires-clause-free : goal.remove-segment-requires-clause-free
remove-segment-requires-clause-free g c = still g (goal.at.remove-segment-requires-clause-free g c).After-unlink_gap

pub give_back_one-requires-clause-ascending : goal.give_back_one-requires-clause-ascending
give_back_one-requires-clause-ascending g c =
    let P = λ (n : ℕ) (s : ℕ × ℕ). stays_from (is_marked c.args.marks.now) n s.0 ≡ true in
    let left : map pair_of c.deref.result.now ≡ filter (λ s. not (eqb s.0 c.args.number)) (map pair_of c.args.extents.now.segs.items) =
    ap (map pair_of) c.deref.ensures.value ∙ c.remove-segment.ensures.pairs ∙ ap (filter (λ (s : ℕ × ℕ). not (eqb s.0 c.args.number))) c.unlink_gap.ensures.rest.pairs in
    subst (λ (n : ℕ). All (P n) (map pair_of c.deref.result.now)) (sym c.remove-segment.ensures.number)
    (subst (All (P c.args.number)) (sym left) (All-filter (λ (s : ℕ × ℕ). not (eqb s.0 c.args.number)) (P c.args.number) (map pair_of c.args.extents.now.segs.items) c.requires.ascending))

pub give_back_one-requires-clause-out : goal.give_back_one-requires-clause-out
give_back_one-requires-clause-out g c =
    let among = c.remove-segment.ensures.contains in
    let mid = c.unlink_gap.new.extents.segs.items in
    Contains-ends _ (map pair_of mid) (pair_of c.remove-segment.result)
    (subst (λ (ss : List (ℕ × ℕ)). HasOut ((goal.SegDisc-dyn g (c.args.disc.now.vtable, c.args.disc.now.value)).state c.args.disc.now.value) ss) (sym c.unlink_gap.ensures.rest.pairs) c.requires.out)
    (Contains-own pair_of mid among.0 c.remove-segment.result among.1 (sym among.2))

pub returns-clause-given : goal.returns-clause-given
returns-clause-given g c =
    record {
      segments =
          c.remove-segment.ensures.pairs
          ∙ ap (filter (λ (s : ℕ × ℕ). not (eqb s.0 c.args.number))) c.unlink_gap.ensures.rest.pairs
          ∙ is_kept-unmarked (λ (s : ℕ × ℕ). s) (is_marked c.args.marks.now) c.args.number (map pair_of c.args.extents.now.segs.items) c.if-marks-number.false;
      blocks =
          layout-removed _ _ c.args.number c.unlink_gap.new.extents.kept c.remove-segment.new.self.segs.items (still g (goal.at.returns-clause-given g c).After-unlink_gap) c.remove-segment.ensures.tiling
          ∙ ap (λ (r : Layout ℕ). r.blocks) (layout-stays c.args.extents.now.segs.items c.unlink_gap.new.extents.segs.items c.unlink_gap.ensures.rest);
      count =
          ∥∥₁_elim c.unlink_gap.new.extents.kept (hlevel (ℕ_set)) (λ k. one-gone c.unlink_gap.new.extents.segs.items c.remove-segment.new.self.segs.items c.args.number c.remove-segment.result k.segments c.remove-segment.ensures.contains c.remove-segment.ensures.number c.remove-segment.ensures.segs)
          ∙ ap length c.unlink_gap.ensures.rest.pairs;
    }

-- its one extent is out of the tree, which stays without it
out : (g : Over) (c : After-unlink_gap g) → HasGaps (tiling c.unlink_gap.new.extents.segs.items) c.unlink_gap.result.0 (address (c.args.number, 32) ∷ [])
out g c =
    let e = c.args.extents.now in
    let first : c.first-first.result.0 ≡ address (c.args.number, 32) = start-address _ _ c.args.number e.kept (there g (goal.at.After-unlink_gap g c).After-first-first) c.first-first.result.0 c.first-first.ensures in
    subst (λ (z : ℕ). HasGaps (tiling c.unlink_gap.new.extents.segs.items) c.unlink_gap.result.0 (z ∷ [])) first (c.unlink_gap.ensures.unlinked.gaps [] c.requires.kept.gaps)

change : (g : Over) (c : After-remove-segment g) → GapsChange (tiling c.unlink_gap.new.extents.segs.items) (tiling c.remove-segment.new.self.segs.items) (address (c.args.number, 32) ∷ []) []
change g c u root out h =
    let n = c.args.number in
    let t1 = tiling c.unlink_gap.new.extents.segs.items in
    let at = goal.at.After-remove-segment g c in
    let o = one-first (extents_of n t1) (still g at.After-unlink_gap) in
    let off : o.0.off ≡ 32 = first-off _ _ n c.unlink_gap.new.extents.kept (subst (λ (ss : List (ℕ × ℕ)). IsSome (size_of n ss)) (sym c.unlink_gap.ensures.rest.pairs) (there g at.After-first-first)) o.0 [] o.1 in
    gaps-removed t1 (tiling c.remove-segment.new.self.segs.items) root n o.0 out o.1 off c.remove-segment.ensures.tiling h

pub returns-clause-kept : goal.returns-clause-kept
returns-clause-kept g c =
    let n = c.args.number in
    let t1 = tiling c.unlink_gap.new.extents.segs.items in
    let at = goal.at.returns-clause-kept g c in
    record {
      merged =
          subst IsMerged (sym c.remove-segment.ensures.tiling)
          (All-filter (λ (s : ℕ × List Extent). not (eqb s.0 n)) (λ (s : ℕ × List Extent). is_merged false s.1 ≡ true) t1
          (merged-stays (tiling c.args.extents.now.segs.items) t1 c.unlink_gap.ensures.rest.extents c.requires.kept.merged));
      gaps = gaps-changed t1 (tiling c.remove-segment.new.self.segs.items) c.unlink_gap.result.0 (address (n, 32) ∷ []) [] (change g at.After-remove-segment) (out g at.After-unlink_gap);
    }

pub returns-clause-cost : goal.returns-clause-cost
returns-clause-cost g c =
    let at = goal.at.returns-clause-cost g c in
    then_cost (out g at.After-unlink_gap) c.unlink_gap.ensures.cost
    (changed_cost _ _ _ _ c.unlink_gap.new.extents.kept c.remove-segment.new.self.kept c.unlink_gap.result.0 0 0 0 (address (c.args.number, 32) ∷ []) [] (change g at.After-remove-segment) (out g at.After-unlink_gap) (omega arith))

pub returns-then-marks-number-clause-cost : goal.returns-then-marks-number-clause-cost
returns-then-marks-number-clause-cost g c = still_cost _ _ c.args.extents.now.kept c.args.root.now.0 0 0 _ 0 0 (omega arith)

pub returns-then-is_none-clause-cost : goal.returns-then-is_none-clause-cost
returns-then-is_none-clause-cost g c = still_cost _ _ c.args.extents.now.kept c.args.root.now.0 0 0 _ 0 0 (omega arith)

pub returns-clause-disc : goal.returns-clause-disc
returns-clause-disc g c =
    record {
      out = λ rest e.
          ∥∥₁_elim c.unlink_gap.new.extents.kept (hlevel (pairs-set))
          (λ k.
          c.give_back_one.ensures.out
          ∙ (ap (without_last (pair_of c.remove-segment.result)) (e ∙ ap (λ (ss : List (ℕ × ℕ)). rest ++ ss) (sym c.unlink_gap.ensures.rest.pairs))
          ∙ out-gone c.unlink_gap.new.extents.segs.items c.remove-segment.new.self.segs.items c.args.number c.remove-segment.result k.segments c.remove-segment.ensures.contains c.remove-segment.ensures.number c.remove-segment.ensures.segs rest));
      kept = c.give_back_one.ensures.kept;
      faults = c.give_back_one.ensures.faults;
      exceptions = c.give_back_one.ensures.exceptions;
    }
