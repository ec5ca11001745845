-- A segment that was lent, for a block that no gap holds.
use Rattle.vc_base.proofs.Common.{◌≡◌, ℕ, ◌+◌, ◌-◌, ◌≤◌, true, false, eqb, ◌≢◌, List, [], ◌∷◌, ◌++◌, map, Some, None, All, filter, sym, refl, ap, ◌∙◌, subst, arith, eq-eqb, ne_eqb, le-leb, All-head, All-map, All-push, All-tail, filter-append, address, place_of, place_in, IsSegmentSize, Terms, Run, Layout, with_grant, holds, least, lowest_offset, new_segment, span}
use Rattle.vc_best.proofs.Common.{AreAllowed, AreExtents, AreWhole, Bytes, Extent, GapsChange, HasGaps, HasGapsBy, IsLeastHolding, IsLeastOut, IsLentFree, IsMerged, extent_in, extent_of, extents, extents_of, free_extent, is_merged, layout_by, no_links, pair_of, run_at, run_of_extent, tiling}
use Rattle.std.proofs.lemmas.Grind.{flat_map-append}
use Rattle.vc_base.proofs.Options.{option_map-None}
use Rattle.vc_extent.proofs.Pushes.{apart-there}
use Rattle.vc_gaps.specs.Fits as gaps
use Rattle.vc_gaps.proofs.Added.{gaps-added, gaps-added_by}
use Rattle.vc_best.proofs.Gaps.{least-None}
use Rattle.vc_best.proofs.Plain.{runs-by}
use Rattle.vc_best.proofs.Puts.{place-runs, place_at}
use Rattle.vc_best.proofs.Rounding.{IsAligned-from_IsAlign}
use Rattle.vc_best.proofs.Segments.{layout-added}

new-extents : (t : List (ℕ × List Extent)) (n : ℕ) (es : List Extent) → All (λ s. s.0 ≢ n) t → extents_of n (t ++ (n, es) ∷ []) ≡ es
new-extents [] n es h = rw (eq-eqb n n refl) refl
new-extents (s ∷ ss) n es h =
    let P : ℕ × List Extent → Type 0 = λ q. q.0 ≢ n in
    rw (ne_eqb s.0 n (All-head P s ss h)) (new-extents ss n es (All-tail P s ss h))

pub segments-by : (segs : List Bytes) → (layout_by segs).segments ≡ map pair_of segs
unfolding layout_by
segments-by segs = refl

-- what was lent is the least free extent that holds a block which had no place, and out of the tree
module _ (old lent : List Bytes) (i : List ℕ) (k : ∥ AreExtents old i ∥₁) (root n bytes size align a : ℕ) (place : place_of a ≡ (n, 32)) (value : a ≡ address (n, 32)) (terms : Terms) (l : IsLentFree terms old lent n bytes) (allowed : AreAllowed size align)
    (whole : AreWhole old root) (none : place_in (layout_by old) size align ≡ None) (legal : IsSegmentSize bytes) (room : span size + align ≤ bytes) where
  abbrev new_extent : Extent
  new_extent = free_extent 32 (bytes - 32) no_links

  abbrev new_run : Run
  new_run = run_of_extent n new_extent

  lent-extent : extent_of (tiling lent) a ≡ new_extent
  lent-extent =
      let others = All-map (λ (s : ℕ × List Extent). s.0 ≢ n) (λ (s : Bytes). (s.number, extents s.bytes)) old (apart-there n old l.fresh) in
      let own : extents_of n (tiling lent) ≡ new_extent ∷ [] = ap (extents_of n) l.extents ∙ new-extents (tiling old) n (new_extent ∷ []) others in
      ap (λ (p : ℕ × ℕ). extent_in p.1 (extents_of p.0 (tiling lent))) place ∙ ap (extent_in 32) own

  lent-run : run_at (tiling lent) a ≡ new_run
  lent-run = ap (λ (e : Extent). run_of_extent (place_of a).0 e) lent-extent ∙ ap (λ (p : ℕ × ℕ). run_of_extent p.0 new_extent) place

  lent-least : IsLeastHolding (tiling lent) size align a
  lent-least =
      let aligned = IsAligned-from_IsAlign align allowed.aligned in
      let first : lowest_offset align new_run ≡ align = aligned.first in
      let long = legal.least in
      let test = holds (span size) align in
      let passes : test new_run ≡ true = le-leb (lowest_offset align new_run + span size) (new_run.to + 16) (omega (arith, first, room, long)) in
      let no : filter test (gaps.free_runs (tiling old)) ≡ [] =
      least-None _ (ap (λ (rs : List Run). least (filter test rs)) (sym (runs-by (tiling old))) ∙ option_map-None (place_at align) _ (sym (place-runs old i size align k whole.kept.merged) ∙ none)) in
      let all : gaps.free_runs (tiling lent) ≡ gaps.free_runs (tiling old) ++ new_run ∷ [] =
      ap gaps.free_runs l.extents ∙ flat_map-append (λ (s : ℕ × List Extent). map (run_of_extent s.0) (filter (λ e. eqb e.size 0) s.1)) (tiling old) ((n, new_extent ∷ []) ∷ []) in
      let one : filter test (gaps.free_runs (tiling lent)) ≡ new_run ∷ [] =
      ap (filter test) all ∙ filter-append test (gaps.free_runs (tiling old)) (new_run ∷ []) ∙ ap (λ (rs : List Run). rs ++ filter test (new_run ∷ [])) no ∙ rw passes refl in
      ap (λ (r : Run). Some r) lent-run ∙ sym (ap least one)

  pub lent-layout : layout_by lent ≡ with_grant (layout_by old) (new_segment n bytes)
  lent-layout = layout-added old lent n bytes (bytes - 32) l.extents l.pairs

  pub lent-change : GapsChange (tiling old) (tiling lent) [] (a ∷ [])
  lent-change u root out h = subst (λ (z : ℕ). HasGapsBy u (tiling lent) root (z ∷ out)) (sym value) (gaps-added_by old (tiling lent) root n (bytes - 32) out l.fresh l.extents h)

  pub lent-out : IsLeastOut lent root size align a
  lent-out = record {
    allowed = allowed;
    least = lent-least;
    merged = subst IsMerged (sym l.extents) (All-push (λ (s : ℕ × List Extent). is_merged false s.1 ≡ true) (tiling old) (n, new_extent ∷ []) whole.kept.merged refl);
    gaps = subst (λ (z : ℕ). HasGaps (tiling lent) root (z ∷ [])) (sym value) (gaps-added old (tiling lent) root n (bytes - 32) [] l.fresh l.extents whole.kept.gaps);
    sizes = subst (λ (r : Layout ℕ). All (λ b. b.size ≤ 16777264) r.blocks) (sym lent-layout) whole.sizes;
  }
