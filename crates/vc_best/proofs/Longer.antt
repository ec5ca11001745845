-- A segment that was made longer, for a block that no gap holds.
use Rattle.vc_base.proofs.Common.{◌≡◌, ℕ, ◌+◌, ◌-◌, ◌<◌, ◌≤◌, Bool, true, false, eqb, ◌≢◌, List, [], ◌∷◌, ◌++◌, map, None, All, filter, sym, refl, ap, ◌∙◌, subst, ⊎_elim, append-nil, arith, eqb-false, le-leb, ∥∥₁_elim, cases_Bool, All-cons, All-head, All-nil, All-tail, All-weaker, address, place_of, place_in, Terms, Run, Layout, with_grant, holds, least, lowest_offset, span}
use Rattle.vc_extent.specs.Change.{widen}
use Rattle.vc_extent.specs.Tiling.{size_in}
use Rattle.vc_gaps.specs.Fits as gaps
use Rattle.vc_gaps.proofs.Named.{extent_in-off}
use Rattle.vc_gaps.proofs.Widened.{free-widened, gaps-widened, gaps-widened_by, none-widened, own-widened, place-widened, span-widened}
use Rattle.vc_seg.proofs.Rounding.{round_up-most}
use Rattle.vc_base.proofs.Options.{option_map-None}
use Rattle.vc_base.proofs.Sets.{bytes-set}
use Rattle.vc_best.specs.Ask.{more_bytes}
use Rattle.vc_best.specs.Beside.{IsMergedBut}
use Rattle.vc_best.specs.Changes.{leave_out}
use Rattle.vc_best.specs.Standing.{IsMoreFree, IsOnlyHolding, IsOnlyOut}
use Rattle.vc_best.proofs.Common.{AreAllowed, AreExtents, AreWhole, Bytes, Extent, GapsChange, HasGaps, HasGapsBy, IsFree, IsMerged, all_busy, behind, busy_in, change_at, change_extent, change_in, extent_in, extent_of, extents_of, first_of, free_extent, free_name, free_next, in_order, layout_by, no_links, pair_of, run_at, run_of_extent, tiling}
use Rattle.vc_best.proofs.Cuts.{behind-here, behind-skip, change_at-here, change_at-skip, change_in-none, change_in-twice}
use Rattle.vc_best.proofs.Gaps.{least-None}
use Rattle.vc_best.proofs.Known.{segment-of}
use Rattle.vc_best.proofs.Lies.{IsWithin, lies-within}
use Rattle.vc_best.proofs.Only.{only-widened}
use Rattle.vc_best.proofs.Parts.{busy-append}
use Rattle.vc_best.proofs.Plain.{runs-by}
use Rattle.vc_best.proofs.Puts.{place-runs, place_at}
use Rattle.vc_best.proofs.Rounding.{IsAligned-from_IsAlign}
use Rattle.vc_best.proofs.Sets.{tiling-set}

-- the blocks stay
busy-widened : (n off more : ℕ) (t : List (ℕ × List Extent)) → all_busy (change_in n (widen off more) t) ≡ all_busy t
busy-widened n off more [] = refl
busy-widened n off more (s ∷ ss) =
    ⊎_elim
    (λ (t : eqb s.0 n ≡ true). rw t (ap (λ bs. bs ++ all_busy ss) (busy-append s.0 s.1 (free_extent off more no_links ∷ []) ∙ append-nil (busy_in s))))
    (λ (t : eqb s.0 n ≡ false). rw t (ap (λ bs. busy_in s ++ bs) (busy-widened n off more ss)))
    (cases_Bool (eqb s.0 n))

-- an offset that names none is no extent's
none-named : (off : ℕ) (es : List Extent) → All (λ e. 32 ≤ e.span) es → (extent_in off es).span ≡ 0 → All (λ e. e.off ≢ off) es
none-named off [] wide none = All-nil (λ (e : Extent). e.off ≢ off)
none-named off (e ∷ es) wide none =
    let W : Extent → Type 0 = λ x. 32 ≤ x.span in
    let first : 32 ≤ e.span = All-head W e es wide in
    ⊎_elim
    (λ (t : eqb e.off off ≡ true). let zero : e.span ≡ 0 = rw t at none in absurd (omega (arith, first, zero)))
    (λ (t : eqb e.off off ≡ false). All-cons (λ (x : Extent). x.off ≢ off) e es (eqb-false e.off off t) (none-named off es (All-tail W e es wide) (rw t at none)))
    (cases_Bool (eqb e.off off))

module _ (off more : ℕ) (es : List Extent) (others : All (λ e. e.off ≢ off) es) where
  abbrev f : Extent
  f = free_extent off more no_links

  left-widened : change_at off leave_out (widen off more es) ≡ es
  left-widened = change_at-skip off leave_out es (f ∷ []) others ∙ ap (λ zs. es ++ zs) (change_at-here off f [] refl leave_out) ∙ append-nil es

  behind-widened : behind off (widen off more es) ≡ []
  behind-widened = behind-skip off es (f ∷ []) others ∙ behind-here off f [] refl

module _ (old new : List Bytes) (i : List ℕ) (k : ∥ AreExtents old i ∥₁) (root n had more size align a : ℕ) (terms : Terms) (l : IsMoreFree terms old new n had more a) (some : 1 ≤ more) where
  abbrev was : ℕ
  was = size_in n (map pair_of old)

  own-extents : tiling new ≡ change_in n (widen (size_in n (map pair_of old)) more) (tiling old)
  own-extents = l.extents ∙ ap (λ (m : ℕ). change_in n (widen m more) (tiling old)) (sym l.size)

  below : size_in n (map pair_of old) < 33554432
  below = omega (arith, l.size, l.most, some)

  at : address (n, size_in n (map pair_of old)) ≡ a
  at = ap (λ (m : ℕ). address (n, m)) l.size ∙ sym l.value

  place : place_of a ≡ (n, size_in n (map pair_of old))
  place = ap place_of (sym at) ∙ place-widened old i (tiling new) n more k l.there below own-extents

  pub more-free : IsFree (tiling new) a
  more-free = subst (IsFree (tiling new)) at (free-widened old i (tiling new) n more k l.there below own-extents some)

  pub more-change : GapsChange (tiling old) (tiling new) [] (a ∷ [])
  more-change u root out h = subst (λ (z : ℕ). HasGapsBy u (tiling new) root (z ∷ out)) at (gaps-widened_by old i (tiling new) n more k l.there below own-extents root out h)

  pub more-gaps : HasGaps (tiling old) root [] → HasGaps (tiling new) root (a ∷ [])
  more-gaps h = subst (λ (z : ℕ). HasGaps (tiling new) root (z ∷ [])) at (gaps-widened old i (tiling new) n more k l.there below own-extents root [] h)

  pub more-layout : layout_by new ≡ with_grant (layout_by old) (more_bytes n more)
  unfolding layout_by
  more-layout =
      let pairs = l.pairs in
      let blocks : in_order (all_busy (tiling new)) ≡ in_order (all_busy (tiling old)) = ap in_order (ap all_busy own-extents ∙ busy-widened n was more (tiling old)) in
      λ j. record { segments = pairs j; blocks = blocks j }

  others : AreExtents old i → All (λ e. e.off ≢ was) (extents_of n (tiling old))
  others h =
      let s = segment-of n old i h l.there in
      none-named was (extents_of n (tiling old))
      (All-weaker (IsWithin (s.size - 16) 16) (λ e. 32 ≤ e.span) (λ e w. w.legal.least) (extents_of n (tiling old)) (lies-within (s.size - 16) 16 (extents_of n (tiling old)) refl s.lies))
      (none-widened old i (tiling new) n more k l.there below own-extents)

  -- the tiling is the old one without it
  left : change_extent a leave_out (tiling new) ≡ tiling old
  left =
      ∥∥₁_elim k (hlevel (tiling-set))
      (λ h.
      ap (λ (q : ℕ × ℕ). change_in q.0 (change_at q.1 leave_out) (tiling new)) place
      ∙ (ap (change_in n (change_at was leave_out)) own-extents
      ∙ (change_in-twice n (tiling old) (widen was more) (change_at was leave_out)
      ∙ change_in-none n (tiling old) (λ es. change_at was leave_out (widen was more es)) (left-widened was more (extents_of n (tiling old)) (others h)))))

  next : free_next (tiling new) a ≡ []
  next =
      let own : extents_of n (tiling new) ≡ widen was more (extents_of n (tiling old)) = own-widened old i (tiling new) n more k l.there below own-extents in
      ∥∥₁_elim k (hlevel (bytes-set))
      (λ h.
      ap (λ (q : ℕ × ℕ). free_name q.0 (first_of (behind q.1 (extents_of q.0 (tiling new))))) place
      ∙ (ap (λ es. free_name n (first_of (behind was es))) own ∙ ap (λ es. free_name n (first_of es)) (behind-widened was more (extents_of n (tiling old)) (others h))))

  pub more-merged : IsMerged (tiling old) → IsMergedBut (tiling new) a
  more-merged m = record { others = subst IsMerged (sym left) m; next = next }

  run : run_at (tiling new) a ≡ run_of_extent n (free_extent was more no_links)
  run =
      let x = extent_of (tiling new) a in
      let span_is : x.span ≡ more = ap (λ (b : ℕ). (extent_of (tiling new) b).span) (sym at) ∙ span-widened old i (tiling new) n more k l.there below own-extents in
      let off_is : x.off ≡ was = extent_in-off (place_of a).1 (extents_of (place_of a).0 (tiling new)) ∙ ap (λ (q : ℕ × ℕ). q.1) place in
      let seg_is : (place_of a).0 ≡ n = ap (λ (q : ℕ × ℕ). q.0) place in
      λ j. record { seg = seg_is j; from = off_is j - 16; to = off_is j - 16 + span_is j }

  pub more-only : AreAllowed size align → IsMerged (tiling old) → place_in (layout_by old) size align ≡ None → span size + align ≤ more → IsOnlyHolding (tiling new) size align a
  more-only allowed merged none room =
      let aligned = IsAligned-from_IsAlign align allowed.aligned in
      let f : Run = run_of_extent n (free_extent was more no_links) in
      let test : Run → Bool = holds (span size) align in
      let least_align = aligned.least in
      let high : lowest_offset align f < f.from + 16 + align = round_up-most (f.from + 16) align (omega (arith, least_align)) in
      let first = l.least in
      let size_is = l.size in
      let passes : test f ≡ true = le-leb (lowest_offset align f + span size) (f.to + 16) (omega (arith, high, room, first, size_is)) in
      let no : filter test (gaps.free_runs (tiling old)) ≡ [] =
      least-None _ (ap (λ (rs : List Run). least (filter test rs)) (sym (runs-by (tiling old))) ∙ option_map-None (place_at align) _ (sym (place-runs old i size align k merged) ∙ none)) in
      ap (λ (t : List (ℕ × List Extent)). filter test (gaps.free_runs t)) own-extents ∙ only-widened test n was more old l.there passes no ∙ ap (λ r. r ∷ []) (sym run)

  pub more-out : AreAllowed size align → AreWhole old root → place_in (layout_by old) size align ≡ None → span size + align ≤ more → IsOnlyOut new root size align a
  more-out allowed whole none room = record {
    allowed = allowed;
    free = more-free;
    only = more-only allowed whole.kept.merged none room;
    merged = more-merged whole.kept.merged;
    gaps = more-gaps whole.kept.gaps;
    sizes = subst (λ (r : Layout ℕ). All (λ b. b.size ≤ 16777264) r.blocks) (sym more-layout) whole.sizes;
  }
