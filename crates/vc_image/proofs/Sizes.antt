-- Where no block of a region is too large, no extent is.
use Rattle.vc_base.proofs.Common.{◌≡◌, ℕ, ◌≤◌, Bool, true, false, ltb, ◌||◌, List, [], ◌∷◌, map, filter, All, list_any, list_any-append, sym, refl, ◌∙◌, arith, cases_lt, inl, inr, true≢false, lt-ltb, le-ltb, All-head, All-tail, Block, AllByRecursion}
use Rattle.std.proofs.lemmas.List.Elements.{All-from_recursion}
use Rattle.vc_seg.specs.Segment.{Bytes}
use Rattle.vc_seg.proofs.InOrder.{any-order}
use Rattle.vc_extent.specs.Extent.{Extent, extents}
use Rattle.vc_extent.specs.Tiling.{tiling}
use Rattle.vc_best.specs.Blocks.{all_busy, block_of, busy_in, is_busy, layout_by}
use Rattle.vc_best.proofs.Held.{AreMost}

abbrev is_large : Block ℕ → Bool
is_large b = ltb 16777264 b.size

abbrev pub Most : Extent → Type 0
Most e = e.size ≤ 16777264

pub either-none : (x y : Bool) → (x || y) ≡ false → (x ≡ false) × (y ≡ false)
either-none true y h = absurd (true≢false h)
either-none false y h = (refl, h)

none-large : (bs : List (Block ℕ)) → AreMost bs → list_any is_large bs ≡ false
none-large [] h = refl
none-large (b ∷ bs) h =
    let small = All-head (λ (c : Block ℕ). c.size ≤ 16777264) b bs h in
    rw (le-ltb 16777264 b.size small) (none-large bs (All-tail (λ (c : Block ℕ). c.size ≤ 16777264) b bs h))

not-large : (n : ℕ) → ltb 16777264 n ≡ false → n ≤ 16777264
not-large n h = elim (cases_lt 16777264 n) as (λ _. n ≤ 16777264) [
  | inl large ↦ absurd (true≢false (sym (lt-ltb 16777264 n large) ∙ h))
  | inr small ↦ small
]

not-busy : (e : Extent) → is_busy e ≡ false → Most e
not-busy e h = elim (cases_lt 0 e.size) as (λ _. Most e) [
  | inl some ↦ absurd (true≢false (sym (lt-ltb 0 e.size some) ∙ h))
  | inr none ↦ omega (arith, none)
]

-- the extents of one segment
extents-most : (number : ℕ) (es : List Extent) → list_any is_large (map (block_of number) (filter is_busy es)) ≡ false → AllByRecursion Most es
extents-most number [] h = tt
extents-most number (e ∷ es) h = by (is_busy e) refl (λ k. extents-most number es k)
  where
    by : (t : Bool) → is_busy e ≡ t → (list_any is_large (map (block_of number) (filter is_busy es)) ≡ false → AllByRecursion Most es) → AllByRecursion Most (e ∷ es)
    by true t rest =
        let p = either-none (ltb 16777264 e.size) (list_any is_large (map (block_of number) (filter is_busy es))) (rw t at h) in
        (not-large e.size p.0, rest p.1)
    by false t rest = (not-busy e t, rest (rw t at h))

-- those of all segments
segments-most : (segs : List Bytes) → list_any is_large (all_busy (tiling segs)) ≡ false → AllByRecursion (λ s. All Most (extents s.bytes)) segs
segments-most [] h = tt
segments-most (s ∷ ss) h =
    let here = busy_in (s.number, extents s.bytes) in
    let rest = all_busy (tiling ss) in
    let p = either-none (list_any is_large here) (list_any is_large rest) (sym (list_any-append is_large here rest) ∙ h) in
    (All-from_recursion Most (extents s.bytes) (extents-most s.number (extents s.bytes) p.0), segments-most ss p.1)

pub each-most : (segs : List Bytes) → AreMost (layout_by segs).blocks → All (λ s. All Most (extents s.bytes)) segs
unfolding layout_by
each-most segs h =
    All-from_recursion (λ (s : Bytes). All Most (extents s.bytes)) segs
    (segments-most segs (sym (any-order is_large (all_busy (tiling segs))) ∙ none-large (layout_by segs).blocks h))
