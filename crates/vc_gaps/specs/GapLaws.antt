-- What a store of gaps keeps of itself, as its type has to show.
use Rattle.std.specs.Prelude.{◌≡◌, ℕ, ◌/◌, ◌<◌, ◌≤◌, ◌^◌, List, [], ◌∷◌, map, Bool, true, false, eqb, refl, ◌==◌, ◌&&◌, nat_lt}
use Rattle.std.specs.Ordering.{nat_cmp}
use Rattle.std.proofs.Common.{sym, ap, ◌∙◌, ⊎_elim, arith}
use Rattle.std.proofs.Math.Bridge.{le_prop}
use Rattle.std.proofs.Math.Logic.{∥∥₁_elim}
use Rattle.std.proofs.lemmas.Bool.{cases_Bool, eqb-true, ltb-true, true≢false}
use Rattle.vc_model.specs.Addr.{place_of}
use Rattle.vc_seg.specs.Segment.{Bytes}
use Rattle.vc_extent.specs.Extent.{Extent}
use Rattle.vc_extent.specs.Change.{extent_in}
use Rattle.vc_extent.specs.Tiling.{AreExtents, IsThere, extent_of, extents_of, tiling}
use Rattle.vc_extent.proofs.Places.{named-there, there-first, there-last}
use Rattle.vc_gaps.specs.ButLinks.{Tiling, StaysButLinks, plain, without_links}
use Rattle.vc_gaps.specs.GapStore.{gap_key, gap_side, gap_store, is_free, key_of}

pub and-left : (a b : Bool) → a && b ≡ true → a ≡ true
and-left true b h = refl
and-left false b h = h

pub and-right : (a b : Bool) → a && b ≡ true → b ≡ true
and-right true b h = h
and-right false b h = absurd (true≢false (sym h))

-- an address that names a free extent names one
pub is_free-named : (t : Tiling) (a : ℕ) → is_free t a ≡ true → 0 < (extent_of t a).span
is_free-named t a h = ltb-true 0 (extent_of t a).span (and-left (nat_lt 0 (extent_of t a).span) ((extent_of t a).size == 0) h)

pub is_free-size : (t : Tiling) (a : ℕ) → is_free t a ≡ true → (extent_of t a).size ≡ 0
is_free-size t a h = eqb-true (extent_of t a).size 0 (and-right (nat_lt 0 (extent_of t a).span) ((extent_of t a).size == 0) h)

module _ (segs : List Bytes) (index : List ℕ) (kept : ∥ AreExtents segs index ∥₁) where
  there : (a : ℕ) → is_free (tiling segs) a ≡ true → IsThere (place_of a).0 segs
  there a h = named-there (place_of a).0 (place_of a).1 segs (is_free-named (tiling segs) a h)

  -- a segment's number is at most 1,023, so an address is below 2^30
  pub gap_small : (a : ℕ) → is_free (tiling segs) a ≡ true → a < 2 ^ 30
  gap_small a h =
      let last : a / 1048576 ≤ 1023 = ∥∥₁_elim kept le_prop (λ k. there-last (place_of a).0 segs k.segments.legal (there a h)) in
      omega arith

  pub gap_fits : (a : ℕ) → is_free (tiling segs) a ≡ true → a < 2 ^ 32
  gap_fits a h = let small = gap_small a h in omega arith

  -- and at least 1
  pub gap_some : (a : ℕ) → is_free (tiling segs) a ≡ true → 1 ≤ a
  gap_some a h =
      let first : 1 ≤ a / 1048576 = ∥∥₁_elim kept le_prop (λ k. there-first (place_of a).0 segs k.segments.legal (there a h)) in
      omega arith

  pub gap_none : is_free (tiling segs) 0 ≡ false
  gap_none =
      ⊎_elim
      (λ (t : is_free (tiling segs) 0 ≡ true). let some = gap_some 0 t in absurd (omega arith))
      (λ (t : is_free (tiling segs) 0 ≡ false). t)
      (cases_Bool (is_free (tiling segs) 0))

-- an extent keeps its offset, span and size without its links
pub without-off : (e : Extent) → (without_links e).off ≡ e.off
without-off e = ⊎_elim (λ (t : eqb e.size 0 ≡ true). rw t refl) (λ (t : eqb e.size 0 ≡ false). rw t refl) (cases_Bool (eqb e.size 0))

without-span : (e : Extent) → (without_links e).span ≡ e.span
without-span e = ⊎_elim (λ (t : eqb e.size 0 ≡ true). rw t refl) (λ (t : eqb e.size 0 ≡ false). rw t refl) (cases_Bool (eqb e.size 0))

pub without-size : (e : Extent) → (without_links e).size ≡ e.size
without-size e = ⊎_elim (λ (t : eqb e.size 0 ≡ true). rw t (sym (eqb-true e.size 0 t))) (λ (t : eqb e.size 0 ≡ false). rw t refl) (cases_Bool (eqb e.size 0))

extent_in-plain : (off : ℕ) (es : List Extent) → extent_in off (map without_links es) ≡ without_links (extent_in off es)
extent_in-plain off [] = refl
extent_in-plain off (e ∷ es) =
    ⊎_elim
    (λ (t : eqb e.off off ≡ true). rw (without-off e, t) refl)
    (λ (t : eqb e.off off ≡ false). rw (without-off e, t) (extent_in-plain off es))
    (cases_Bool (eqb e.off off))

pub extents_of-plain : (number : ℕ) (t : Tiling) → extents_of number (plain t) ≡ map without_links (extents_of number t)
extents_of-plain number [] = refl
extents_of-plain number (s ∷ ss) =
    ⊎_elim
    (λ (t : eqb s.0 number ≡ true). rw t refl)
    (λ (t : eqb s.0 number ≡ false). rw t (extents_of-plain number ss))
    (cases_Bool (eqb s.0 number))

-- the extent that an address names in a tiling without links
pub extent_of-plain : (t : Tiling) (a : ℕ) → extent_of (plain t) a ≡ without_links (extent_of t a)
extent_of-plain t a = ap (extent_in (place_of a).1) (extents_of-plain (place_of a).0 t) ∙ extent_in-plain (place_of a).1 (extents_of (place_of a).0 t)

module _ (old new : Tiling) (same : plain new ≡ plain old) (a : ℕ) where
  pub extent-stays : without_links (extent_of new a) ≡ without_links (extent_of old a)
  extent-stays = sym (extent_of-plain new a) ∙ ap (λ (t : Tiling). extent_of t a) same ∙ extent_of-plain old a

  pub span-stays : (extent_of new a).span ≡ (extent_of old a).span
  span-stays = sym (without-span (extent_of new a)) ∙ ap (λ (e : Extent). e.span) extent-stays ∙ without-span (extent_of old a)

  pub size-stays : (extent_of new a).size ≡ (extent_of old a).size
  size-stays = sym (without-size (extent_of new a)) ∙ ap (λ (e : Extent). e.size) extent-stays ∙ without-size (extent_of old a)

  pub is_free-stays : is_free new a ≡ is_free old a
  is_free-stays = rw (span-stays, size-stays) refl

  pub key-stays : key_of new a ≡ key_of old a
  key-stays = ap (λ z. gap_key z a) span-stays

-- so the same addresses name free extents
pub names_stay : (old new : Tiling) → plain new ≡ plain old → (gap_store new).has ≡ (gap_store old).has
names_stay old new same = λ i a. is_free-stays old new same a i

pub side_stays : (old new : List Bytes) (span at a : ℕ) → StaysButLinks old new → gap_side (tiling new) span at a ≡ gap_side (tiling old) span at a
side_stays old new span at a s = ap (λ z. nat_cmp z (gap_key span at)) (key-stays (tiling old) (tiling new) s.extents a)

pub but_links_none : (segs : List Bytes) → StaysButLinks segs segs
but_links_none segs = record { extents = refl; pairs = refl }

pub but_links_twice : (a b c : List Bytes) → StaysButLinks a b → StaysButLinks b c → StaysButLinks a c
but_links_twice a b c h k = record { extents = k.extents ∙ h.extents; pairs = k.pairs ∙ h.pairs }

pub name_twice : {A : Type 0} {a b c : A} → b ≡ a → c ≡ b → c ≡ a
name_twice e f = f ∙ e
