-- One of several segments changes.
use Rattle.vc_base.proofs.Common.{◌≡◌, ℕ, zero, suc, ◌+◌, ◌<◌, ◌≤◌, cond, eqb, ◌≢◌, List, [], ◌∷◌, map, length, get_or, take, set, All, HoldsAt, sym, refl, ap, ◌∙◌, subst, ⊎_elim, arith, length-set, get_or-set_other, get_or-set_same, eq-eqb, ne_eqb, cases_eq, All-head, All-set, All-tail, get_or_default, ∥∥₁_map, place_of}
use Rattle.vc_seg.specs.Segment.{Bytes, IsRegionSegment, pair_of}
use Rattle.vc_extent.specs.Extent.{Extent, extents}
use Rattle.vc_extent.specs.Tiles.{IsTiled}
use Rattle.vc_extent.specs.Change.{Changes, change_at, extent_in}
use Rattle.vc_extent.specs.Tiling.{AreExtents, IsFound, change_extent, change_in, extent_of, extents_of, index_from, tiling, IsExtentChanged}

-- a list of extents and another segment of the same number
pub tiling-set : (n i : ℕ) (segs : List Bytes) (new : Bytes) (change : List Extent → List Extent) → i < length segs → All (λ (b : Bytes). b.number ≢ n) (take i segs) → HoldsAt (λ (b : Bytes). b.number ≡ n) segs i → new.number ≡ n → HoldsAt (λ (b : Bytes). extents new.bytes ≡ change (extents b.bytes)) segs i →
    tiling (set segs i new) ≡ change_in n change (tiling segs)
tiling-set n i [] new change within first at number e = absurd (omega arith)
tiling-set n zero (s ∷ ss) new change within first at number e =
    rw (eq-eqb s.number n (at s)) (λ j. ((number ∙ sym (at s)) j, e s j) ∷ tiling ss)
tiling-set n (suc i) (s ∷ ss) new change within first at number e =
    rw (ne_eqb s.number n (All-head (λ (b : Bytes). b.number ≢ n) s (take i ss) first))
    (ap (λ (t : List (ℕ × List Extent)). (s.number, extents s.bytes) ∷ t) (tiling-set n i ss new change (omega arith) (All-tail (λ (b : Bytes). b.number ≢ n) s (take i ss) first) (λ d. at d) number (λ d. e d)))

pub extents-set : (n i : ℕ) (segs : List Bytes) (new : Bytes) → i < length segs → All (λ (b : Bytes). b.number ≢ n) (take i segs) → new.number ≡ n → extents_of n (tiling (set segs i new)) ≡ extents new.bytes
extents-set n i [] new within first number = absurd (omega arith)
extents-set n zero (s ∷ ss) new within first number = rw (eq-eqb new.number n number) refl
extents-set n (suc i) (s ∷ ss) new within first number =
    rw (ne_eqb s.number n (All-head (λ (b : Bytes). b.number ≢ n) s (take i ss) first)) (extents-set n i ss new (omega arith) (All-tail (λ (b : Bytes). b.number ≢ n) s (take i ss) first) number)

pub pairs-set : (i : ℕ) (segs : List Bytes) (new : Bytes) → i < length segs → HoldsAt (λ (b : Bytes). pair_of new ≡ pair_of b) segs i → map pair_of (set segs i new) ≡ map pair_of segs
pairs-set i [] new within e = refl
pairs-set zero (s ∷ ss) new within e = ap (λ (p : ℕ × ℕ). p ∷ map pair_of ss) (e s)
pairs-set (suc i) (s ∷ ss) new within e = ap (λ (t : List (ℕ × ℕ)). pair_of s ∷ t) (pairs-set i ss new (omega arith) (λ d. e d))

pub index-set : (k n i : ℕ) (segs : List Bytes) (new : Bytes) → i < length segs → HoldsAt (λ (b : Bytes). new.number ≡ b.number) segs i → index_from k n (set segs i new) ≡ index_from k n segs
index-set k n i [] new within e = refl
index-set k n zero (s ∷ ss) new within e = ap (λ v. cond (eqb v n) (k + 1) (index_from (k + 1) n ss)) (e s)
index-set k n (suc i) (s ∷ ss) new within e = ap (cond (eqb s.number n) (k + 1)) (index-set (k + 1) n i ss new (omega arith) (λ d. e d))

number-set : (i : ℕ) (segs : List Bytes) (new : Bytes) → i < length segs → HoldsAt (λ (b : Bytes). new.number ≡ b.number) segs i → (k : ℕ) (d : Bytes) → (get_or (set segs i new) k d).number ≡ (get_or segs k d).number
number-set i segs new within e k d =
    ⊎_elim
    (λ (q : k ≡ i). subst (λ (j : ℕ). (get_or (set segs i new) j d).number ≡ (get_or segs j d).number) (sym q) (ap (λ (b : Bytes). b.number) (get_or-set_same segs i new d within) ∙ e d))
    (λ (q : k ≡ i → ⊥). ap (λ (b : Bytes). b.number) (get_or-set_other segs i k new d q))
    (cases_eq k i)

-- numbered segments of which one changes, and keeps its number and is tiled
pub AreExtents-set : (segs : List Bytes) (index : List ℕ) (i : ℕ) (new : Bytes) → i < length segs → HoldsAt (λ (b : Bytes). new.number ≡ b.number) segs i → IsTiled new.bytes → AreExtents segs index → AreExtents (set segs i new) index
AreExtents-set segs index i new within number tiled a =
    let numbers : (k : ℕ) (d : Bytes) → (get_or (set segs i new) k d).number ≡ (get_or segs k d).number = number-set i segs new within number in
    let s : IsRegionSegment (get_or segs i new) = a.segments.legal i new within in
    let legal : IsRegionSegment new =
    record {
      first = subst (λ k. 1 ≤ k) (sym (number new)) s.first;
      last = subst (λ k. k ≤ 1023) (sym (number new)) s.last;
      size = tiled.size;
    } in
    record {
      segments = record {
        few = subst (λ k. k ≤ 1023) (sym (length-set segs i new)) a.segments.few;
        legal = All-set IsRegionSegment segs i new legal a.segments.legal;
        distinct = λ j k d lt in' e. a.segments.distinct j k d lt (subst (λ l. k < l) (length-set segs i new) in') (sym (numbers j d) ∙ (e ∙ numbers k d));
      };
      tiled = All-set (λ (b : Bytes). IsTiled b.bytes) segs i new tiled a.tiled;
      numbers = a.numbers;
      places = λ n lt. a.places n lt ∙ sym (index-set 0 n i segs new within number);
    }

-- the extents behind an address change
module _ {a i at : ℕ} {segs : List Bytes} {s new : Bytes} {change : Extent → List Extent → List Extent} (f : IsFound a segs i at) (is : s ≡ get_or segs i s) (ch : Changes (at + 16) change s new) where
  same : (d : Bytes) → s ≡ get_or segs i d
  same d = is ∙ get_or_default segs i s d f.place.within

  tiling-changed : tiling (set segs i new) ≡ change_extent a change (tiling segs)
  tiling-changed =
      tiling-set (place_of a).0 i segs new (change_at (place_of a).1 change) f.place.within f.place.first f.place.numbered (ch.number ∙ (ap (λ (b : Bytes). b.number) is ∙ f.place.numbered s))
      (λ d. ch.extents ∙ (ap (λ (b : Bytes). change_at (at + 16) change (extents b.bytes)) (same d) ∙ ap (λ k. change_at k change (extents (get_or segs i d).bytes)) f.off))

  pairs-changed : map pair_of (set segs i new) ≡ map pair_of segs
  pairs-changed = pairs-set i segs new f.place.within (λ d. (λ j. (ch.number j, ch.len j)) ∙ ap pair_of (same d))

  pub is-changed : IsExtentChanged segs (set segs i new) a change
  is-changed = record { tiling = tiling-changed; pairs = pairs-changed }

  pub extents-changed : (index : List ℕ) → ∥ AreExtents segs index ∥₁ → ∥ AreExtents (set segs i new) index ∥₁
  extents-changed index kept = ∥∥₁_map kept (AreExtents-set segs index i new f.place.within (λ d. ch.number ∙ ap (λ (b : Bytes). b.number) (same d)) ch.tiled)

  -- the extent that the address names before and then
  pub extent-before : extent_in (at + 16) (extents s.bytes) ≡ extent_of (tiling segs) a
  extent-before = ap (λ (b : Bytes). extent_in (at + 16) (extents b.bytes)) is ∙ f.extent s

  pub extent-changed : extent_of (tiling (set segs i new)) a ≡ extent_in (at + 16) (extents new.bytes)
  extent-changed =
      ap (extent_in (place_of a).1) (extents-set (place_of a).0 i segs new f.place.within f.place.first (ch.number ∙ (ap (λ (b : Bytes). b.number) is ∙ f.place.numbered s)))
      ∙ ap (λ k. extent_in k (extents new.bytes)) (sym f.off)

  -- its bytes stay up to its size, and up to another number
  pub kept-changed : take (extent_in (at + 16) (extents s.bytes)).size (extent_in (at + 16) (extents new.bytes)).body ≡ (extent_in (at + 16) (extents s.bytes)).body → take (extent_of (tiling segs) a).size (extent_of (tiling (set segs i new)) a).body ≡ (extent_of (tiling segs) a).body
  kept-changed kept = subst (λ (x : Extent). take x.size (extent_of (tiling (set segs i new)) a).body ≡ x.body) extent-before (ap (λ (x : Extent). take (extent_in (at + 16) (extents s.bytes)).size x.body) extent-changed ∙ kept)

  pub front-changed : (k : ℕ) → take k (extent_in (at + 16) (extents new.bytes)).body ≡ take k (extent_in (at + 16) (extents s.bytes)).body → take k (extent_of (tiling (set segs i new)) a).body ≡ take k (extent_of (tiling segs) a).body
  front-changed k kept = ap (λ (x : Extent). take k x.body) extent-changed ∙ (kept ∙ ap (λ (x : Extent). take k x.body) extent-before)

  pub length-changed : (n : ℕ) → length (extent_in (at + 16) (extents new.bytes)).body ≡ n → length (extent_of (tiling (set segs i new)) a).body ≡ n
  length-changed n len = ap (λ (x : Extent). length x.body) extent-changed ∙ len

-- the same where the change tells the bytes that the extent has then
module _ {a i at : ℕ} {segs : List Bytes} {s new : Bytes} (made : List ℕ → Extent → List Extent → List Extent) (f : IsFound a segs i at) (is : s ≡ get_or segs i s)
    (ch : Changes (at + 16) (made (extent_in (at + 16) (extents new.bytes)).body) s new) where
  pub body-changed : IsExtentChanged segs (set segs i new) a (made (extent_of (tiling (set segs i new)) a).body)
  body-changed = subst (λ (x : Extent). IsExtentChanged segs (set segs i new) a (made x.body)) (sym (extent-changed f is ch)) (is-changed f is ch)
