-- One segment less.
use Rattle.vc_base.proofs.Common.{◌≡◌, ℕ, zero, suc, ◌+◌, ◌<◌, ◌≤◌, true, false, not, eqb, ◌≢◌, List, [], ◌∷◌, map, length, get_or, take, drop, set, All, filter, HoldsAt, remove, AllPairs, sym, refl, ap, ◌∙◌, subst, ⊎_elim, arith, length-append, length-drop, length-take-le, get_or-set_other, get_or-set_same, le-ltb, lt-ltb, eq-eqb, ne_eqb, cases_Bool, cases_eq, All-append, All-head, All-tail}
use Rattle.std.proofs.lemmas.List.Elements.{All-drop, All-take}
use Rattle.std.proofs.lemmas.List.Quantifiers.{all_pairs_remove}
use Rattle.vc_seg.specs.Back.{has_other_number}
use Rattle.vc_seg.specs.Segment.{Bytes, IsRegionSegment, pair_of}
use Rattle.vc_extent.specs.Extent.{Extent, extents}
use Rattle.vc_extent.specs.Tiles.{IsTiled}
use Rattle.vc_extent.specs.Tiling.{AreExtents, closed_up, index_from, tiling}

abbrev Apart : Bytes → Bytes → Type 0
Apart a b = a.number ≢ b.number

tail-apart : (s : Bytes) (ss : List Bytes) → AllPairs Apart (s ∷ ss) → AllPairs Apart ss
tail-apart s ss h = λ i j d lt in'. h (suc i) (suc j) d (omega arith) (omega arith)

rest-apart : (n : ℕ) (s : Bytes) (ss : List Bytes) → AllPairs Apart (s ∷ ss) → s.number ≡ n → All (λ (b : Bytes). b.number ≢ n) ss
rest-apart n s ss h e = λ k d lt q. h 0 (suc k) d (omega arith) (omega arith) (e ∙ sym q)

keeps-all : (n : ℕ) (ss : List Bytes) → All (λ (b : Bytes). b.number ≢ n) ss → filter (has_other_number n) ss ≡ ss
keeps-all n [] h = refl
keeps-all n (s ∷ ss) h = rw (ne_eqb s.number n (All-head (λ (b : Bytes). b.number ≢ n) s ss h)) (ap (λ (xs : List Bytes). s ∷ xs) (keeps-all n ss (All-tail (λ (b : Bytes). b.number ≢ n) s ss h)))

pub removed-is : (n i : ℕ) (segs : List Bytes) → AllPairs Apart segs → i < length segs → HoldsAt (λ (b : Bytes). b.number ≡ n) segs i → remove segs i ≡ filter (has_other_number n) segs
removed-is n i [] h within at = absurd (omega arith)
removed-is n zero (s ∷ ss) h within at = rw (eq-eqb s.number n (at s)) (sym (keeps-all n ss (rest-apart n s ss h (at s))))
removed-is n (suc i) (s ∷ ss) h within at =
    rw (ne_eqb s.number n (λ q. h 0 (suc i) s (omega arith) within (q ∙ sym (at s)))) (ap (λ (xs : List Bytes). s ∷ xs) (removed-is n i ss (tail-apart s ss h) (omega arith) (λ d. at d)))

pub tiling-filter : (n : ℕ) (segs : List Bytes) → tiling (filter (has_other_number n) segs) ≡ filter (λ (s : ℕ × List Extent). not (eqb s.0 n)) (tiling segs)
tiling-filter n [] = refl
tiling-filter n (s ∷ ss) =
    ⊎_elim
    (λ (t : eqb s.number n ≡ true). rw t (tiling-filter n ss))
    (λ (t : eqb s.number n ≡ false). rw t (ap (λ (xs : List (ℕ × List Extent)). (s.number, extents s.bytes) ∷ xs) (tiling-filter n ss)))
    (cases_Bool (eqb s.number n))

pub pairs-filter : (n : ℕ) (segs : List Bytes) → map pair_of (filter (has_other_number n) segs) ≡ filter (λ (s : ℕ × ℕ). not (eqb s.0 n)) (map pair_of segs)
pairs-filter n [] = refl
pairs-filter n (s ∷ ss) =
    ⊎_elim
    (λ (t : eqb s.number n ≡ true). rw t (pairs-filter n ss))
    (λ (t : eqb s.number n ≡ false). rw t (ap (λ (xs : List (ℕ × ℕ)). pair_of s ∷ xs) (pairs-filter n ss)))
    (cases_Bool (eqb s.number n))

-- places among the others
pub record IsShift (k x y : ℕ) : Type 0 where
  pub none : x ≡ 0 → y ≡ 0
  pub some : 0 < x → (y ≡ x + 1) × (k < x)

index-shift : (k m : ℕ) (segs : List Bytes) → IsShift k (index_from k m segs) (index_from (k + 1) m segs)
index-shift k m [] = record { none = λ _. refl; some = λ lt. absurd (omega arith) }
index-shift k m (s ∷ ss) =
    ⊎_elim
    (λ (t : eqb s.number m ≡ true). rw t (record { none = λ q. absurd (omega arith); some = λ _. (omega arith, omega arith) }))
    (λ (t : eqb s.number m ≡ false).
    let r = index-shift (k + 1) m ss in
    rw t (record { none = r.none; some = λ lt. let p = r.some lt in (p.0, omega (arith, p.1)) }))
    (cases_Bool (eqb s.number m))

index-closed : (k m n i : ℕ) (segs : List Bytes) → m ≢ n → i < length segs → HoldsAt (λ (b : Bytes). b.number ≡ n) segs i → closed_up (k + i + 1) (index_from k m segs) ≡ index_from k m (remove segs i)
index-closed k m n i [] ne within at = absurd (omega arith)
index-closed k m n zero (s ∷ ss) ne within at =
    let other : eqb s.number m ≡ false = ne_eqb s.number m (λ q. ne (sym q ∙ at s)) in
    let r = index-shift k m ss in
    rw other
    (⊎_elim
    (λ (z : index_from k m ss ≡ 0).
    let none = r.none z in
    rw (le-ltb (k + 0 + 1) (index_from (k + 1) m ss) (omega arith)) (none ∙ sym z))
    (λ (z : index_from k m ss ≡ 0 → ⊥).
    let some = r.some (omega arith) in
    let is = some.0 in
    let above = some.1 in
    rw (lt-ltb (k + 0 + 1) (index_from (k + 1) m ss) (omega arith)) (omega arith))
    (cases_eq (index_from k m ss) 0))
index-closed k m n (suc i) (s ∷ ss) ne within at =
    ⊎_elim
    (λ (t : eqb s.number m ≡ true). rw (t, le-ltb (k + suc i + 1) (k + 1) (omega arith)) refl)
    (λ (t : eqb s.number m ≡ false).
    let r = index-closed (k + 1) m n i ss ne (omega arith) (λ d. at d) in
    let place : k + suc i + 1 ≡ k + 1 + i + 1 = omega arith in
    rw (t, place) r)
    (cases_Bool (eqb s.number m))

index-all : (k n : ℕ) (ss : List Bytes) → All (λ (b : Bytes). b.number ≢ n) ss → index_from k n ss ≡ 0
index-all k n [] h = refl
index-all k n (s ∷ ss) h = rw (ne_eqb s.number n (All-head (λ (b : Bytes). b.number ≢ n) s ss h)) (index-all (k + 1) n ss (All-tail (λ (b : Bytes). b.number ≢ n) s ss h))

index-gone : (k n i : ℕ) (segs : List Bytes) → AllPairs Apart segs → i < length segs → HoldsAt (λ (b : Bytes). b.number ≡ n) segs i → index_from k n (remove segs i) ≡ 0
index-gone k n i [] h within at = absurd (omega arith)
index-gone k n zero (s ∷ ss) h within at = index-all k n ss (rest-apart n s ss h (at s))
index-gone k n (suc i) (s ∷ ss) h within at =
    rw (ne_eqb s.number n (λ q. h 0 (suc i) s (omega arith) within (q ∙ sym (at s)))) (index-gone (k + 1) n i ss (tail-apart s ss h) (omega arith) (λ d. at d))

closed-none : (p : ℕ) → closed_up p 0 ≡ 0
closed-none p = rw (le-ltb p 0 (omega arith)) refl

-- the others, and the index with its numbers behind the place closed up
pub AreExtents-remove : (segs : List Bytes) (index new : List ℕ) (n i : ℕ) → AreExtents segs index → n ≤ 1023 → i < length segs → HoldsAt (λ (b : Bytes). b.number ≡ n) segs i → length new ≡ length index →
    ((k : ℕ) → get_or new k 0 ≡ closed_up (i + 1) (get_or (set index n 0) k 0)) → AreExtents (remove segs i) new
AreExtents-remove segs index new n i a last within at len e =
    let parts = length-append (take i segs) (drop (suc i) segs) in
    let front = length-take-le i segs (omega arith) in
    let back = length-drop (suc i) segs in
    let few = a.segments.few in
    let numbers = a.numbers in
    record {
      segments = record {
        few = omega arith;
        legal = All-append IsRegionSegment (take i segs) (drop (suc i) segs) (All-take IsRegionSegment i segs a.segments.legal) (All-drop IsRegionSegment (suc i) segs a.segments.legal);
        distinct = all_pairs_remove Apart segs i within a.segments.distinct;
      };
      tiled = All-append (λ (b : Bytes). IsTiled b.bytes) (take i segs) (drop (suc i) segs) (All-take (λ (b : Bytes). IsTiled b.bytes) i segs a.tiled) (All-drop (λ (b : Bytes). IsTiled b.bytes) (suc i) segs a.tiled);
      numbers = len ∙ numbers;
      places = λ m lt.
          ⊎_elim
          (λ (q : m ≡ n).
          subst (λ (k : ℕ). get_or new k 0 ≡ index_from 0 k (remove segs i)) (sym q)
          (e n ∙ (ap (closed_up (i + 1)) (get_or-set_same index n 0 0 (omega arith)) ∙ (closed-none (i + 1) ∙ sym (index-gone 0 n i segs a.segments.distinct within at)))))
          (λ (q : m ≡ n → ⊥).
          let place : i + 1 ≡ 0 + i + 1 = omega arith in
          e m ∙ (ap (closed_up (i + 1)) (get_or-set_other index n m 0 0 q ∙ a.places m lt) ∙ (ap (λ k. closed_up k (index_from 0 m segs)) place ∙ index-closed 0 m n i segs q within at)))
          (cases_eq m n);
    }
