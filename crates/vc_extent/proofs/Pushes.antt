-- One more segment.
use Rattle.vc_base.proofs.Common.{◌≡◌, ℕ, zero, suc, ◌+◌, ◌<◌, ◌≤◌, true, false, cond, eqb, ◌≢◌, List, [], ◌∷◌, ◌++◌, map, length, get_or, set, All, sym, refl, ap, ◌∙◌, subst, ⊎_elim, arith, length-set, get_or-set_other, get_or-set_same, eq-eqb, ne_eqb, eqb-true, cases_Bool, cases_eq, eqb-false, or_cases, All-push, all_pairs_push, length-map, length_push, map-append, length-le_from_distinct_below, IsDistinct, list_any}
use Rattle.std.proofs.lemmas.Map.Keys.{IsDistinct-from_apart}
use Rattle.vc_seg.specs.Segment.{AreSegments, Bytes, IsRegionSegment}
use Rattle.vc_extent.specs.Extent.{extents}
use Rattle.vc_extent.specs.Tiles.{IsTiled}
use Rattle.vc_extent.specs.Tiling.{AreExtents, IsThere, index_from, tiling}

apart-from : (s : Bytes) (ss : List Bytes) (k n : ℕ) (d : Bytes) → s.number ≢ n → ((j : ℕ) (e : Bytes) → j < length ss → (get_or ss j e).number ≢ n) → k < length (s ∷ ss) → (get_or (s ∷ ss) k d).number ≢ n
apart-from s ss zero n d first rest lt = first
apart-from s ss (suc k) n d first rest lt = rest k d (omega arith)

-- a number that no segment has
pub apart-there : (n : ℕ) (segs : List Bytes) → (IsThere n segs → ⊥) → (k : ℕ) (d : Bytes) → k < length segs → (get_or segs k d).number ≢ n
apart-there n [] none k d lt = absurd (omega arith)
apart-there n (s ∷ ss) none k d lt =
    ⊎_elim
    (λ (t : eqb s.number n ≡ true). absurd (none (rw t refl)))
    (λ (t : eqb s.number n ≡ false).
    let rest : IsThere n ss → ⊥ = λ there. none (rw t there) in
    apart-from s ss k n d (eqb-false s.number n t) (apart-there n ss rest) lt)
    (cases_Bool (eqb s.number n))

pub index-none : (k n : ℕ) (segs : List Bytes) → (IsThere n segs → ⊥) → index_from k n segs ≡ 0
index-none k n [] none = refl
index-none k n (s ∷ ss) none =
    ⊎_elim
    (λ (t : eqb s.number n ≡ true). absurd (none (rw t refl)))
    (λ (t : eqb s.number n ≡ false). rw t (index-none (k + 1) n ss (λ there. none (rw t there))))
    (cases_Bool (eqb s.number n))

index-push-same : (k n : ℕ) (segs : List Bytes) (s : Bytes) → (IsThere n segs → ⊥) → s.number ≡ n → index_from k n (segs ++ s ∷ []) ≡ k + length segs + 1
index-push-same k n [] s none e = rw (eq-eqb s.number n e) (omega arith)
index-push-same k n (t ∷ ts) s none e =
    ⊎_elim
    (λ (q : eqb t.number n ≡ true). absurd (none (rw q refl)))
    (λ (q : eqb t.number n ≡ false). let r = index-push-same (k + 1) n ts s (λ there. none (rw q there)) e in rw q (omega arith))
    (cases_Bool (eqb t.number n))

index-push-other : (k n : ℕ) (segs : List Bytes) (s : Bytes) → s.number ≢ n → index_from k n (segs ++ s ∷ []) ≡ index_from k n segs
index-push-other k n [] s ne = rw (ne_eqb s.number n ne) refl
index-push-other k n (t ∷ ts) s ne = ap (cond (eqb t.number n) (k + 1)) (index-push-other (k + 1) n ts s ne)

-- how many segments there can be beside an unused number
abbrev with-two : ℕ → List Bytes → List ℕ
with-two n segs = 0 ∷ n ∷ map (λ (b : Bytes). b.number) segs

get-number : (segs : List Bytes) (k : ℕ) (x : ℕ) (d : Bytes) → k < length segs → get_or (map (λ (b : Bytes). b.number) segs) k x ≡ (get_or segs k d).number
get-number [] k x d lt = absurd (omega arith)
get-number (s ∷ ss) zero x d lt = refl
get-number (s ∷ ss) (suc k) x d lt = get-number ss k x d (omega arith)

apart-two : (n : ℕ) (segs : List Bytes) → AreSegments segs → 1 ≤ n → (IsThere n segs → ⊥) → (i j : ℕ) (x : ℕ) → i < j → j < length (with-two n segs) → eqb (get_or (with-two n segs) i x) (get_or (with-two n segs) j x) ≡ false
apart-two n segs a first none i zero x lt in' = absurd (omega arith)
apart-two n segs a first none (suc i) (suc zero) x lt in' = absurd (omega arith)
apart-two n segs a first none zero (suc zero) x lt in' = ne_eqb 0 n (λ e. omega arith)
apart-two n segs a first none zero (suc (suc j)) x lt in' =
    let d : Bytes = record { number = 0; bytes = [] } in
    let len = length-map segs (λ (b : Bytes). b.number) in
    let legal = (a.legal j d (omega arith)).first in
    let e = get-number segs j x d (omega arith) in
    ne_eqb 0 (get_or (map (λ (b : Bytes). b.number) segs) j x) (λ q. omega arith)
apart-two n segs a first none (suc zero) (suc (suc j)) x lt in' =
    let d : Bytes = record { number = 0; bytes = [] } in
    let len = length-map segs (λ (b : Bytes). b.number) in
    let e = get-number segs j x d (omega arith) in
    ne_eqb n (get_or (map (λ (b : Bytes). b.number) segs) j x) (λ q. apart-there n segs none j d (omega arith) (sym (q ∙ e)))
apart-two n segs a first none (suc (suc i)) (suc (suc j)) x lt in' =
    let d : Bytes = record { number = 0; bytes = [] } in
    let len = length-map segs (λ (b : Bytes). b.number) in
    let e = get-number segs j x d (omega arith) in
    let f = get-number segs i x d (omega arith) in
    ne_eqb (get_or (map (λ (b : Bytes). b.number) segs) i x) (get_or (map (λ (b : Bytes). b.number) segs) j x) (λ q. a.distinct i j d (omega arith) (omega arith) (sym f ∙ (q ∙ e)))

among-below : (q : ℕ) (segs : List Bytes) → All IsRegionSegment segs → list_any (eqb q) (map (λ (b : Bytes). b.number) segs) ≡ true → q < 1024
among-below q [] legal h = absurd (cc)
among-below q (s ∷ ss) legal h =
    ⊎_elim
    (λ (t : eqb q s.number ≡ true). let e = eqb-true q s.number t in let last = (legal 0 s (omega arith)).last in omega arith)
    (λ (t : list_any (eqb q) (map (λ (b : Bytes). b.number) ss) ≡ true). among-below q ss (λ k d lt. legal (suc k) d (omega arith)) t)
    (or_cases (eqb q s.number) (list_any (eqb q) (map (λ (b : Bytes). b.number) ss)) h)

among-two : (n : ℕ) (segs : List Bytes) → All IsRegionSegment segs → n ≤ 1023 → (q : ℕ) → list_any (eqb q) (with-two n segs) ≡ true → q < 1024
among-two n segs legal last q h =
    ⊎_elim
    (λ (t : eqb q 0 ≡ true). let e = eqb-true q 0 t in omega arith)
    (λ (t : list_any (eqb q) (n ∷ map (λ (b : Bytes). b.number) segs) ≡ true).
    ⊎_elim
    (λ (u : eqb q n ≡ true). let e = eqb-true q n u in omega arith)
    (λ (u : list_any (eqb q) (map (λ (b : Bytes). b.number) segs) ≡ true). among-below q segs legal u)
    (or_cases (eqb q n) (list_any (eqb q) (map (λ (b : Bytes). b.number) segs)) t))
    (or_cases (eqb q 0) (list_any (eqb q) (n ∷ map (λ (b : Bytes). b.number) segs)) h)

pub few-unused : (n : ℕ) (segs : List Bytes) → AreSegments segs → 1 ≤ n → n ≤ 1023 → (IsThere n segs → ⊥) → length segs ≤ 1022
few-unused n segs a first last none =
    let distinct : IsDistinct eqb (with-two n segs) = IsDistinct-from_apart eqb (with-two n segs) (apart-two n segs a first none) in
    let most = length-le_from_distinct_below (with-two n segs) 1024 distinct (among-two n segs a.legal last) in
    let len = length-map segs (λ (b : Bytes). b.number) in
    omega arith

-- one more segment under an unused number
pub AreExtents-push : (segs : List Bytes) (index : List ℕ) (s : Bytes) → AreExtents segs index → 1 ≤ s.number → s.number ≤ 1023 → (IsThere s.number segs → ⊥) → IsTiled s.bytes → AreExtents (segs ++ s ∷ []) (set index s.number (length segs + 1))
AreExtents-push segs index s a first last none tiled =
    let more = length_push segs s in
    let few = few-unused s.number segs a.segments first last none in
    let numbers = a.numbers in
    record {
      segments = record {
        few = omega arith;
        legal = All-push IsRegionSegment segs s a.segments.legal (record { first = first; last = last; size = tiled.size });
        distinct = all_pairs_push (λ (x y : Bytes). x.number ≢ y.number) segs s a.segments.distinct (apart-there s.number segs none);
      };
      tiled = All-push (λ (b : Bytes). IsTiled b.bytes) segs s a.tiled tiled;
      numbers = length-set index s.number (length segs + 1) ∙ numbers;
      places = λ n lt.
          ⊎_elim
          (λ (e : n ≡ s.number).
          subst (λ (k : ℕ). get_or (set index s.number (length segs + 1)) k 0 ≡ index_from 0 k (segs ++ s ∷ [])) (sym e)
          (let pushed = index-push-same 0 s.number segs s none refl in
          let put : get_or (set index s.number (length segs + 1)) s.number 0 ≡ length segs + 1 = get_or-set_same index s.number (length segs + 1) 0 (omega arith) in
          omega arith))
          (λ (e : n ≡ s.number → ⊥).
          get_or-set_other index s.number n (length segs + 1) 0 e ∙ (a.places n lt ∙ sym (index-push-other 0 n segs s (λ q. e (sym q)))))
          (cases_eq n s.number);
    }

pub tiling-push : (segs : List Bytes) (s : Bytes) → tiling (segs ++ s ∷ []) ≡ tiling segs ++ (s.number, extents s.bytes) ∷ []
tiling-push segs s = map-append (λ (b : Bytes). (b.number, extents b.bytes)) segs (s ∷ [])
