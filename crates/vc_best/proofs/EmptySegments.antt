-- Segments that become one free extent each, by ascending number.
use Rattle.vc_base.proofs.Common.{◌≡◌, ℕ, ◌+◌, ◌<◌, ◌≤◌, Bool, true, false, eqb, ◌≢◌, List, [], ◌∷◌, map, length, get_or, is_some, Some, None, All, Option, AllPairs, sym, refl, ap, ◌∙◌, ⊎_elim, arith, ne_eqb, eqb-true, le_prop, ∥∥₁_elim, ℕ_set, cases_Bool, eqb-false, All-cons, All-head, All-map, All-nil, All-tail, cleared_layout}
use Rattle.vc_best.proofs.Common.{AreExtents, AreSegments, Bytes, Extent, IsMerged, IsOneFree, change_in, extents, is_merged, layout_by, one_free, pair_of, size_of, tiling}
use Rattle.vc_seg.proofs.Lists.{AllPairs-map}
use Rattle.vc_model.proofs.Pairs.{AllPairs-head, AllPairs-tail}
use Rattle.vc_best.proofs.Lends.{segments-by}
use Rattle.vc_best.proofs.Segments.{layout-none}

-- those below a number are free
abbrev pub AreFree : ℕ → List (ℕ × List Extent) → Type 0
AreFree n t = All (λ s. s.0 < n → IsOneFree s.1) t

pub apart-tiling : (segs : List Bytes) → AreSegments segs → AllPairs (λ (a b : ℕ × List Extent). a.0 ≢ b.0) (tiling segs)
apart-tiling segs h = AllPairs-map (λ (a b : ℕ × List Extent). a.0 ≢ b.0) (λ (s : Bytes). (s.number, extents s.bytes)) segs h.distinct

-- one more where none has that number
pub free-none : (n : ℕ) (t : List (ℕ × List Extent)) → All (λ s. s.0 ≢ n) t → AreFree n t → AreFree (n + 1) t
free-none n t other h = λ k d lt less. h k d lt (let o = other k d lt in omega arith)

pub free-more : (n : ℕ) (t : List (ℕ × List Extent)) → AllPairs (λ (a b : ℕ × List Extent). a.0 ≢ b.0) t → AreFree n t → AreFree (n + 1) (change_in n one_free t)
free-more n [] apart h = All-nil (λ (s : ℕ × List Extent). s.0 < n + 1 → IsOneFree s.1)
free-more n (s ∷ ss) apart h =
    let R : ℕ × List Extent → ℕ × List Extent → Type 0 = λ a b. a.0 ≢ b.0 in
    let P : ℕ × List Extent → Type 0 = λ q. q.0 < n → IsOneFree q.1 in
    let Q : ℕ × List Extent → Type 0 = λ q. q.0 < n + 1 → IsOneFree q.1 in
    ⊎_elim
    (λ (t : eqb s.0 n ≡ true).
    let own = eqb-true s.0 n t in
    let others : All (λ (q : ℕ × List Extent). q.0 ≢ n) ss = λ k d lt e. AllPairs-head R s ss apart k d lt (own ∙ sym e) in
    rw t (All-cons Q (s.0, one_free s.1) ss (λ less. (refl, refl)) (free-none n ss others (All-tail P s ss h))))
    (λ (t : eqb s.0 n ≡ false).
    let other = eqb-false s.0 n t in
    rw t (All-cons Q s (change_in n one_free ss) (λ less. All-head P s ss h (omega arith)) (free-more n ss (AllPairs-tail R s ss apart) (All-tail P s ss h))))
    (cases_Bool (eqb s.0 n))

-- where no segment has a number
pub none-there : (n : ℕ) (segs : List Bytes) → size_of n (map pair_of segs) ≡ None → All (λ (s : ℕ × List Extent). s.0 ≢ n) (tiling segs)
none-there n [] e = All-nil (λ (s : ℕ × List Extent). s.0 ≢ n)
none-there n (s ∷ ss) e =
    ⊎_elim
    (λ (t : eqb s.number n ≡ true). absurd (let q : Some (length s.bytes) ≡ None = rw t at e in cc))
    (λ (t : eqb s.number n ≡ false). All-cons (λ (q : ℕ × List Extent). q.0 ≢ n) (s.number, extents s.bytes) (tiling ss) (eqb-false s.number n t) (none-there n ss (rw t at e)))
    (cases_Bool (eqb s.number n))

-- all of them
pub all-free : (n : ℕ) (segs : List Bytes) → AreSegments segs → 1024 ≤ n → AreFree n (tiling segs) → All (λ s. IsOneFree s.1) (tiling segs)
all-free n segs h le free =
    let low : All (λ (s : ℕ × List Extent). s.0 ≤ 1023) (tiling segs) = All-map (λ (s : ℕ × List Extent). s.0 ≤ 1023) (λ (s : Bytes). (s.number, extents s.bytes)) segs (λ k d lt. (h.legal k d lt).last) in
    λ k d lt. free k d lt (let o = low k d lt in omega arith)

one-merged : (es : List Extent) → IsOneFree es → is_merged false es ≡ true
one-merged [] h = absurd h
one-merged (e ∷ es) h = rw h.1 refl

pub free-merged : (t : List (ℕ × List Extent)) → All (λ s. IsOneFree s.1) t → IsMerged t
free-merged t h = λ k d lt. one-merged (get_or t k d).1 (h k d lt)

pub layout-cleared : (old new : List Bytes) → map pair_of new ≡ map pair_of old → All (λ s. IsOneFree s.1) (tiling new) → layout_by new ≡ cleared_layout (layout_by old)
layout-cleared old new p h =
    let ss = segments-by new ∙ (p ∙ sym (segments-by old)) in
    let bs = layout-none new h in
    λ i. record { segments = ss i; blocks = bs i }

-- where no segment has a number, none changes
pub change-none : (n : ℕ) (f : List Extent → List Extent) (t : List (ℕ × List Extent)) → All (λ s. s.0 ≢ n) t → change_in n f t ≡ t
change-none n f [] h = refl
change-none n f (s ∷ ss) h =
    let P : ℕ × List Extent → Type 0 = λ q. q.0 ≢ n in
    rw (ne_eqb s.0 n (All-head P s ss h)) (ap (λ (ts : List (ℕ × List Extent)). s ∷ ts) (change-none n f ss (All-tail P s ss h)))

pub free-first : (segs : List Bytes) → AreSegments segs → AreFree 1 (tiling segs)
free-first segs h =
    let low : All (λ (s : ℕ × List Extent). 1 ≤ s.0) (tiling segs) = All-map (λ (s : ℕ × List Extent). 1 ≤ s.0) (λ (s : Bytes). (s.number, extents s.bytes)) segs (λ k d lt. (h.legal k d lt).first) in
    λ k d lt less. absurd (let o = low k d lt in omega arith)

pub segments-of : (segs : List Bytes) (index : List ℕ) → ∥ AreExtents segs index ∥₁ → AreSegments segs
segments-of segs index k = ∥∥₁_elim k (hlevel (le_prop, ℕ_set)) (λ h. h.segments)

-- a test that shows no value
pub no-value : (o : Option ℕ) (r : Bool) → is_some o ≡ r → r ≡ false → o ≡ None
no-value None r e t = refl
no-value (Some x) true e t = absurd (cc)
no-value (Some x) false e t = absurd (cc)
