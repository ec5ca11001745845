-- How many cells of each segment were carved, where one more is.
use Rattle.vc_base.proofs.Common.{◌≡◌, ℕ, zero, suc, ◌+◌, ◌<◌, true, false, ltb, ◌≢◌, List, [], ◌∷◌, length, get_or, take, set, All, AllPairs, sym, refl, ap, ◌∙◌, ⊎_elim, arith, ltb-false, ltb-true, le-ltb, lt-ltb, eq-eqb, ne_eqb, cases_Bool, All-head, All-tail, carve, carved_in}
use Rattle.vc_model.proofs.Pairs.{AllPairs-head, AllPairs-tail}
use Rattle.vc_pool.specs.Cells.Blocks.{carved_by}
use Rattle.vc_pool.specs.Cells.Cells.{Cells}
use Rattle.vc_pool.specs.Cells.Kept.{IsFront}
use Rattle.vc_pool.specs.Cells.Place.{IsOther}
use Rattle.vc_pool.specs.Cells.Open.{IsOpen}

-- of a number that no segment has, none is counted
pub none-carved : (n : ℕ) (segs : List Cells) → All (IsOther n) segs → carved_in n (carved_by segs) ≡ 0
none-carved n [] h = refl
none-carved n (s ∷ ss) h =
    let rest = none-carved n ss (All-tail (IsOther n) s ss h) in
    ⊎_elim
    (λ (t : ltb 0 s.carved ≡ true). rw t (rw (ne_eqb s.number n (All-head (IsOther n) s ss h)) rest))
    (λ (t : ltb 0 s.carved ≡ false). rw t rest)
    (cases_Bool (ltb 0 s.carved))

-- of each segment those that it has
pub carved-there : (segs : List Cells) → AllPairs (λ (a b : Cells). a.number ≢ b.number) segs → (i : ℕ) (d : Cells) → i < length segs → carved_in (get_or segs i d).number (carved_by segs) ≡ (get_or segs i d).carved
carved-there [] apart i d lt = absurd (omega (arith, lt))
carved-there (s ∷ ss) apart zero d lt =
    let heads = AllPairs-head (λ (a b : Cells). a.number ≢ b.number) s ss apart in
    ⊎_elim
    (λ (t : ltb 0 s.carved ≡ true). rw t (rw (eq-eqb s.number s.number refl) refl))
    (λ (t : ltb 0 s.carved ≡ false).
    let none : carved_in s.number (carved_by ss) ≡ 0 = none-carved s.number ss (λ k e lt q. heads k e lt (sym q)) in
    rw t (omega (arith, ltb-false 0 s.carved t, none)))
    (cases_Bool (ltb 0 s.carved))
carved-there (s ∷ ss) apart (suc i) d lt =
    let R : Cells → Cells → Type 0 = λ a b. a.number ≢ b.number in
    let other = AllPairs-head R s ss apart i d (omega (arith, lt)) in
    let rest = carved-there ss (AllPairs-tail R s ss apart) i d (omega (arith, lt)) in
    ⊎_elim
    (λ (t : ltb 0 s.carved ≡ true). rw t (rw (ne_eqb s.number (get_or ss i d).number other) rest))
    (λ (t : ltb 0 s.carved ≡ false). rw t rest)
    (cases_Bool (ltb 0 s.carved))

-- where none is carved, none is counted
pub none-counted : (segs : List Cells) → All (λ (s : Cells). s.carved ≡ 0) segs → carved_by segs ≡ []
none-counted [] h = refl
none-counted (s ∷ ss) h =
    let P : Cells → Type 0 = λ t. t.carved ≡ 0 in
    rw (le-ltb 0 s.carved (omega (arith, All-head P s ss h))) (none-counted ss (All-tail P s ss h))

-- one more of the first segment that isn't full
pub carved-more : (n i : ℕ) (segs : List Cells) (new : Cells) → i < length segs → All (IsOther n) (take i segs) → (get_or segs i new).number ≡ n → IsOpen (get_or segs i new) → new.number ≡ n → new.carved ≡ (get_or segs i new).carved + 1 → IsFront segs →
    carved_by (set segs i new) ≡ carve n (carved_by segs)
carved-more n i [] new lt other at room number more front = absurd (omega (arith, lt))
carved-more n zero (s ∷ ss) new lt other at room number more front =
    let pair : ℕ → ℕ → ℕ × ℕ = λ x y. (x, y) in
    let one : pair new.number new.carved ≡ pair n (s.carved + 1) = ap (λ x. pair x new.carved) number ∙ ap (pair n) more in
    rw (lt-ltb 0 new.carved (omega (arith, more)))
    (⊎_elim
    (λ (t : ltb 0 s.carved ≡ true). rw t (rw (eq-eqb s.number n at) (ap (λ p. p ∷ carved_by ss) one)))
    (λ (t : ltb 0 s.carved ≡ false).
    let le = ltb-false 0 s.carved t in
    let first : pair n (s.carved + 1) ≡ pair n 1 = ap (pair n) (omega (arith, le)) in
    let none : carved_by ss ≡ [] = none-counted ss (λ k d l. none-behind k d l) in
    rw t (rw none (ap (λ p. p ∷ []) (one ∙ first))))
    (cases_Bool (ltb 0 s.carved)))
  where
    none-behind : (k : ℕ) (d : Cells) → k < length ss → (get_or ss k d).carved ≡ 0
    none-behind k d l =
        ⊎_elim
        (λ (t : ltb 0 (get_or ss k d).carved ≡ true). let full = front.0 k d l (ltb-true 0 (get_or ss k d).carved t) in absurd (omega (arith, full, room)))
        (λ (t : ltb 0 (get_or ss k d).carved ≡ false). let le = ltb-false 0 (get_or ss k d).carved t in omega (arith, le))
        (cases_Bool (ltb 0 (get_or ss k d).carved))
carved-more n (suc i) (s ∷ ss) new lt other at room number more front =
    let rest = carved-more n i ss new (omega (arith, lt)) (All-tail (IsOther n) s (take i ss) other) at room number more front.1 in
    let pair : ℕ × ℕ = (s.number, s.carved) in
    ⊎_elim
    (λ (t : ltb 0 s.carved ≡ true). rw t (rw (ne_eqb s.number n (All-head (IsOther n) s (take i ss) other)) (ap (λ ps. pair ∷ ps) rest)))
    (λ (t : ltb 0 s.carved ≡ false). rw t rest)
    (cases_Bool (ltb 0 s.carved))
