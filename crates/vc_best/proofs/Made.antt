-- How many segments have lesser numbers, and what a tree of gaps costs that is made anew.
use Rattle.vc_base.proofs.Common.{◌≡◌, ℕ, ◌+◌, ◌≤◌, true, false, cond, eqb, ltb, List, [], ◌∷◌, length, IsSome, refl, ap, ⊎_elim, arith, ltb-false, ltb-true, le-ltb, lt-ltb, eqb-true, eqb-false, cases_Bool, put_by}
use Rattle.vc_splay.proofs.RankLemmas.{size-leaf}
use Rattle.vc_splay.proofs.SearchLemmas.{no_tree}
use Rattle.vc_splay.specs.Rank.{rank, size}
use Rattle.vc_gaps.specs.GapStore.{gap_store, is_free}
use Rattle.vc_best.specs.Made.{MadeCost, count_below}
use Rattle.vc_best.proofs.Common.{Tiling, size_of}

pub count-more : (n : ℕ) (ss : List (ℕ × ℕ)) → count_below n ss ≤ count_below (n + 1) ss
count-more n [] = omega arith
count-more n (s ∷ ss) =
    let h = count-more n ss in
    ⊎_elim
    (λ (t : ltb s.0 n ≡ true). let lt = ltb-true s.0 n t in rw (t, lt-ltb s.0 (n + 1) (omega arith)) (omega arith))
    (λ (t : ltb s.0 n ≡ false).
    ⊎_elim
    (λ (v : ltb s.0 (n + 1) ≡ true). rw (t, v) (omega arith))
    (λ (v : ltb s.0 (n + 1) ≡ false). rw (t, v) h)
    (cases_Bool (ltb s.0 (n + 1))))
    (cases_Bool (ltb s.0 n))

-- where there is one of that number
pub count-one : (n : ℕ) (ss : List (ℕ × ℕ)) → IsSome (size_of n ss) → count_below n ss + 1 ≤ count_below (n + 1) ss
count-one n [] there = absurd (cc)
count-one n (s ∷ ss) there =
    ⊎_elim
    (λ (t : eqb s.0 n ≡ true).
    let e = eqb-true s.0 n t in
    let h = count-more n ss in
    rw (le-ltb s.0 n (omega arith), lt-ltb s.0 (n + 1) (omega arith)) (omega arith))
    (λ (t : eqb s.0 n ≡ false).
    let ne = eqb-false s.0 n t in
    let h = count-one n ss (rw t at there) in
    ⊎_elim
    (λ (v : ltb s.0 n ≡ true). let lt = ltb-true s.0 n v in rw (v, lt-ltb s.0 (n + 1) (omega arith)) (omega arith))
    (λ (v : ltb s.0 n ≡ false). let le = ltb-false s.0 n v in rw (v, le-ltb s.0 (n + 1) (omega (arith, le, ne))) h)
    (cases_Bool (ltb s.0 n)))
    (cases_Bool (eqb s.0 n))

pub count-all : (n : ℕ) (ss : List (ℕ × ℕ)) → count_below n ss ≤ length ss
count-all n [] = omega arith
count-all n (s ∷ ss) =
    let h = count-all n ss in
    ⊎_elim
    (λ (t : ltb s.0 n ≡ true). rw t (omega arith))
    (λ (t : ltb s.0 n ≡ false). rw t (omega arith))
    (cases_Bool (ltb s.0 n))

pub length-put : (key : ℕ → ℕ) (a : ℕ) (xs : List ℕ) → length (put_by key a xs) ≡ length xs + 1
length-put key a [] = refl
length-put key a (x ∷ xs) =
    let h = length-put key a xs in
    elim (ltb (key a) (key x)) as (λ b. length (cond b (a ∷ x ∷ xs) (x ∷ put_by key a xs)) ≡ length (x ∷ xs) + 1) [ true ↦ omega arith | false ↦ omega arith ]

-- of none
pub made-none : (t : Tiling) (now most : ℕ) → is_free t 0 ≡ false → MadeCost t 0 now now most
made-none t now most none = record {
  law = λ u k. record { cost = let r = ap rank (no_tree (gap_store t) 0 u none k refl) in omega arith };
  few = λ u k. let s = ap (λ z. size z) (no_tree (gap_store t) 0 u none k refl) in let l = size-leaf in omega arith;
  least = λ u k. let s = ap (λ z. size z) (no_tree (gap_store t) 0 u none k refl) in let l = size-leaf in omega arith;
}

pub made-most : (t : Tiling) (root start now most more : ℕ) → most ≤ more → MadeCost t root start now most → MadeCost t root start now more
made-most t root start now most more le m = record { law = m.law; few = λ u k. let f = m.few u k in omega arith; least = m.least }
