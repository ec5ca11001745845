-- How lists compare from a place on.
use Rattle.vc_base.proofs.Common.{◌≡◌, ℕ, suc, min, true, List, [], ◌∷◌, map, length, drop, nat_lt, nat_cmp, sym, refl, ◌∙◌, arith, lt-ltb, nat_tests}
use Rattle.std.specs.Cmp.Lexicographic.{slice_cmp}

nat_cmp-suc : (a b : ℕ) → nat_cmp (suc a) (suc b) ≡ nat_cmp a b
nat_cmp-suc a b = grind (arith, nat_tests)

-- behind the shorter of two lists their lengths decide
pub ends_compare : (f : ℕ → ℕ) (a b : List ℕ) → slice_cmp nat_cmp (map f (drop (min (length a) (length b)) a)) (map f (drop (min (length a) (length b)) b)) ≡ nat_cmp (length a) (length b)
ends_compare f [] [] = refl
ends_compare f [] (y ∷ ys) =
    let none : min 0 (suc (length ys)) ≡ 0 = omega arith in
    let below : nat_lt 0 (suc (length ys)) ≡ true = lt-ltb 0 (suc (length ys)) (omega arith) in
    rw (none, below) refl
ends_compare f (x ∷ xs) [] =
    let none : min (suc (length xs)) 0 ≡ 0 = omega arith in
    rw none (grind (arith, nat_tests))
ends_compare f (x ∷ xs) (y ∷ ys) =
    let less : min (suc (length xs)) (suc (length ys)) ≡ suc (min (length xs) (length ys)) = omega arith in
    rw less (ends_compare f xs ys ∙ sym (nat_cmp-suc (length xs) (length ys)))
