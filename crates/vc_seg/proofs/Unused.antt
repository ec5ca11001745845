-- The least number that isn't used.
use Rattle.vc_base.proofs.Common.{◌≡◌, ℕ, zero, suc, ◌+◌, ◌-◌, ◌<◌, ◌≤◌, Bool, true, false, cond, ◌&&◌, eqb, ltb, leb, ◌≢◌, List, [], ◌∷◌, map, length, get_or, All, refl, ap, ⊎_elim, arith, eq-eqb, ne_eqb, eqb-true, nat_tests, cases_Bool, or_cases, or_left, or_right, All-head, All-tail, list_any, lowest_unused, numbers, unused_from}

abbrev pub is_among : ℕ → List ℕ → Bool
is_among n used = list_any (λ m. eqb m n) used

pub unused_from-used : (n more : ℕ) (used : List ℕ) → 0 < more → is_among n used ≡ true → unused_from n more used ≡ unused_from (n + 1) (more - 1) used
unused_from-used n zero used h e = absurd (omega arith)
unused_from-used n (suc more) used h e = rw e (ap (λ k. unused_from (n + 1) k used) (omega arith))

-- whether a number is among those of segments
module _ {A : Type 0} (pair : A → ℕ × ℕ) (n : ℕ) where
  pub among-found : (ss : List A) (i : ℕ) → i < length ss → ((d : A) → (pair (get_or ss i d)).0 ≡ n) → is_among n (numbers (map pair ss)) ≡ true
  among-found [] i lt at = absurd (omega arith)
  among-found (s ∷ ss) zero lt at = or_left (eqb (pair s).0 n) (is_among n (numbers (map pair ss))) (eq-eqb (pair s).0 n (at s))
  among-found (s ∷ ss) (suc i) lt at = or_right (eqb (pair s).0 n) (is_among n (numbers (map pair ss))) (among-found ss i (omega arith) at)

  pub among-none : (ss : List A) → All (λ s. (pair s).0 ≢ n) ss → is_among n (numbers (map pair ss)) ≡ false
  among-none [] h = refl
  among-none (s ∷ ss) h =
      let Other : A → Type 0 = λ t. (pair t).0 ≢ n in
      rw (ne_eqb (pair s).0 n (All-head Other s ss h)) (among-none ss (All-tail Other s ss h))

-- how many of the list are from low up to high
count_within : ℕ → ℕ → List ℕ → ℕ
count_within low high [] = 0
count_within low high (x ∷ xs) = cond (leb low x && ltb x high) 1 0 + count_within low high xs

count_within-length : (low high : ℕ) (xs : List ℕ) → count_within low high xs ≤ length xs
unfolding count_within
count_within-length low high [] = omega arith
count_within-length low high (x ∷ xs) = let h = count_within-length low high xs in grind (arith, nat_tests)

count_within-wider : (low high : ℕ) (xs : List ℕ) → count_within low high xs ≤ count_within low (high + 1) xs
unfolding count_within
count_within-wider low high [] = omega arith
count_within-wider low high (x ∷ xs) = let h = count_within-wider low high xs in grind (arith, nat_tests)

count_within-among : (low high : ℕ) (xs : List ℕ) → low ≤ high → is_among high xs ≡ true → count_within low high xs + 1 ≤ count_within low (high + 1) xs
unfolding count_within
count_within-among low high [] le e = absurd (cc)
count_within-among low high (x ∷ xs) le e =
    let w = count_within-wider low high xs in
    ⊎_elim
    (λ h. let at : x ≡ high = eqb-true x high h in grind (arith, nat_tests))
    (λ h. let more = count_within-among low high xs le h in grind (arith, nat_tests))
    (or_cases (eqb x high) (is_among high xs) e)

-- where all from low up to n are used, and as many may follow as are used in all, the number that is found isn't used
unused_from-unused : (low n more : ℕ) (used : List ℕ) → low ≤ n → n ≤ low + count_within low n used → low + length used ≡ n + more → is_among (unused_from n more used) used ≡ false
unused_from-unused low n zero used le all same =
    ⊎_elim
    (λ h. absurd (omega (arith, count_within-among low n used le h, count_within-length low (n + 1) used)))
    (λ h. h)
    (cases_Bool (is_among n used))
unused_from-unused low n (suc more) used le all same =
    ⊎_elim
    (λ h. rw h (unused_from-unused low (n + 1) more used (omega arith) (omega (arith, count_within-among low n used le h)) (omega arith)))
    (λ h. rw h h)
    (cases_Bool (is_among n used))

pub lowest_unused-unused : (used : List ℕ) → is_among (lowest_unused used) used ≡ false
lowest_unused-unused used = unused_from-unused 1 1 (length used) used (omega arith) (omega arith) (omega arith)

pub ruleset unused_from_steps = unused_from-used
