-- How many binary digits a number has.
use Rattle.vc_base.proofs.Common.{◌≡◌, ℕ, zero, suc, ◌+◌, ◌*◌, ◌/◌, ◌≤◌, refl, ap, ◌∙◌, inl, inr, arith, cases_lt}
use Rattle.std.proofs.lemmas.Int.Digits.{length-digits_of_step}
use Rattle.vc_splay.specs.Rank.{binary_digits, level}

digits-none : binary_digits 0 ≡ 0
unfolding binary_digits
digits-none = refl

digits-step : (n : ℕ) → 1 ≤ n → binary_digits n ≡ binary_digits (n / 2) + 1
unfolding binary_digits
digits-step n some = length-digits_of_step 2 n (omega arith) (omega arith)

pub digits-some : (n : ℕ) → 1 ≤ n → 1 ≤ binary_digits n
digits-some n some = let e = digits-step n some in omega arith

rise_by : (turns n m : ℕ) → n ≤ turns → n ≤ m → binary_digits n ≤ binary_digits m
rise_by zero n m few h =
    let none : n ≡ 0 = omega arith in
    let e = ap binary_digits none ∙ digits-none in
    omega arith
rise_by (suc turns) n m few h = elim (cases_lt 0 n) as (λ _. binary_digits n ≤ binary_digits m) [
  | inl some ↦
      let a = digits-step n (omega arith) in
      let b = digits-step m (omega arith) in
      let k = rise_by turns (n / 2) (m / 2) (omega arith) (omega arith) in
      omega arith
  | inr none ↦
      let zero : n ≡ 0 = omega arith in
      let e = ap binary_digits zero ∙ digits-none in
      omega arith
]

pub digits-rise : (n m : ℕ) → n ≤ m → binary_digits n ≤ binary_digits m
digits-rise n m h = rise_by n n m (omega arith) h

pub digits-double : (n : ℕ) → 1 ≤ n → binary_digits (n + n) ≡ binary_digits n + 1
digits-double n some =
    let half : (n + n) / 2 ≡ n = omega arith in
    digits-step (n + n) (omega arith) ∙ ap (λ z. binary_digits z + 1) half

pub digits-next : (n : ℕ) → binary_digits (n + 1) ≤ binary_digits n + 1
digits-next n = elim (cases_lt 0 n) as (λ _. binary_digits (n + 1) ≤ binary_digits n + 1) [
  | inl some ↦
      let a = digits-rise (n + 1) (n + n) (omega arith) in
      let b = digits-double n (omega arith) in
      omega arith
  | inr none ↦
      let a = digits-step (n + 1) (omega arith) in
      let half : (n + 1) / 2 ≡ 0 = omega arith in
      let b = ap binary_digits half ∙ digits-none in
      omega arith
]

-- a level is one less
pub level-digits : (n : ℕ) → 1 ≤ n → level n + 1 ≡ binary_digits n
unfolding level
level-digits n some = let e = digits-some n some in omega arith

pub level-few : (n : ℕ) → level n ≤ binary_digits n
unfolding level
level-few n = omega arith

pub level-rises : (n m : ℕ) → n ≤ m → level n ≤ level m
unfolding level
level-rises n m h = let k = digits-rise n m h in omega arith

pub level-double : (n : ℕ) → 1 ≤ n → level (n + n) ≡ level n + 1
level-double n some =
    let a = digits-double n some in
    let b = level-digits n some in
    let c = level-digits (n + n) (omega arith) in
    omega arith

-- a part that holds two others of one level has a greater level
pub record Apart (a b c : ℕ) : Type 0 where
  pub first : level a ≤ level c
  pub second : level b ≤ level c
  pub both : level a + level b + 1 ≤ level c + level c

pub apart : (a b c : ℕ) → 1 ≤ a → 1 ≤ b → a + b ≤ c → Apart a b c
apart a b c p q h =
    let x = level-rises a c (omega arith) in
    let y = level-rises b c (omega arith) in
    elim (cases_lt a b) as (λ _. Apart a b c) [
      | inl less ↦ record {
        first = x;
        second = y;
        both = let d = level-double a p in let e = level-rises (a + a) c (omega arith) in omega arith;
      }
      | inr more ↦ record {
        first = x;
        second = y;
        both = let d = level-double b q in let e = level-rises (b + b) c (omega arith) in omega arith;
      }
    ]

-- one step of a node with subtrees of a and b nodes below one with c nodes on its other side
pub single_law : (a b c : ℕ) → 2 * level (b + c + 1) + 6 * level (a + b + 1) ≤ 2 * level (a + b + 1) + 6 * level (a + b + c + 2)
single_law a b c =
    let x = level-rises (b + c + 1) (a + b + c + 2) (omega arith) in
    let y = level-rises (a + b + 1) (a + b + c + 2) (omega arith) in
    omega arith

-- two steps on one side, with e nodes on the other side of the top
pub zig_zig_law : (a b c e : ℕ) → 2 + 2 * level (c + e + 1) + 2 * level (b + (c + e + 1) + 1) + 6 * level (a + b + 1)
    ≤ 2 * level (a + b + 1) + 2 * level (a + b + 1 + c + 1) + 6 * level (a + b + 1 + c + 1 + e + 1)
zig_zig_law a b c e =
    let top = a + b + 1 + c + 1 + e + 1 in
    let k = apart (a + b + 1) (c + e + 1) top (omega arith) (omega arith) (omega arith) in
    let x = level-rises (b + (c + e + 1) + 1) top (omega arith) in
    let y = level-rises (a + b + 1) (a + b + 1 + c + 1) (omega arith) in
    let i = k.first in
    let j = k.both in
    omega arith

-- one on each side
pub zig_zag_law : (a b c e : ℕ) → 2 + 2 * level (a + e + 1) + 2 * level (b + c + 1) + 6 * level (a + b + 1)
    ≤ 2 * level (a + b + 1) + 2 * level (a + b + 1 + c + 1) + 6 * level (a + b + 1 + c + 1 + e + 1)
zig_zag_law a b c e =
    let top = a + b + 1 + c + 1 + e + 1 in
    let k = apart (a + e + 1) (b + c + 1) top (omega arith) (omega arith) (omega arith) in
    let x = level-rises (a + b + 1) top (omega arith) in
    let y = level-rises (a + b + 1) (a + b + 1 + c + 1) (omega arith) in
    let j = k.both in
    omega arith
