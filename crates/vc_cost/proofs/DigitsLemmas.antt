-- How many binary digits a number between two powers of two has.
use Rattle.vc_base.proofs.Common.{◌≡◌, ℕ, zero, suc, ◌+◌, ◌*◌, ◌/◌, ◌<◌, ◌≤◌, ◌^◌, refl, ap, ◌∙◌, arith}
use Rattle.std.proofs.Math.Nat.{pow-suc}
use Rattle.std.proofs.lemmas.Int.Digits.{length-digits_of_step}
use Rattle.vc_splay.specs.Rank.{binary_digits}

digits-none : binary_digits 0 ≡ 0
unfolding binary_digits
digits-none = refl

digits-step : (n : ℕ) → 1 ≤ n → binary_digits n ≡ binary_digits (n / 2) + 1
unfolding binary_digits
digits-step n some = length-digits_of_step 2 n (omega arith) (omega arith)

pub digits-power : (m n : ℕ) → n < 2 ^ m → 2 ^ m ≤ 2 * n + 1 → binary_digits n ≡ m
digits-power zero n below least =
    let none : n ≡ 0 = omega arith in
    ap binary_digits none ∙ digits-none
digits-power (suc m) n below least =
    let e : 2 ^ suc m ≡ 2 ^ m * 2 = pow-suc 2 m in
    let half = digits-power m (n / 2) (omega arith) (omega arith) in
    let step = digits-step n (omega arith) in
    omega arith
