-- Numbers that are rounded up.
use Rattle.vc_base.proofs.Common.{◌≡◌, ℕ, ◌+◌, ◌-◌, ◌*◌, ◌/◌, ◌%◌, ◌<◌, ◌≤◌, sym, ap, ◌∙◌, arith, IsSegmentSize, round_up}
use Rattle.std.proofs.Math.Nat.{mul-mod_right}
use Rattle.std.proofs.lemmas.Nat.{mul-mod_first}
use Rattle.vc_model.specs.Discipline.{IsRound}

pub round_up-least : (n unit : ℕ) → 1 ≤ unit → n ≤ round_up n unit
round_up-least n unit h = omega arith

pub round_up-most : (n unit : ℕ) → 1 ≤ unit → round_up n unit < n + unit
round_up-most n unit h = omega arith

-- a multiple of 32 to whose multiple it is rounded up
pub round_up-mod_32 : (n unit : ℕ) → unit % 32 ≡ 0 → round_up n unit % 32 ≡ 0
round_up-mod_32 n unit h =
    let q = (n + unit - 1) / unit in
    let zero : 0 * q ≡ 0 = omega arith in
    sym (mul-mod_first unit q 32) ∙ (ap (λ r. (r * q) % 32) h ∙ ap (λ r. r % 32) zero)

pub round_up-mod_unit : (n unit : ℕ) → round_up n unit % unit ≡ 0
round_up-mod_unit n unit = mul-mod_right unit ((n + unit - 1) / unit)

-- the size of the segment that is asked for
pub IsSegmentSize-asked : (round bytes : ℕ) → IsRound round → 64 ≤ bytes → bytes ≤ 33488896 → IsSegmentSize (round_up bytes round)
IsSegmentSize-asked round bytes r least most =
    let low = round_up-least bytes round (omega (arith, r.least)) in
    let high = round_up-most bytes round (omega (arith, r.least)) in
    let first = r.least in
    let last = r.most in
    record { least = omega (arith, low, least); most = omega (arith, high, most, last); multiple = round_up-mod_32 bytes round r.multiple }
