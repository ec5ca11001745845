-- Doubling slots one step further.
use Rattle.vc_base.proofs.Common.{◌≡◌, ℕ, suc, ◌+◌, ◌-◌, ◌*◌, ◌^◌, ◌<◌, ◌≤◌, false, if◌then◌else◌, nat_le, ap, ◌∙◌, arith, pow_mono, lt-leb}
use Rattle.vc_dthash.specs.Slots.{enough_slots}

doubled-suc : (left slots objects : ℕ) → nat_le objects (2 * slots) ≡ false → enough_slots (suc left) slots objects ≡ enough_slots left (2 * slots) objects
doubled-suc left slots objects e = ap (λ t. if t then slots else enough_slots left (2 * slots) objects) e

pub doubled-step : (passed slots objects : ℕ) → passed < 17 → 2 * slots < objects → enough_slots (17 - passed) slots objects ≡ enough_slots (17 - (passed + 1)) (slots * 2) objects
doubled-step passed slots objects h e =
    let one : 17 - passed ≡ suc (17 - (passed + 1)) = omega arith in
    let twice : 2 * slots ≡ slots * 2 = omega arith in
    ap (λ n. enough_slots n slots objects) one ∙ doubled-suc (17 - (passed + 1)) slots objects (lt-leb objects (2 * slots) e) ∙ ap (λ s. enough_slots (17 - (passed + 1)) s objects) twice

pub few_slots : (passed slots : ℕ) → passed < 17 → slots ≡ 16 * 2 ^ passed → slots * 2 ≤ 2097152
few_slots passed slots h e = let p : 2 ^ passed ≤ 2 ^ 16 = pow_mono {i = passed} {j = 16} (omega arith) in omega (arith, e, p)
