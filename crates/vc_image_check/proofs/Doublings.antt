-- Which numbers of slots were met.
use Rattle.vc_base.proofs.Common.{◌≡◌, ℕ, suc, ◌+◌, ◌*◌, ◌^◌, ◌<◌, ◌≤◌, refl, sym, ap, ◌∙◌, arith, inl, inr, pow-suc, pow_mono, add-one, cases_lt}
use Rattle.vc_dthash.specs.Slots.{IsSlots}

-- 16 doubled so many times, and no number before it are these slots
pub record Doubled (slots next k : ℕ) : Type 0 where
  pub value : next ≡ 16 * 2 ^ k
  pub none : (j : ℕ) → j < k → slots ≡ 16 * 2 ^ j → ⊥

pub doubled-start : (slots : ℕ) → Doubled slots 16 0
doubled-start slots = record { value = refl; none = λ j lt e. omega (arith, lt) }

pub doubled-most : (slots next k : ℕ) → k < 18 → Doubled slots next k → next ≤ 2097152
doubled-most slots next k lt d = let p : 2 ^ k ≤ 2 ^ 17 = pow_mono {i = k} {j = 17} (omega (arith, lt)) in let v = d.value in omega (arith, v, p)

pub doubled-next : (slots next next' k : ℕ) → next' ≡ next * 2 → (next ≡ slots → ⊥) → Doubled slots next k → Doubled slots next' (k + 1)
doubled-next slots next next' k e other d =
    let v = d.value in
    let p : 2 ^ suc k ≡ 2 ^ k * 2 = pow-suc 2 k in
    record {
      value = omega (arith, e, v, p) ∙ ap (λ z. 16 * 2 ^ z) (sym (add-one k));
      none = λ j lt is. elim (cases_lt j k) as (λ _. ⊥) [
        | inl less ↦ d.none j less is
        | inr more ↦ let same : j ≡ k = omega (arith, lt, more) in other (v ∙ sym (is ∙ ap (λ z. 16 * 2 ^ z) same))
      ];
    }

pub doubled-slots : (slots next k : ℕ) → k < 18 → next ≡ slots → Doubled slots next k → IsSlots slots
doubled-slots slots next k lt e d = record { doublings = k; few = omega (arith, lt); value = sym e ∙ d.value }

pub doubled-not : (slots next k : ℕ) → 18 ≤ k → Doubled slots next k → IsSlots slots → ⊥
doubled-not slots next k more d h = let few = h.few in d.none h.doublings (omega (arith, few, more)) h.value
