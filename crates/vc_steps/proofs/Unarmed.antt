-- What goes back to a shelf is unarmed.
use Rattle.vc_base.proofs.Common.{◌≡◌, ℕ, ◌-◌, true, set, Some, None, Option, sym, ap, ◌∙◌, inl, inr, eqb_tells, none-some, same_Some, Discipline, at_number}
use Rattle.vc_base.proofs.Lists.{slice_get-set}
use Rattle.vc_steps.specs.Account.{ArmsNone}
use Rattle.vc_steps.proofs.Cells.{at_number-from_one, at_number_some}
use Rattle.vc_steps.proofs.CloseLeaves.{elsewhere-set}
use Rattle.vc_steps.proofs.Sessions.{Slots}

pub arms-same : (slots slots' : Slots) → slots' ≡ slots → ArmsNone slots slots'
arms-same slots slots' same = λ n d at on. ap (λ s. at_number s n) (sym same) ∙ at

pub arms-trans : (a b c : Slots) → ArmsNone a b → ArmsNone b c → ArmsNone a c
arms-trans a b c first next = λ n d at on. first n d (next n d at on) on

-- at one place stands nothing, or what isn't armed
pub arms-set : (slots : Slots) (n : ℕ) (x : Option Discipline) {o : Option Discipline} → at_number slots n ≡ Some o → ((d : Discipline) → x ≡ Some d → d.exceptions.armed ≡ true → ⊥) → ArmsNone slots (set slots (n - 1) x)
arms-set slots n x {o} was none = λ p d at on.
    elim (eqb_tells p n) [
      | inl same ↦
          let there : at_number (set slots (n - 1) x) n ≡ Some x =
          at_number-from_one (set slots (n - 1) x) n (at_number_some slots n o was).0 ∙ slice_get-set slots (n - 1) o x (at_number_some slots n o was).1 in
          absurd (none d (same_Some x (Some d) (sym there ∙ (ap (at_number (set slots (n - 1) x)) (sym same.1) ∙ at))) on)
      | inr other ↦ sym (elsewhere-set slots n x was p other.1) ∙ at
    ]

pub arms-taken : (slots : Slots) (n : ℕ) {o : Option Discipline} → at_number slots n ≡ Some o → ArmsNone slots (set slots (n - 1) None)
arms-taken slots n was = arms-set slots n None was (λ d is on. none-some d is)
