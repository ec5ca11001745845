-- When two lists of bytes are one.
use Rattle.vc_base.proofs.Common.{◌≡◌, ℕ, true, List, bytes_eq, sym, refl, ◌∙◌, ⊎_elim, cases_Bool, bytes_eq-Decides}

pub same_bytes : (x y : List ℕ) → bytes_eq x y ≡ true → x ≡ y
same_bytes x y e = (bytes_eq-Decides x y).0 e

pub own_bytes : (x : List ℕ) → bytes_eq x x ≡ true
own_bytes x = (bytes_eq-Decides x x).1 refl

pub bytes_eq-swapped : (x y : List ℕ) → bytes_eq x y ≡ bytes_eq y x
bytes_eq-swapped x y =
    ⊎_elim
    (λ e. e ∙ sym ((bytes_eq-Decides y x).1 (sym (same_bytes x y e))))
    (λ e. ⊎_elim (λ f. (bytes_eq-Decides x y).1 (sym (same_bytes y x f)) ∙ sym f) (λ f. e ∙ sym f) (cases_Bool (bytes_eq y x)))
    (cases_Bool (bytes_eq x y))
