-- How the text of a flag is read.
use Rattle.vc_base.proofs.Common.{◌≡◌, Bool, true, false, length, Some, None, codes, Option, bytes_eq, unwrap_or, sym, refl, ap, ◌∙◌, arith, bytes_eq-Decides}
use Rattle.std.specs.Option.{option_map_or}
use Rattle.std.specs.Str.Parse.{ParsesBool}
use Rattle.clap.specs.Words.{ReadsOne, Text}

isnt_true : (text : Text) → (text ≡ codes "true" → ⊥) → false ≡ bytes_eq text (codes "true")
isnt_true text other = go (bytes_eq text (codes "true")) refl
  where
    go : (b : Bool) → bytes_eq text (codes "true") ≡ b → false ≡ b
    go true e = absurd (other ((bytes_eq-Decides _ _).0 e))
    go false e = refl

-- `get_one` as a `bool`, where no text and one that is none count as false
pub flag_read : (E : Type 0) (text : Option Text) (r : Option Bool) → (text ≡ None → r ≡ None)
    → ((t : Text) → text ≡ Some t → ReadsOne {T = Bool} {E = E} ParsesBool t r)
    → unwrap_or r false ≡ option_map_or (λ t. bytes_eq t (codes "true")) text false
flag_read E None r none value = ap (λ o. unwrap_or o false) (none refl)
flag_read E (Some t) None none value = isnt_true t (value t refl).1.0
flag_read E (Some t) (Some true) none value = sym ((bytes_eq-Decides _ _).1 (value t refl))
flag_read E (Some t) (Some false) none value =
    isnt_true t (λ e.
    let bad : 5 ≡ 4 = ap length (sym (value t refl) ∙ e) in
    absurd (omega arith))
