-- Places that are seen through view paths.
use Rattle.vc_base.proofs.Common.{◌≡◌, ℕ, Bool, cond, not, ◌&&◌, List, [], ◌∷◌, ◌==◌, Some, None, Option, true, sym, refl, ap, ◌∙◌, subst, inl, inr, Decides-eqb, cases_Bool, or_left, or_right, none-some, same_Some, list_any}
use Rattle.vc_base.specs.declared.addr.Addr.{Addr}
use Rattle.vc_dtdisc.specs.Finding.{behind_last, first_of}
use Rattle.vc_paths.specs.Path.{Answers, is_at, is_place, numbers_of, place_of}
use Rattle.vc_paths.specs.Visible.{Seen}

-- what is found in a list stands in it
place-self : (p : ℕ × ℕ) → is_place p p ≡ true
place-self p = subst (λ t. (t && (p.1 == p.1)) ≡ true) (sym ((Decides-eqb p.0 p.0).1 refl)) ((Decides-eqb p.1 p.1).1 refl)

first-within : {A : Type 0} (test : A → Bool) (x : A) (xs : List A) → first_of xs ≡ Some x → test x ≡ true → list_any test xs ≡ true
first-within test x [] is passes = absurd (none-some x is)
first-within test x (y ∷ ys) is passes = or_left (test y) (list_any test ys) (ap test (same_Some y x is) ∙ passes)

behind-within : {A : Type 0} (mark test : A → Bool) (x : A) (xs : List A) → behind_last mark xs ≡ Some x → test x ≡ true → list_any test xs ≡ true
behind-within mark test x [] is passes = absurd (none-some x is)
behind-within mark test x (y ∷ ys) is passes =
    or_right (test y) (list_any test ys)
    (elim (cases_Bool (mark y && not (list_any mark ys))) as (λ _. list_any test ys ≡ true) [
      | inl here ↦ first-within test x ys (sym (ap (λ t. cond t (first_of ys) (behind_last mark ys)) here) ∙ is) passes
      | inr past ↦ behind-within mark test x ys (sym (ap (λ t. cond t (first_of ys) (behind_last mark ys)) past) ∙ is) passes
    ])

answered : (p : ℕ × Addr) (o : Option (Seen ℕ)) → Answers (Some p) o → (x : Seen ℕ) × (o ≡ Some x) × (is_at (numbers_of p) x ≡ true)
answered p None a = absurd (none-some (numbers_of p) (sym a))
answered p (Some x) a = (x, refl, subst (λ q. is_place (numbers_of p) q ≡ true) (same_Some (numbers_of p) (place_of x) a) (place-self (numbers_of p)))

module _ (xs : List (Seen ℕ)) (result : Option (ℕ × Addr)) (p : ℕ × Addr) (is : result ≡ Some p) where
  pub first-seen : Answers result (first_of xs) → list_any (is_at (numbers_of p)) xs ≡ true
  first-seen a =
      let o = answered p (first_of xs) (subst (λ r. Answers r (first_of xs)) is a) in
      first-within (is_at (numbers_of p)) o.0 xs o.1 o.2

  pub behind-seen : (mark : Seen ℕ → Bool) → Answers result (behind_last mark xs) → list_any (is_at (numbers_of p)) xs ≡ true
  behind-seen mark a =
      let o = answered p (behind_last mark xs) (subst (λ r. Answers r (behind_last mark xs)) is a) in
      behind-within mark (is_at (numbers_of p)) o.0 xs o.1 o.2
