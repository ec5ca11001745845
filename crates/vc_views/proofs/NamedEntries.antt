-- The dictionary of a number, and that of a name, where no two have one number, or one name.
use Rattle.vc_base.proofs.Common.{◌≡◌, ℕ, zero, suc, Bool, true, false, cond, List, [], ◌∷◌, map, ◌==◌, slice_get, Some, find, bytes_eq, sym, refl, ap, ◌∙◌, subst, arith, Decides-eqb, nat_tests, or_parts, IsDistinct-head, IsDistinct-tail, none-some, same_Some, bytes_eq-Decides, AllByRecursion, IsDistinct, keys_of, AreDistinct, contains}
use Rattle.vc_commands.specs.declared.dict.entry.DictEntry.{DictEntry}
use Rattle.vc_views.specs.Dicts.{entry_numbered, number_in}

abbrev pub Entry : Type 0
Entry = List ℕ × DictEntry

-- an item stands at an index, and passes a test
abbrev pub Stands : {A : Type 0} → (A → Bool) → List A → A → Type 0
Stands test xs x = (i : ℕ) × (slice_get xs i ≡ Some x) × (test x ≡ true)

stands-here : {A : Type 0} (test : A → Bool) (y : A) (ys : List A) (x : A) (t : Bool) → test y ≡ t
    → cond t (Some y) (find test ys) ≡ Some x → (find test ys ≡ Some x → Stands test ys x) → Stands test (y ∷ ys) x
stands-here test y ys x true passes found behind = (0, found, subst (λ z. test z ≡ true) (same_Some y x found) passes)
stands-here test y ys x false fails found behind =
    let rest = behind found in
    (suc rest.0, rest.1, rest.2)

-- what is found does
pub find-stands : {A : Type 0} (test : A → Bool) (xs : List A) (x : A) → find test xs ≡ Some x → Stands test xs x
find-stands test [] x found = absurd (none-some x found)
find-stands test (y ∷ ys) x found = stands-here test y ys x (test y) refl found (find-stands test ys x)

-- the dictionary that is found by a number has it
pub found-number : (es : List Entry) (n : ℕ) (e : Entry) → entry_numbered n es ≡ Some e → number_in e ≡ n
found-number es n e found = (Decides-eqb (number_in e) n).0 (find-stands (λ f. number_in f == n) es e found).2

pub other-number : (n : ℕ) (es : List Entry) (i : ℕ) (e : Entry) → contains (map number_in es) n ≡ false → slice_get es i ≡ Some e → (n == number_in e) ≡ false
other-number n [] i e none at = absurd (none-some e at)
other-number n (f ∷ fs) zero e none at =
    let differ : (number_in f == n) ≡ false = (or_parts (number_in f == n) (contains (map number_in fs) n) none).0 in
    let turned : (n == number_in f) ≡ false = grind (arith, nat_tests, differ) in
    subst (λ (g : Entry). (n == number_in g) ≡ false) (same_Some f e at) turned
other-number n (f ∷ fs) (suc i) e none at = other-number n fs i e (or_parts (number_in f == n) (contains (map number_in fs) n) none).1 at

-- the dictionary at an index is the one of its number
pub by-number : (es : List Entry) (i : ℕ) (e : Entry) → AreDistinct (map number_in es) → slice_get es i ≡ Some e → entry_numbered (number_in e) es ≡ Some e
by-number [] i e distinct at = absurd (none-some e at)
by-number (f ∷ fs) zero e distinct at =
    let same : f ≡ e = same_Some f e at in
    ap (λ t. cond t (Some f) (entry_numbered (number_in e) fs)) ((Decides-eqb (number_in f) (number_in e)).1 (ap number_in same)) ∙ at
by-number (f ∷ fs) (suc i) e distinct at =
    ap (λ t. cond t (Some f) (entry_numbered (number_in e) fs)) (other-number (number_in f) fs i e distinct.0 at)
    ∙ by-number fs i e distinct.1 at

pub other-name : (name : List ℕ) (es : List Entry) (i : ℕ) (e : Entry) → AllByRecursion (λ k. bytes_eq name k ≡ false) (keys_of es) → slice_get es i ≡ Some e → bytes_eq name e.0 ≡ false
other-name name [] i e others at = absurd (none-some e at)
other-name name (f ∷ fs) zero e others at = subst (λ (g : Entry). bytes_eq name g.0 ≡ false) (same_Some f e at) others.0
other-name name (f ∷ fs) (suc i) e others at = other-name name fs i e others.1 at

-- and it is the one of its name
pub by-name : (es : List Entry) (i : ℕ) (e : Entry) → IsDistinct bytes_eq (keys_of es) → slice_get es i ≡ Some e → find (λ (f : Entry). bytes_eq f.0 e.0) es ≡ Some e
by-name [] i e distinct at = absurd (none-some e at)
by-name (f ∷ fs) zero e distinct at =
    ap (λ t. cond t (Some f) (find (λ (g : Entry). bytes_eq g.0 e.0) fs)) ((bytes_eq-Decides f.0 e.0).1 (ap (λ (g : Entry). g.0) (same_Some f e at))) ∙ at
by-name (f ∷ fs) (suc i) e distinct at =
    ap (λ t. cond t (Some f) (find (λ (g : Entry). bytes_eq g.0 e.0) fs)) (other-name f.0 fs i e (IsDistinct-head bytes_eq f.0 (keys_of fs) distinct) at)
    ∙ by-name fs i e (IsDistinct-tail bytes_eq f.0 (keys_of fs) distinct) at

module _ (es : List Entry) (names : IsDistinct bytes_eq (keys_of es)) where
  -- so the one that is found by a number is found by its name
  pub named-found : (n : ℕ) (e : Entry) → entry_numbered n es ≡ Some e → find (λ (f : Entry). bytes_eq f.0 e.0) es ≡ Some e
  named-found n e found =
      let there = find-stands (λ f. number_in f == n) es e found in
      by-name es there.0 e names there.1

  -- two that have one name are one
  pub same-named : (n m : ℕ) (e f : Entry) → entry_numbered n es ≡ Some e → entry_numbered m es ≡ Some f → f.0 ≡ e.0 → m ≡ n
  same-named n m e f found other same =
      let one : f ≡ e = same_Some f e (sym (named-found m f other) ∙ ap (λ name. find (λ (g : Entry). bytes_eq g.0 name) es) same ∙ named-found n e found) in
      sym (found-number es m f other) ∙ ap number_in one ∙ found-number es n e found
