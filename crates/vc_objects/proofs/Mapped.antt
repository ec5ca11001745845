-- A dictionary's objects are its holders, each with what stands in it: what is done with them is done with the holders.
use Rattle.vc_base.proofs.Common.{◌≡◌, ℕ, Bool, true, false, List, [], ◌∷◌, map, if◌then◌else◌, ◌==◌, Some, None, Option, option_map, unwrap_or, sym, refl, ap, ◌∙◌, subst, inl, inr, true≢false, ne_eqb, eqb_tells, Blocks, contains, first_in, some_address, without}
use Rattle.std.proofs.lemmas.Iterator.Adapters.{option_map_id}
use Rattle.vc_base.proofs.Members.{within-head, within-tail}
use Rattle.vc_dtdisc.specs.Finding.{first_of}
use Rattle.vc_dtdisc.specs.Finds.{find_key, has_key, object_at}
use Rattle.vc_dtdisc.specs.Objects as objects
use Rattle.vc_dtdisc.specs.Objects.{Object, address_of, behind_object, without_object}
use Rattle.vc_dtdisc.specs.Rules.{Rules}
use Rattle.vc_dtdisc.proofs.AddressLemmas.{first_of-first_in, without_object-without}
use Rattle.vc_dtdisc.proofs.FindingLemmas.{first_of-map}
use Rattle.vc_dtdisc.proofs.ObjectsLemmas.{current_without-map, without_object-map}
use Rattle.vc_dtord.proofs.FirstLemmas as first_lemmas
use Rattle.vc_dict.specs.Changes.{current_without}
use Rattle.vc_objects.specs.Parts.{object_of}

-- the holder behind another one is in the list
first-within : (xs : List ℕ) (n : ℕ) → first_of xs ≡ Some n → contains xs n ≡ true
first-within [] n e = cc
first-within (x ∷ xs) n e = subst (λ z. contains (x ∷ xs) z ≡ true) (ap (λ o. unwrap_or o 0) e) (within-head x xs)

behind_by : (t : Bool) (at x : ℕ) (xs : List ℕ) (n : ℕ) → (behind_object (λ a. a) at xs ≡ Some n → contains xs n ≡ true) → (if t then first_of xs else behind_object (λ a. a) at xs) ≡ Some n → contains (x ∷ xs) n ≡ true
behind_by true at x xs n rest e = within-tail x xs n (first-within xs n e)
behind_by false at x xs n rest e = within-tail x xs n (rest e)

behind-within : (at : ℕ) (xs : List ℕ) (n : ℕ) → behind_object (λ a. a) at xs ≡ Some n → contains xs n ≡ true
behind-within at [] n e = cc
behind-within at (x ∷ xs) n e = behind_by (x == at) at x xs n (behind-within at xs n) e

zero_by : (t : Bool) (at current : ℕ) (xs : List ℕ) → contains xs 0 ≡ false → (current ≡ 0 → ⊥) → (if t then option_map (λ a. a) (behind_object (λ a. a) at xs) else Some current) ≡ Some 0 → ⊥
zero_by true at current xs zero some e = true≢false (sym (behind-within at xs 0 (sym (option_map_id (behind_object (λ a. a) at xs)) ∙ e)) ∙ zero)
zero_by false at current xs zero some e = some (ap (λ o. unwrap_or o 0) e)

current-some : (at current : ℕ) (xs : List ℕ) → contains xs 0 ≡ false → objects.current_without (λ a. a) at (some_address current) xs ≡ Some 0 → ⊥
current-some at current xs zero = elim (eqb_tells current 0) as (λ _. objects.current_without (λ a. a) at (some_address current) xs ≡ Some 0 → ⊥) [
  | inl same ↦ rw same.0 (λ e. cc)
  | inr apart ↦ rw apart.0 (zero_by (current == at) at current xs zero apart.1)
]

some_or : (o : Option ℕ) → (o ≡ Some 0 → ⊥) → some_address (unwrap_or o 0) ≡ o
some_or None h = refl
some_or (Some x) h = rw (ne_eqb x 0 (λ e. h (ap (λ z. Some z) e))) refl

module _ (b : Blocks) where
  -- the addresses of objects in their holders are the holders'
  pub addresses-mapped : (xs : List ℕ) → map address_of (map (object_of b) xs) ≡ xs
  addresses-mapped [] = refl
  addresses-mapped (x ∷ xs) = ap (λ ys. x ∷ ys) (addresses-mapped xs)

  pub address-mapped : (o : Option ℕ) → option_map address_of (option_map (object_of b) o) ≡ o
  address-mapped None = refl
  address-mapped (Some x) = refl

  pub none-mapped : (o : Option ℕ) → option_map (object_of b) o ≡ None → o ≡ None
  none-mapped None e = refl
  none-mapped (Some x) e = ap (λ o. option_map address_of o) e

  pub first-mapped : (xs : List ℕ) → first_of (map (object_of b) xs) ≡ option_map (object_of b) (first_in xs)
  first-mapped xs = first_of-map (object_of b) xs ∙ ap (option_map (object_of b)) (first_of-first_in xs)

  pub without-mapped : (at : ℕ) (xs : List ℕ) → without_object address_of at (map (object_of b) xs) ≡ map (object_of b) (without at xs)
  without-mapped at xs = without_object-map (object_of b) address_of at xs ∙ ap (map (object_of b)) (without_object-without at xs)

  pub current-mapped : (at current : ℕ) (xs : List ℕ) → contains xs 0 ≡ false → objects.current_without address_of at (some_address current) (map (object_of b) xs) ≡ some_address (current_without (Some at) current xs)
  current-mapped at current xs zero =
      current_without-map (object_of b) address_of at (some_address current) xs
      ∙ sym (some_or (objects.current_without (λ a. a) at (some_address current) xs) (current-some at current xs zero))

-- the first holder that has a key is one of them
pub found-within : (rules : Rules) (b : Blocks) (key xs : List ℕ) (at : ℕ) → find_key rules b key xs ≡ Some at → contains xs at ≡ true
found-within rules b key xs at e = first_lemmas.found-within (has_key rules b key) xs at e

-- objects stay where the bodies of their holders do
pub objects-kept : (old new : Blocks) (xs : List ℕ) → ((a : ℕ) → contains xs a ≡ true → object_at new a ≡ object_at old a) → map (object_of new) xs ≡ map (object_of old) xs
objects-kept old new [] h = refl
objects-kept old new (x ∷ xs) h =
    let with : List ℕ → Object = λ bytes. record { at = x; bytes = bytes } in
    ap (λ bytes. with bytes ∷ map (object_of new) xs) (h x (within-head x xs)) ∙ ap (λ os. object_of old x ∷ os) (objects-kept old new xs (λ a w. h a (within-tail x xs a w)))
