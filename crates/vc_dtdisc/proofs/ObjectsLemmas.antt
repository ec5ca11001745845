-- What is done with a list of objects is done with items that are mapped to them.
use Rattle.vc_base.proofs.Common.{◌≡◌, ℕ, Bool, true, false, List, [], ◌∷◌, ◌++◌, map, is_some, if◌then◌else◌, ◌==◌, Some, None, Option, option_map, sym, refl, ap, ◌∙◌, subst, map-append, list_any, is_ordered, is_set}
use Rattle.vc_base.specs.declared.dict_method.DictMethod.{DictMethod}
use Rattle.vc_base.specs.declared.dict_method.DictMethod.TheVariants.{DtSet, DtBag, DtOset, DtObag, DtList, DtStack, DtQueue}
use Rattle.vc_base.proofs.Quantifiers.{any-map}
use Rattle.vc_base.proofs.Lists.{find-map}
use Rattle.vc_base.proofs.Options.{is_some-map}
use Rattle.vc_dtdisc.specs.Objects.{IsSorted, put_before_current, before_key, put_behind_current, behind_key, behind_object, current_without, dropped_behind, dropped_by, first_with, has_key, has_match, inserted_among, is_greater, kept_behind, kept_by, linked_among, ordered_by, placed_among, placed_each, without_object}
use Rattle.vc_dtdisc.specs.Rules.{Rules}
use Rattle.vc_dtdisc.proofs.FindingLemmas.{before_first-map, behind_first-map, behind_last-map, list_by, put_before-map, put_behind-map, without_first-map}

-- the address of one that is mapped
pub option_map-map : {A B C : Type 0} (g : B → C) (h : A → B) (o : Option A) → option_map g (option_map h o) ≡ option_map (λ x. g (h x)) o
option_map-map g h None = refl
option_map-map g h (Some x) = refl

last-map : {A B : Type 0} (h : A → B) (xs : List A) (o : A) → map h xs ++ h o ∷ [] ≡ map h (xs ++ o ∷ [])
last-map h xs o = sym (map-append h xs (o ∷ []))

-- by what the objects are: which one is found, where one stands in order, and the methods' orders
module _ {A B : Type 0} (h : A → B) (bytes : B → List ℕ) where
  pub first_with-map : (rules : Rules) (key : List ℕ) (xs : List A) → first_with bytes rules key (map h xs) ≡ option_map h (first_with (λ x. bytes (h x)) rules key xs)
  first_with-map rules key xs = find-map h (λ o. has_key rules key (bytes o)) xs

  pub behind_key-map : (rules : Rules) (key : List ℕ) (xs : List A) → behind_key bytes rules key (map h xs) ≡ option_map h (behind_key (λ x. bytes (h x)) rules key xs)
  behind_key-map rules key xs = behind_last-map h (λ o. has_key rules key (bytes o)) xs

  pub before_key-map : (rules : Rules) (key : List ℕ) (xs : List A) → before_key bytes rules key (map h xs) ≡ option_map h (before_key (λ x. bytes (h x)) rules key xs)
  before_key-map rules key xs = before_first-map h (λ o. has_key rules key (bytes o)) xs

  pub has_match-map : (rules : Rules) (xs : List A) (o : A) → has_match bytes rules (map h xs) (h o) ≡ has_match (λ x. bytes (h x)) rules xs o
  has_match-map rules xs o =
      let key = rules.key (bytes (h o)) in
      ap (λ p. is_some p) (first_with-map rules key xs) ∙ is_some-map h (first_with (λ x. bytes (h x)) rules key xs)

  pub placed_among-map : (rules : Rules) (o : A) (xs : List A) → placed_among bytes rules (h o) (map h xs) ≡ map h (placed_among (λ x. bytes (h x)) rules o xs)
  placed_among-map rules o xs = put_before-map h (λ x. is_greater rules (bytes x) (bytes (h o))) o xs

  pub placed_each-map : (rules : Rules) (done xs : List A) → placed_each bytes rules (map h done) (map h xs) ≡ map h (placed_each (λ x. bytes (h x)) rules done xs)
  placed_each-map rules done [] = refl
  placed_each-map rules done (x ∷ xs) =
      ap (λ os. placed_each bytes rules os (map h xs)) (placed_among-map rules x done) ∙ placed_each-map rules (placed_among (λ y. bytes (h y)) rules x done) xs

  pub kept_behind-map : (rules : Rules) (done xs : List A) → kept_behind bytes rules (map h done) (map h xs) ≡ map h (kept_behind (λ x. bytes (h x)) rules done xs)
  kept_behind-map rules done [] = refl
  kept_behind-map rules done (x ∷ xs) =
      ap (λ t. if t then kept_behind bytes rules (map h done) (map h xs) else kept_behind bytes rules (map h done ++ h x ∷ []) (map h xs)) (has_match-map rules done x)
      ∙ list_by h (has_match (λ y. bytes (h y)) rules done x) (kept_behind (λ y. bytes (h y)) rules done xs) (kept_behind (λ y. bytes (h y)) rules (done ++ x ∷ []) xs)
      (kept_behind bytes rules (map h done) (map h xs)) (kept_behind bytes rules (map h done ++ h x ∷ []) (map h xs)) (kept_behind-map rules done xs)
      (ap (λ os. kept_behind bytes rules os (map h xs)) (last-map h done x) ∙ kept_behind-map rules (done ++ x ∷ []) xs)

  pub dropped_behind-map : (rules : Rules) (done xs : List A) → dropped_behind bytes rules (map h done) (map h xs) ≡ map h (dropped_behind (λ x. bytes (h x)) rules done xs)
  dropped_behind-map rules done [] = refl
  dropped_behind-map rules done (x ∷ xs) =
      ap (λ t. if t then h x ∷ dropped_behind bytes rules (map h done) (map h xs) else dropped_behind bytes rules (map h done ++ h x ∷ []) (map h xs)) (has_match-map rules done x)
      ∙ list_by h (has_match (λ y. bytes (h y)) rules done x) (x ∷ dropped_behind (λ y. bytes (h y)) rules done xs) (dropped_behind (λ y. bytes (h y)) rules (done ++ x ∷ []) xs)
      (h x ∷ dropped_behind bytes rules (map h done) (map h xs)) (dropped_behind bytes rules (map h done ++ h x ∷ []) (map h xs))
      (ap (λ os. h x ∷ os) (dropped_behind-map rules done xs))
      (ap (λ os. dropped_behind bytes rules os (map h xs)) (last-map h done x) ∙ dropped_behind-map rules (done ++ x ∷ []) xs)

  pub ordered_by-map : (method : DictMethod) (rules : Rules) (xs : List A) → ordered_by bytes method rules (map h xs) ≡ map h (ordered_by (λ x. bytes (h x)) method rules xs)
  ordered_by-map method rules xs =
      list_by h (is_ordered method) (placed_each (λ x. bytes (h x)) rules [] xs) xs (placed_each bytes rules [] (map h xs)) (map h xs) (placed_each-map rules [] xs) refl

  pub kept_by-map : (method : DictMethod) (rules : Rules) (xs : List A) → kept_by bytes method rules (map h xs) ≡ map h (kept_by (λ x. bytes (h x)) method rules xs)
  kept_by-map method rules xs =
      list_by h (is_set method) (kept_behind (λ x. bytes (h x)) rules [] xs) xs (kept_behind bytes rules [] (map h xs)) (map h xs) (kept_behind-map rules [] xs) refl

  pub dropped_by-map : (method : DictMethod) (rules : Rules) (xs : List A) → dropped_by bytes method rules (map h xs) ≡ map h (dropped_by (λ x. bytes (h x)) method rules xs)
  dropped_by-map method rules xs =
      list_by h (is_set method) (dropped_behind (λ x. bytes (h x)) rules [] xs) [] (dropped_behind bytes rules [] (map h xs)) [] (dropped_behind-map rules [] xs) refl

  pub IsSorted-map : (rules : Rules) (xs : List A) → IsSorted bytes rules (map h xs) ≡ IsSorted (λ x. bytes (h x)) rules xs
  IsSorted-map rules [] = refl
  IsSorted-map rules (x ∷ xs) =
      ap (λ t. (t ≡ false) × IsSorted bytes rules (map h xs)) (any-map h (λ y. is_greater rules (bytes (h x)) (bytes y)) xs)
      ∙ ap (λ S. (list_any (λ y. is_greater rules (bytes (h x)) (bytes (h y))) xs ≡ false) × S) (IsSorted-map rules xs)

-- by the addresses of their holders: beside the current one, and without one
module _ {A B : Type 0} (h : A → B) (at : B → ℕ) where
  pub before_current-map : (current : Option ℕ) (o : A) (xs : List A) → put_before_current at current (h o) (map h xs) ≡ map h (put_before_current (λ x. at (h x)) current o xs)
  before_current-map None o xs = refl
  before_current-map (Some current) o xs = put_before-map h (λ x. at x == current) o xs

  pub behind_current-map : (current : Option ℕ) (o : A) (xs : List A) → put_behind_current at current (h o) (map h xs) ≡ map h (put_behind_current (λ x. at (h x)) current o xs)
  behind_current-map None o xs = last-map h xs o
  behind_current-map (Some current) o xs = put_behind-map h (λ x. at x == current) o xs

  pub without_object-map : (gone : ℕ) (xs : List A) → without_object at gone (map h xs) ≡ map h (without_object (λ x. at (h x)) gone xs)
  without_object-map gone xs = without_first-map h (λ x. at x == gone) xs

  pub behind_object-map : (mark : ℕ) (xs : List A) → behind_object at mark (map h xs) ≡ option_map h (behind_object (λ x. at (h x)) mark xs)
  behind_object-map mark xs = behind_first-map h (λ x. at x == mark) xs

  pub current_without-map : (gone : ℕ) (current : Option ℕ) (xs : List A) → current_without at gone current (map h xs) ≡ current_without (λ x. at (h x)) gone current xs
  current_without-map gone None xs = refl
  current_without-map gone (Some current) xs =
      ap (λ o. if current == gone then o else Some current)
      (ap (λ o. option_map at o) (behind_object-map gone xs) ∙ option_map-map at h (behind_object (λ x. at (h x)) gone xs))

-- by both: where one goes
module _ {A B : Type 0} (h : A → B) (at : B → ℕ) (bytes : B → List ℕ) where
  pub inserted_among-map : (method : DictMethod) (rules : Rules) (current : Option ℕ) (o : A) (xs : List A)
      → inserted_among at bytes method rules current (h o) (map h xs) ≡ map h (inserted_among (λ x. at (h x)) (λ x. bytes (h x)) method rules current o xs)
  inserted_among-map DtSet rules current o xs = last-map h xs o
  inserted_among-map DtBag rules current o xs = last-map h xs o
  inserted_among-map DtOset rules current o xs = placed_among-map h bytes rules o xs
  inserted_among-map DtObag rules current o xs = placed_among-map h bytes rules o xs
  inserted_among-map DtList rules current o xs = before_current-map h at current o xs
  inserted_among-map DtStack rules current o xs = refl
  inserted_among-map DtQueue rules current o xs = last-map h xs o

  pub linked_among-map : (append : Bool) (method : DictMethod) (rules : Rules) (current : Option ℕ) (o : A) (xs : List A)
      → linked_among at bytes append method rules current (h o) (map h xs) ≡ map h (linked_among (λ x. at (h x)) (λ x. bytes (h x)) append method rules current o xs)
  linked_among-map true method rules current o xs = behind_current-map h at current o xs
  linked_among-map false method rules current o xs = inserted_among-map method rules current o xs
