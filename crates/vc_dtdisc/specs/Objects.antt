-- Lists of objects: which one is found, where one goes, and which one is current then. Over any items that stand for
-- objects: `at` is the address of an item's holder, and `bytes` what the object is.
use Rattle.std.specs.Prelude.{◌≡◌, ℕ, List, [], ◌∷◌, ◌++◌, Bool, false, Option, Some, None, is_some, option_map, ◌==◌, if◌then◌else◌}
use Rattle.std.specs.List.{find, list_any}
use Rattle.std.specs.Ordering.{is_eq, is_gt}
use Rattle.vc_base.specs.declared.dict_method.DictMethod.{DictMethod}
use Rattle.vc_base.specs.declared.dict_method.DictMethod.TheVariants.{DtSet, DtBag, DtOset, DtObag, DtList, DtStack, DtQueue}
use Rattle.vc_base.specs.Methods.{is_ordered, is_set}
use Rattle.vc_dtdisc.specs.Finding.{before_first, behind_first, behind_last, put_before, put_behind, without_first}
use Rattle.vc_dtdisc.specs.Rules.{Rules}

-- an object in its holder: the holder's address, and the object's bytes
pub record Object : Type 0 where
  pub at : ℕ
  pub bytes : List ℕ

-- the two, of items that are objects themselves
abbrev pub address_of : Object → ℕ
address_of o = o.at

abbrev pub bytes_of : Object → List ℕ
bytes_of o = o.bytes

-- whether an object has a key, whether another one matches the first, and whether the first is greater
abbrev pub has_key : Rules → List ℕ → List ℕ → Bool
has_key rules key a = is_eq (rules.compare (rules.key a) key)

abbrev pub is_match : Rules → List ℕ → List ℕ → Bool
is_match rules b a = has_key rules (rules.key b) a

abbrev pub is_greater : Rules → List ℕ → List ℕ → Bool
is_greater rules a b = is_gt (rules.compare (rules.key a) (rules.key b))

-- the first that has a key
abbrev pub first_with : {A : Type 0} → (A → List ℕ) → Rules → List ℕ → List A → Option A
first_with bytes rules key items = find (λ o. has_key rules key (bytes o)) items

-- the one behind the last that has a key
abbrev pub behind_key : {A : Type 0} → (A → List ℕ) → Rules → List ℕ → List A → Option A
behind_key bytes rules key items = behind_last (λ o. has_key rules key (bytes o)) items

-- the one before the first that has a key
abbrev pub before_key : {A : Type 0} → (A → List ℕ) → Rules → List ℕ → List A → Option A
before_key bytes rules key items = before_first (λ o. has_key rules key (bytes o)) items

-- whether one matches some of these
abbrev pub has_match : {A : Type 0} → (A → List ℕ) → Rules → List A → A → Bool
has_match bytes rules items o = is_some (first_with bytes rules (rules.key (bytes o)) items)

-- none is less than one before it
abbrev pub IsSorted : {A : Type 0} → (A → List ℕ) → Rules → List A → Type 0
IsSorted bytes rules [] = Unit {0}
IsSorted bytes rules (x ∷ xs) =
    (list_any (λ y. is_greater rules (bytes x) (bytes y)) xs ≡ false) × IsSorted bytes rules xs

-- one among others in order of keys: before the first that is greater, and so behind the last that isn't
abbrev pub placed_among : {A : Type 0} → (A → List ℕ) → Rules → A → List A → List A
placed_among bytes rules o items = put_before (λ x. is_greater rules (bytes x) (bytes o)) o items

-- in a list: directly before the current one, or first with none
abbrev pub put_before_current : {A : Type 0} → (A → ℕ) → Option ℕ → A → List A → List A
put_before_current at None o items = o ∷ items
put_before_current at (Some current) o items = put_before (λ x. at x == current) o items

-- directly behind the current one, or last with none
abbrev pub put_behind_current : {A : Type 0} → (A → ℕ) → Option ℕ → A → List A → List A
put_behind_current at None o items = items ++ o ∷ []
put_behind_current at (Some current) o items = put_behind (λ x. at x == current) o items

-- where `insert` puts one, by the method
abbrev pub inserted_among : {A : Type 0} → (A → ℕ) → (A → List ℕ) → DictMethod → Rules → Option ℕ → A → List A → List A
inserted_among at bytes DtSet rules current o items = items ++ o ∷ []
inserted_among at bytes DtBag rules current o items = items ++ o ∷ []
inserted_among at bytes DtOset rules current o items = placed_among bytes rules o items
inserted_among at bytes DtObag rules current o items = placed_among bytes rules o items
inserted_among at bytes DtList rules current o items = put_before_current at current o items
inserted_among at bytes DtStack rules current o items = o ∷ items
inserted_among at bytes DtQueue rules current o items = items ++ o ∷ []

-- where `insert` puts it, or `append`, which is for lists
abbrev pub linked_among : {A : Type 0} → (A → ℕ) → (A → List ℕ) → Bool → DictMethod → Rules → Option ℕ → A → List A → List A
linked_among at bytes append method rules current o items =
    if append then put_behind_current at current o items else inserted_among at bytes method rules current o items

-- without the one at an address
abbrev pub without_object : {A : Type 0} → (A → ℕ) → ℕ → List A → List A
without_object at gone items = without_first (λ x. at x == gone) items

-- the one behind that at an address
abbrev pub behind_object : {A : Type 0} → (A → ℕ) → ℕ → List A → Option A
behind_object at mark items = behind_first (λ x. at x == mark) items

-- the current one when the one at an address goes: where it is that one, the one behind it, or none
abbrev pub current_without : {A : Type 0} → (A → ℕ) → ℕ → Option ℕ → List A → Option ℕ
current_without at gone None items = None
current_without at gone (Some current) items =
    if current == gone then option_map at (behind_object at gone items) else Some current

-- these placed one after another among others in order of their keys, each behind those that match it
abbrev pub placed_each : {A : Type 0} → (A → List ℕ) → Rules → List A → List A → List A
placed_each bytes rules done [] = done
placed_each bytes rules done (x ∷ xs) = placed_each bytes rules (placed_among bytes rules x done) xs

-- behind others, those that match neither one of these nor an earlier one
abbrev pub kept_behind : {A : Type 0} → (A → List ℕ) → Rules → List A → List A → List A
kept_behind bytes rules done [] = done
kept_behind bytes rules done (x ∷ xs) =
    if has_match bytes rules done x then kept_behind bytes rules done xs
    else kept_behind bytes rules (done ++ x ∷ []) xs

-- those that match one of these or an earlier one
abbrev pub dropped_behind : {A : Type 0} → (A → List ℕ) → Rules → List A → List A → List A
dropped_behind bytes rules done [] = []
dropped_behind bytes rules done (x ∷ xs) =
    if has_match bytes rules done x then x ∷ dropped_behind bytes rules done xs
    else dropped_behind bytes rules (done ++ x ∷ []) xs

-- objects in the order of a method
abbrev pub ordered_by : {A : Type 0} → (A → List ℕ) → DictMethod → Rules → List A → List A
ordered_by bytes method rules items = if is_ordered method then placed_each bytes rules [] items else items

-- those that a method keeps, and those that it drops
abbrev pub kept_by : {A : Type 0} → (A → List ℕ) → DictMethod → Rules → List A → List A
kept_by bytes method rules items = if is_set method then kept_behind bytes rules [] items else items

abbrev pub dropped_by : {A : Type 0} → (A → List ℕ) → DictMethod → Rules → List A → List A
dropped_by bytes method rules items = if is_set method then dropped_behind bytes rules [] items else []
