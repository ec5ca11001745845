-- The current one is none or one of the holders, after each call.
use Rattle.vc_base.proofs.Common.{◌≡◌, ℕ, Bool, true, false, ◌≢◌, List, [], ◌∷◌, ◌++◌, if◌then◌else◌, ◌==◌, Some, None, Option, option_map, unwrap_or, sym, refl, ap, ◌∙◌, inl, inr, true≢false, eq-eqb, ne_eqb, eqb-true, eqb_tells, Blocks, contains, first_in, next_in, some_address, without}
use Rattle.std.proofs.lemmas.Iterator.Adapters.{option_map_id}
use Rattle.vc_base.specs.declared.dict_method.DictMethod.{DictMethod}
use Rattle.vc_base.specs.declared.dict_method.DictMethod.TheVariants.{DtSet, DtBag, DtOset, DtObag, DtList, DtStack, DtQueue}
use Rattle.vc_base.proofs.Members.{apart-head, apart-tail, apart-cons, within-head, within-tail}
use Rattle.vc_dtdisc.specs.Rules.{Rules}
use Rattle.vc_dtlist.proofs.HolderLemmas.{apart-append}
use Rattle.vc_dtdisc.specs.Finding.{put_before, put_behind}
use Rattle.vc_dtdisc.specs.Objects as objects
use Rattle.vc_dtdisc.specs.Objects.{behind_object}
use Rattle.vc_dtdisc.proofs.AddressLemmas.{behind_object-next_in}
use Rattle.vc_dtord.specs.Ordered.{is_less}
use Rattle.vc_dtord.proofs.SortedLemmas.{any-inserted}
use Rattle.vc_dict.specs.Changes.{behind_current, current_without, order_by_insert, order_by_link, order_without}
use Rattle.vc_dict.proofs.PassLemmas.{apart-placed}

-- either of two lists
either_in : (t : Bool) (xs ys : List ℕ) (a : ℕ) (r : Bool) → contains xs a ≡ r → contains ys a ≡ r → contains (if t then xs else ys) a ≡ r
either_in true xs ys a r e f = e
either_in false xs ys a r e f = f

-- the one that is linked is in the list
within-last : (at : ℕ) (xs : List ℕ) → contains (xs ++ at ∷ []) at ≡ true
within-last at [] = within-head at []
within-last at (x ∷ xs) = within-tail x (xs ++ at ∷ []) at (within-last at xs)

within-put_before : (test : ℕ → Bool) (at : ℕ) (xs : List ℕ) → contains (put_before test at xs) at ≡ true
within-put_before test at [] = within-head at []
within-put_before test at (x ∷ xs) =
    either_in (test x) (at ∷ x ∷ xs) (x ∷ put_before test at xs) at true (within-head at (x ∷ xs)) (within-tail x (put_before test at xs) at (within-put_before test at xs))

within-put_behind : (test : ℕ → Bool) (at : ℕ) (xs : List ℕ) → contains (put_behind test at xs) at ≡ true
within-put_behind test at [] = within-head at []
within-put_behind test at (x ∷ xs) =
    either_in (test x) (x ∷ at ∷ xs) (x ∷ put_behind test at xs) at true (within-tail x (at ∷ xs) at (within-head at xs)) (within-tail x (put_behind test at xs) at (within-put_behind test at xs))

within-before : (current : Option ℕ) (at : ℕ) (xs : List ℕ) → contains (objects.put_before_current (λ a. a) current at xs) at ≡ true
within-before None at xs = within-head at xs
within-before (Some current) at xs = within-put_before (λ x. x == current) at xs

within-behind : (current : Option ℕ) (at : ℕ) (xs : List ℕ) → contains (objects.put_behind_current (λ a. a) current at xs) at ≡ true
within-behind None at xs = within-last at xs
within-behind (Some current) at xs = within-put_behind (λ x. x == current) at xs

within-inserted : (method : DictMethod) (rules : Rules) (b : Blocks) (current at : ℕ) (xs : List ℕ) → contains (order_by_insert method rules b current at xs) at ≡ true
within-inserted DtSet rules b current at xs = within-last at xs
within-inserted DtBag rules b current at xs = within-last at xs
within-inserted DtOset rules b current at xs = within-put_before (is_less rules b at) at xs
within-inserted DtObag rules b current at xs = within-put_before (is_less rules b at) at xs
within-inserted DtList rules b current at xs = within-before (some_address current) at xs
within-inserted DtStack rules b current at xs = within-head at xs
within-inserted DtQueue rules b current at xs = within-last at xs

pub within-linked : (append : Bool) (method : DictMethod) (rules : Rules) (b : Blocks) (current at : ℕ) (xs : List ℕ) → contains (order_by_link append method rules b current at xs) at ≡ true
within-linked append method rules b current at xs =
    either_in append (behind_current current at xs) (order_by_insert method rules b current at xs) at true
    (within-behind (some_address current) at xs)
    (within-inserted method rules b current at xs)

-- no other one is
apart-put_behind : (test : ℕ → Bool) (at : ℕ) (xs : List ℕ) (a : ℕ) → at ≢ a → contains xs a ≡ false → contains (put_behind test at xs) a ≡ false
apart-put_behind test at [] a ne h = apart-cons at [] a ne refl
apart-put_behind test at (x ∷ xs) a ne h =
    either_in (test x) (x ∷ at ∷ xs) (x ∷ put_behind test at xs) a false (apart-cons x (at ∷ xs) a (apart-head x xs a h) (apart-cons at xs a ne (apart-tail x xs a h))) (apart-cons x (put_behind test at xs) a (apart-head x xs a h) (apart-put_behind test at xs a ne (apart-tail x xs a h)))

apart-last : (at : ℕ) (xs : List ℕ) (a : ℕ) → at ≢ a → contains xs a ≡ false → contains (xs ++ at ∷ []) a ≡ false
apart-last at xs a ne h = apart-append xs (at ∷ []) a h (apart-cons at [] a ne refl)

apart-before : (current : Option ℕ) (at : ℕ) (xs : List ℕ) (a : ℕ) → at ≢ a → contains xs a ≡ false → contains (objects.put_before_current (λ z. z) current at xs) a ≡ false
apart-before None at xs a ne h = apart-cons at xs a ne h
apart-before (Some current) at xs a ne h = any-inserted (λ z. z == a) (λ x. x == current) at xs (ne_eqb at a ne) h

apart-behind : (current : Option ℕ) (at : ℕ) (xs : List ℕ) (a : ℕ) → at ≢ a → contains xs a ≡ false → contains (objects.put_behind_current (λ z. z) current at xs) a ≡ false
apart-behind None at xs a ne h = apart-last at xs a ne h
apart-behind (Some current) at xs a ne h = apart-put_behind (λ x. x == current) at xs a ne h

apart-inserted : (method : DictMethod) (rules : Rules) (b : Blocks) (current at : ℕ) (xs : List ℕ) (a : ℕ) → at ≢ a → contains xs a ≡ false → contains (order_by_insert method rules b current at xs) a ≡ false
apart-inserted DtSet rules b current at xs a ne h = apart-last at xs a ne h
apart-inserted DtBag rules b current at xs a ne h = apart-last at xs a ne h
apart-inserted DtOset rules b current at xs a ne h = apart-placed rules b at xs a ne h
apart-inserted DtObag rules b current at xs a ne h = apart-placed rules b at xs a ne h
apart-inserted DtList rules b current at xs a ne h = apart-before (some_address current) at xs a ne h
apart-inserted DtStack rules b current at xs a ne h = apart-cons at xs a ne h
apart-inserted DtQueue rules b current at xs a ne h = apart-last at xs a ne h

pub apart-linked : (append : Bool) (method : DictMethod) (rules : Rules) (b : Blocks) (current at : ℕ) (xs : List ℕ) (a : ℕ) → at ≢ a → contains xs a ≡ false → contains (order_by_link append method rules b current at xs) a ≡ false
apart-linked append method rules b current at xs a ne h =
    either_in append (behind_current current at xs) (order_by_insert method rules b current at xs) a false
    (apart-behind (some_address current) at xs a ne h)
    (apart-inserted method rules b current at xs a ne h)

-- another one stays in the list
within-without : (at : ℕ) (xs : List ℕ) (a : ℕ) → at ≢ a → contains xs a ≡ true → contains (without at xs) a ≡ true
within-without at [] a ne h = absurd (true≢false (sym h))
within-without at (x ∷ xs) a ne h = elim (eqb_tells x at) as (λ _. contains (without at (x ∷ xs)) a ≡ true) [
  | inl same ↦ rw same.0 (elim (eqb_tells x a) as (λ _. contains xs a ≡ true) [
    | inl here ↦ absurd (ne (sym same.1 ∙ here.1))
    | inr apart ↦ rw apart.0 at h
  ])
  | inr differs ↦ rw differs.0 (elim (eqb_tells x a) as (λ _. contains (x ∷ without at xs) a ≡ true) [
    | inl here ↦ rw here.0 refl
    | inr apart ↦ within-tail x (without at xs) a (within-without at xs a ne (rw apart.0 at h))
  ])
]

-- the one behind it, if any, stays in it
within-first : (xs : List ℕ) → contains (0 ∷ xs) (unwrap_or (first_in xs) 0) ≡ true
within-first [] = refl
within-first (x ∷ xs) = within-tail 0 (x ∷ xs) x (within-head x xs)

within-longer : (x : ℕ) (xs : List ℕ) (a : ℕ) → contains (0 ∷ xs) a ≡ true → contains (0 ∷ x ∷ xs) a ≡ true
within-longer x xs a h = elim (eqb_tells 0 a) as (λ _. contains (0 ∷ x ∷ xs) a ≡ true) [
  | inl none ↦ rw none.0 refl
  | inr some ↦ within-tail 0 (x ∷ xs) a (within-tail x xs a (rw some.0 at h))
]

next_by : (t : Bool) (at x : ℕ) (xs : List ℕ) → contains (0 ∷ without at xs) (unwrap_or (next_in at xs) 0) ≡ true → contains (0 ∷ (if t then xs else x ∷ without at xs)) (unwrap_or (if t then first_in xs else next_in at xs) 0) ≡ true
next_by true at x xs h = within-first xs
next_by false at x xs h = within-longer x (without at xs) (unwrap_or (next_in at xs) 0) h

within-next : (at : ℕ) (xs : List ℕ) → contains (0 ∷ without at xs) (unwrap_or (next_in at xs) 0) ≡ true
within-next at [] = refl
within-next at (x ∷ xs) = next_by (x == at) at x xs (within-next at xs)

is_same : (t : Bool) (at current : ℕ) (xs : List ℕ) → unwrap_or (if t then option_map (λ a. a) (behind_object (λ a. a) at xs) else Some current) 0 ≡ (if t then unwrap_or (next_in at xs) 0 else current)
is_same true at current xs = ap (λ o. unwrap_or o 0) (option_map_id (behind_object (λ a. a) at xs) ∙ behind_object-next_in at xs)
is_same false at current xs = refl

is_none : (t : Bool) (at current : ℕ) (xs : List ℕ) → unwrap_or (objects.current_without (λ a. a) at (if t then None else Some current) xs) 0 ≡ (if t then 0 else if current == at then unwrap_or (next_in at xs) 0 else current)
is_none true at current xs = refl
is_none false at current xs = is_same (current == at) at current xs

pub current-is : (at current : ℕ) (xs : List ℕ) → current_without (Some at) current xs ≡ (if current == 0 then 0 else if current == at then unwrap_or (next_in at xs) 0 else current)
current-is at current xs = is_none (current == 0) at current xs

pub current-gone : (at current : ℕ) (xs : List ℕ) → at ≢ 0 → (current == at) ≡ true → current_without (Some at) current xs ≡ unwrap_or (next_in at xs) 0
current-gone at current xs some same =
    current-is at current xs
    ∙ ap (λ t. if t then 0 else if current == at then unwrap_or (next_in at xs) 0 else current) (ne_eqb current 0 (λ e. some (sym (eqb-true current at same) ∙ e)))
    ∙ ap (λ t. if t then unwrap_or (next_in at xs) 0 else current) same

stays_by : (t : Bool) (current other : ℕ) → (current == 0) ≡ t → other ≡ current → (if t then 0 else other) ≡ current
stays_by true current other e f = sym (eqb-true current 0 e)
stays_by false current other e f = f

pub current-stays : (at current : ℕ) (xs : List ℕ) → (current == at) ≡ false → current_without (Some at) current xs ≡ current
current-stays at current xs other =
    current-is at current xs
    ∙ stays_by (current == 0) current (if current == at then unwrap_or (next_in at xs) 0 else current) refl (ap (λ t. if t then unwrap_or (next_in at xs) 0 else current) other)

told_by : (t : Bool) (at current : ℕ) (xs : List ℕ) → at ≢ 0 → (current == at) ≡ t → current_without (Some at) current xs ≡ (if t then unwrap_or (next_in at xs) 0 else current)
told_by true at current xs some e = current-gone at current xs some e
told_by false at current xs some e = current-stays at current xs e

pub current-told : (at current : ℕ) (xs : List ℕ) → at ≢ 0 → current_without (Some at) current xs ≡ (if current == at then unwrap_or (next_in at xs) 0 else current)
current-told at current xs some = told_by (current == at) at current xs some refl

-- so it is none or one of those that are left
current_by : (t : Bool) (current at : ℕ) (xs : List ℕ) → (t ≡ false → contains (0 ∷ without at xs) current ≡ true) → contains (0 ∷ without at xs) (if t then unwrap_or (next_in at xs) 0 else current) ≡ true
current_by true current at xs h = within-next at xs
current_by false current at xs h = h refl

none_by : (t : Bool) (at other : ℕ) (xs : List ℕ) → contains (0 ∷ without at xs) other ≡ true → contains (0 ∷ without at xs) (if t then 0 else other) ≡ true
none_by true at other xs h = within-head 0 (without at xs)
none_by false at other xs h = h

current-another : (current at : ℕ) (xs : List ℕ) → contains (0 ∷ xs) current ≡ true → current ≢ at → contains (0 ∷ without at xs) current ≡ true
current-another current at xs h ne = elim (eqb_tells 0 current) as (λ _. contains (0 ∷ without at xs) current ≡ true) [
  | inl none ↦ rw none.0 refl
  | inr some ↦ within-tail 0 (without at xs) current (within-without at xs current (λ e. ne (sym e)) (rw some.0 at h))
]

pub current-removed : (found : Option ℕ) (current : ℕ) (xs : List ℕ) → contains (0 ∷ xs) current ≡ true → contains (0 ∷ order_without found xs) (current_without found current xs) ≡ true
current-removed None current xs h = h
current-removed (Some at) current xs h =
    ap (contains (0 ∷ without at xs)) (current-is at current xs)
    ∙ none_by (current == 0) at (if current == at then unwrap_or (next_in at xs) 0 else current) xs
    (current_by (current == at) current at xs (λ e. current-another current at xs h (λ same. absurd (true≢false (sym (eq-eqb current at same) ∙ e)))))
