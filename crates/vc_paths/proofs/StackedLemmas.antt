-- What has a key among layers that stand one after another, each without the objects that those above it hide.
use Rattle.vc_base.proofs.Common.{◌≡◌, ℕ, Bool, true, false, cond, not, ◌||◌, List, [], ◌∷◌, ◌++◌, filter, find, is_eq, sym, refl, ap, ◌∙◌, inl, inr, append-nil, cases_Bool, or_left, or_parts, or_right, filter-append, list_any-append, list_any}
use Rattle.std.specs.Cmp.{Equal-is}
use Rattle.std.proofs.lemmas.Bool.{not_from_true, not_from_false}
use Rattle.std.proofs.lemmas.Cmp.{alike_right}
use Rattle.vc_base.proofs.Quantifiers.{any-agree}
use Rattle.vc_dtdisc.specs.Objects.{has_key, is_match}
use Rattle.vc_dtdisc.specs.Rules.{AreLawful, Rules}
use Rattle.vc_dtdisc.specs.Finding.{first_of}
use Rattle.vc_paths.specs.Visible.{Seen, is_hidden, stacked_objects}

-- the first layer in which some object passes a test
abbrev pub first_having : {A : Type 0} → (A → Bool) → List (List A) → List A
first_having test [] = []
first_having test (xs ∷ lower) = cond (list_any test xs) xs (first_having test lower)

-- whether an object has a key
abbrev pub with_key : {N : Type 0} → Rules → List ℕ → Seen N → Bool
with_key rules key o = has_key rules key o.bytes

-- what is found first is the first that passes
pub find-filter : {A : Type 0} (t : A → Bool) (xs : List A) → find t xs ≡ first_of (filter t xs)
find-filter t [] = refl
find-filter t (x ∷ xs) = elim (cases_Bool (t x)) as (λ _. find t (x ∷ xs) ≡ first_of (filter t (x ∷ xs))) [
  | inl h ↦ rw h refl
  | inr h ↦ rw h (find-filter t xs)
]

-- none passes
pub filter-none : {A : Type 0} (t : A → Bool) (xs : List A) → list_any t xs ≡ false → filter t xs ≡ []
filter-none t [] h = refl
filter-none t (x ∷ xs) h =
    let w = or_parts (t x) (list_any t xs) h in
    rw w.0 (filter-none t xs w.1)

-- a filter that leaves out each that passes, and one that leaves out none of them
pub filter-apart : {A : Type 0} (t p : A → Bool) (xs : List A) → ((x : A) → t x ≡ true → p x ≡ false) → filter t (filter p xs) ≡ []
filter-apart t p [] e = refl
filter-apart t p (x ∷ xs) e = elim (cases_Bool (t x)) as (λ _. filter t (filter p (x ∷ xs)) ≡ []) [
  | inl h ↦ rw (e x h) (filter-apart t p xs e)
  | inr h ↦ elim (cases_Bool (p x)) as (λ _. filter t (filter p (x ∷ xs)) ≡ []) [
    | inl k ↦ rw (k, h) (filter-apart t p xs e)
    | inr k ↦ rw k (filter-apart t p xs e)
  ]
]

pub filter-kept : {A : Type 0} (t p : A → Bool) (xs : List A) → ((x : A) → t x ≡ true → p x ≡ true) → filter t (filter p xs) ≡ filter t xs
filter-kept t p [] e = refl
filter-kept t p (x ∷ xs) e = elim (cases_Bool (t x)) as (λ _. filter t (filter p (x ∷ xs)) ≡ filter t (x ∷ xs)) [
  | inl h ↦ rw (e x h, h) (ap (λ z. x ∷ z) (filter-kept t p xs e))
  | inr h ↦ elim (cases_Bool (p x)) as (λ _. filter t (filter p (x ∷ xs)) ≡ filter t (x ∷ xs)) [
    | inl k ↦ rw (k, h) (filter-kept t p xs e)
    | inr k ↦ rw (k, h) (filter-kept t p xs e)
  ]
]

-- an object that has a key is hidden where one above has it
pub hidden-key : {N : Type 0} (rules : Rules) (key : List ℕ) (above : List (Seen N)) (o : Seen N) → AreLawful rules → with_key rules key o ≡ true → is_hidden rules above o ≡ list_any (with_key rules key) above
hidden-key rules key above o lawful h =
    any-agree (λ u. is_match rules o.bytes u.bytes) (with_key rules key) above
    (λ u. ap is_eq (alike_right lawful.order (rules.key o.bytes) key (rules.key u.bytes) ((Equal-is (rules.compare (rules.key o.bytes) key)).0 h)))

-- behind layers of which one has the key, none that has it is left
pub stacked-hidden : {N : Type 0} (rules : Rules) (key : List ℕ) (above : List (Seen N)) (layers : List (List (Seen N))) → AreLawful rules → list_any (with_key rules key) above ≡ true → filter (with_key rules key) (stacked_objects rules above layers) ≡ []
stacked-hidden rules key above [] lawful h = refl
stacked-hidden rules key above (xs ∷ lower) lawful h =
    filter-append (with_key rules key) (filter (λ o. not (is_hidden rules above o)) xs) (stacked_objects rules (above ++ xs) lower)
    ∙ ap (λ z. z ++ filter (with_key rules key) (stacked_objects rules (above ++ xs) lower)) (filter-apart (with_key rules key) (λ o. not (is_hidden rules above o)) xs (λ o k. not_from_true (is_hidden rules above o) (hidden-key rules key above o lawful k ∙ h)))
    ∙ stacked-hidden rules key (above ++ xs) lower lawful (list_any-append (with_key rules key) above xs ∙ or_left (list_any (with_key rules key) above) (list_any (with_key rules key) xs) h)

-- behind layers of which none has it, those that have it are those of the first layer that has some
pub stacked-having : {N : Type 0} (rules : Rules) (key : List ℕ) (above : List (Seen N)) (layers : List (List (Seen N))) → AreLawful rules → list_any (with_key rules key) above ≡ false → filter (with_key rules key) (stacked_objects rules above layers) ≡ filter (with_key rules key) (first_having (with_key rules key) layers)
stacked-having rules key above [] lawful h = refl
stacked-having rules key above (xs ∷ lower) lawful h =
    let t = with_key rules key in
    let front : filter t (filter (λ o. not (is_hidden rules above o)) xs) ≡ filter t xs
    = filter-kept t (λ o. not (is_hidden rules above o)) xs (λ o k. not_from_false (is_hidden rules above o) (hidden-key rules key above o lawful k ∙ h)) in
    let rest = filter t (stacked_objects rules (above ++ xs) lower) in
    filter-append t (filter (λ o. not (is_hidden rules above o)) xs) (stacked_objects rules (above ++ xs) lower)
    ∙ ap (λ z. z ++ rest) front
    ∙ elim (cases_Bool (list_any t xs)) as (λ _. filter t xs ++ rest ≡ filter t (first_having t (xs ∷ lower))) [
      | inl k ↦ rw (k, stacked-hidden rules key (above ++ xs) lower lawful (list_any-append t above xs ∙ or_right (list_any t above) (list_any t xs) k)) (append-nil (filter t xs))
      | inr k ↦ rw (k, filter-none t xs k) (stacked-having rules key (above ++ xs) lower lawful (list_any-append t above xs ∙ ap (λ z. z || list_any t xs) h ∙ k))
    ]

-- all that is seen with a key stands in the first layer that has it, and none of them is hidden there
pub stacked-key : {N : Type 0} (rules : Rules) (key : List ℕ) (layers : List (List (Seen N))) → AreLawful rules → filter (with_key rules key) (stacked_objects rules [] layers) ≡ filter (with_key rules key) (first_having (with_key rules key) layers)
stacked-key rules key layers lawful = stacked-having rules key [] layers lawful refl

-- so what is found there is what that layer finds
pub stacked-found : {N : Type 0} (rules : Rules) (key : List ℕ) (layers : List (List (Seen N))) → AreLawful rules → find (with_key rules key) (stacked_objects rules [] layers) ≡ find (with_key rules key) (first_having (with_key rules key) layers)
stacked-found rules key layers lawful =
    find-filter (with_key rules key) (stacked_objects rules [] layers) ∙ ap first_of (stacked-key rules key layers lawful) ∙ sym (find-filter (with_key rules key) (first_having (with_key rules key) layers))
