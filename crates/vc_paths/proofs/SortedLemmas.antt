-- Objects in order of keys: what is placed among them, and what a filter keeps of them.
use Rattle.vc_base.proofs.Common.{◌≡◌, ℕ, Bool, true, false, cond, not, ◌||◌, List, [], ◌∷◌, ◌++◌, map, filter, find, sym, refl, ap, ◌∙◌, inl, inr, true≢false, append_assoc, append-nil, cases_Bool, filter-append, IsTotalOrder, AllByRecursion}
use Rattle.vc_dtdisc.specs.Objects.{has_key, is_greater, is_match, placed_among, placed_each}
use Rattle.vc_dtdisc.specs.Rules.{Rules}
use Rattle.vc_base.proofs.Quantifiers.{all-append, all-weaken}
use Rattle.vc_dtdisc.specs.Finding.{first_of}
use Rattle.vc_paths.specs.Visible.{Seen, is_hidden, seen_bytes, stacked_objects}
use Rattle.vc_paths.proofs.OrderLemmas.{AreOrdered, all_filter, filter_kept, ordered, tied_keys, up}

-- one isn't greater than the other
abbrev pub IsUpto : Rules → Seen ℕ → Seen ℕ → Type 0
IsUpto rules x y = is_greater rules x.bytes y.bytes ≡ false

-- no object is less than one before it
abbrev pub AreSorted : Rules → List (Seen ℕ) → Type 0
AreSorted rules [] = Unit {0}
AreSorted rules (x ∷ xs) = AllByRecursion (IsUpto rules x) xs × AreSorted rules xs

pub sorted_filter : (rules : Rules) (p : Seen ℕ → Bool) (xs : List (Seen ℕ)) → AreSorted rules xs → AreSorted rules (filter p xs)
sorted_filter rules p [] s = tt
sorted_filter rules p (x ∷ xs) s = elim (cases_Bool (p x)) as (λ _. AreSorted rules (filter p (x ∷ xs))) [
  | inl t ↦ rw t (all_filter (IsUpto rules x) p xs s.0, sorted_filter rules p xs s.1)
  | inr t ↦ rw t (sorted_filter rules p xs s.1)
]

-- what holds of each object with one more among them, and of each of the layers
pub all_placed : (rules : Rules) (P : Seen ℕ → Type 0) (o : Seen ℕ) (xs : List (Seen ℕ)) → P o → AllByRecursion P xs → AllByRecursion P (placed_among seen_bytes rules o xs)
all_placed rules P o [] h g = (h, tt)
all_placed rules P o (x ∷ xs) h g = elim (cases_Bool (is_greater rules x.bytes o.bytes)) as (λ _. AllByRecursion P (placed_among seen_bytes rules o (x ∷ xs))) [
  | inl t ↦ rw t (h, g)
  | inr t ↦ rw t (g.0, all_placed rules P o xs h g.1)
]

pub all_sorted : (rules : Rules) (P : Seen ℕ → Type 0) (sorted xs : List (Seen ℕ)) → AllByRecursion P sorted → AllByRecursion P xs → AllByRecursion P (placed_each seen_bytes rules sorted xs)
all_sorted rules P sorted [] h g = h
all_sorted rules P sorted (x ∷ xs) h g = all_sorted rules P (placed_among seen_bytes rules x sorted) xs (all_placed rules P x sorted g.0 h) g.1

pub all_stacked : (rules : Rules) (P : Seen ℕ → Type 0) (above : List (Seen ℕ)) (layers : List (List (Seen ℕ))) → AllByRecursion (AllByRecursion P) layers → AllByRecursion P (stacked_objects rules above layers)
all_stacked rules P above [] h = tt
all_stacked rules P above (layer ∷ lower) h =
    all-append P (filter (λ o. not (is_hidden rules above o)) layer) (stacked_objects rules (above ++ layer) lower)
    (all_filter P (λ o. not (is_hidden rules above o)) layer h.0) (all_stacked rules P (above ++ layer) lower h.1)

-- they stay sorted
pub placed_sorted : (rules : Rules) → AreOrdered rules → (o : Seen ℕ) (xs : List (Seen ℕ)) → AreSorted rules xs → AreSorted rules (placed_among seen_bytes rules o xs)
placed_sorted rules laws o [] s = (tt, tt)
placed_sorted rules laws o (x ∷ xs) s = elim (cases_Bool (is_greater rules x.bytes o.bytes)) as (λ _. AreSorted rules (placed_among seen_bytes rules o (x ∷ xs))) [
  | inl t ↦
      let back = laws.one x.bytes o.bytes t in
      rw t ((back, all-weaken (IsUpto rules x) (IsUpto rules o) xs (λ y h. laws.upto o.bytes x.bytes y.bytes back h) s.0), s)
  | inr t ↦ rw t (all_placed rules (IsUpto rules x) o xs t s.0, placed_sorted rules laws o xs s.1)
]

pub onto_sorted : (rules : Rules) → AreOrdered rules → (sorted xs : List (Seen ℕ)) → AreSorted rules sorted → AreSorted rules (placed_each seen_bytes rules sorted xs)
onto_sorted rules laws sorted [] s = s
onto_sorted rules laws sorted (x ∷ xs) s = onto_sorted rules laws (placed_among seen_bytes rules x sorted) xs (placed_sorted rules laws x sorted s)

-- before those that are all greater
placed_first : (rules : Rules) (o : Seen ℕ) (xs : List (Seen ℕ)) → AllByRecursion (λ y. is_greater rules y.bytes o.bytes ≡ true) xs → placed_among seen_bytes rules o xs ≡ o ∷ xs
placed_first rules o [] h = refl
placed_first rules o (x ∷ xs) h = rw h.0 refl

-- what a filter keeps with one more, and of objects in order
pub filter_placed : (rules : Rules) → AreOrdered rules → (p : Seen ℕ → Bool) (o : Seen ℕ) (xs : List (Seen ℕ)) → AreSorted rules xs → filter p (placed_among seen_bytes rules o xs) ≡ cond (p o) (placed_among seen_bytes rules o (filter p xs)) (filter p xs)
filter_placed rules laws p o [] s = elim (cases_Bool (p o)) as (λ _. filter p (placed_among seen_bytes rules o []) ≡ cond (p o) (placed_among seen_bytes rules o []) []) [
  | inl t ↦ rw t refl
  | inr t ↦ rw t refl
]
filter_placed rules laws p o (x ∷ xs) s = elim (cases_Bool (is_greater rules x.bytes o.bytes)) as (λ _. filter p (placed_among seen_bytes rules o (x ∷ xs)) ≡ cond (p o) (placed_among seen_bytes rules o (filter p (x ∷ xs))) (filter p (x ∷ xs))) [
  | inl t ↦
      let far : AllByRecursion (λ y. is_greater rules y.bytes o.bytes ≡ true) (x ∷ xs) = (t, all-weaken (IsUpto rules x) (λ y. is_greater rules y.bytes o.bytes ≡ true) xs (λ y h. up rules x.bytes y.bytes o.bytes laws t h) s.0) in
      rw (placed_first rules o (x ∷ xs) far, placed_first rules o (filter p (x ∷ xs)) (all_filter (λ y. is_greater rules y.bytes o.bytes ≡ true) p (x ∷ xs) far)) refl
  | inr t ↦ elim (cases_Bool (p x)) as (λ _. filter p (placed_among seen_bytes rules o (x ∷ xs)) ≡ cond (p o) (placed_among seen_bytes rules o (filter p (x ∷ xs))) (filter p (x ∷ xs))) [
    | inl w ↦ elim (cases_Bool (p o)) as (λ _. filter p (placed_among seen_bytes rules o (x ∷ xs)) ≡ cond (p o) (placed_among seen_bytes rules o (filter p (x ∷ xs))) (filter p (x ∷ xs))) [
      | inl v ↦ rw (t, w, v, t) (ap (λ z. x ∷ z) (filter_placed rules laws p o xs s.1 ∙ ap (λ z. cond z (placed_among seen_bytes rules o (filter p xs)) (filter p xs)) v))
      | inr v ↦ rw (t, w, v) (ap (λ z. x ∷ z) (filter_placed rules laws p o xs s.1 ∙ ap (λ z. cond z (placed_among seen_bytes rules o (filter p xs)) (filter p xs)) v))
    ]
    | inr w ↦ rw (t, w) (filter_placed rules laws p o xs s.1)
  ]
]

pub filter_sorted : (rules : Rules) → AreOrdered rules → (p : Seen ℕ → Bool) (sorted xs : List (Seen ℕ)) → AreSorted rules sorted → filter p (placed_each seen_bytes rules sorted xs) ≡ placed_each seen_bytes rules (filter p sorted) (filter p xs)
filter_sorted rules laws p sorted [] s = refl
filter_sorted rules laws p sorted (x ∷ xs) s =
    let rest = filter_sorted rules laws p (placed_among seen_bytes rules x sorted) xs (placed_sorted rules laws x sorted s) in
    let one = filter_placed rules laws p x sorted s in
    elim (cases_Bool (p x)) as (λ _. filter p (placed_each seen_bytes rules sorted (x ∷ xs)) ≡ placed_each seen_bytes rules (filter p sorted) (filter p (x ∷ xs))) [
      | inl t ↦ rw t (rest ∙ ap (λ z. placed_each seen_bytes rules z (filter p xs)) (one ∙ ap (λ z. cond z (placed_among seen_bytes rules x (filter p sorted)) (filter p sorted)) t))
      | inr t ↦ rw t (rest ∙ ap (λ z. placed_each seen_bytes rules z (filter p xs)) (one ∙ ap (λ z. cond z (placed_among seen_bytes rules x (filter p sorted)) (filter p sorted)) t))
    ]

-- behind those that aren't greater
pub placed_last : (rules : Rules) (o : Seen ℕ) (xs : List (Seen ℕ)) → AllByRecursion (λ y. is_greater rules y.bytes o.bytes ≡ false) xs → placed_among seen_bytes rules o xs ≡ xs ++ o ∷ []
placed_last rules o [] h = refl
placed_last rules o (x ∷ xs) h = rw h.0 (ap (λ z. x ∷ z) (placed_last rules o xs h.1))

-- those that match keep their order
onto_tied : (rules : Rules) (q : Seen ℕ → Bool) → ((x y : Seen ℕ) → q x ≡ true → q y ≡ true → is_greater rules x.bytes y.bytes ≡ false) → (sorted xs : List (Seen ℕ)) → AllByRecursion (λ x. q x ≡ true) sorted → AllByRecursion (λ x. q x ≡ true) xs → placed_each seen_bytes rules sorted xs ≡ sorted ++ xs
onto_tied rules q tied sorted [] h g = sym (append-nil sorted)
onto_tied rules q tied sorted (x ∷ xs) h g =
    let last = placed_last rules x sorted (all-weaken (λ y. q y ≡ true) (λ y. is_greater rules y.bytes x.bytes ≡ false) sorted (λ y k. tied y x k g.0) h) in
    let more = all-append (λ y. q y ≡ true) sorted (x ∷ []) h (g.0, tt) in
    ap (λ z. placed_each seen_bytes rules z xs) last ∙ onto_tied rules q tied (sorted ++ x ∷ []) xs more g.1 ∙ append_assoc sorted (x ∷ []) xs

-- of objects in order of keys a test on the key keeps the same ones, in the same order
pub kept_sorted : (rules : Rules) → AreOrdered rules → (q : Seen ℕ → Bool) → ((x y : Seen ℕ) → q x ≡ true → q y ≡ true → is_greater rules x.bytes y.bytes ≡ false) → (xs : List (Seen ℕ)) → filter q (placed_each seen_bytes rules [] xs) ≡ filter q xs
kept_sorted rules laws q tied xs =
    filter_sorted rules laws q [] xs tt ∙ onto_tied rules q tied [] (filter q xs) tt (filter_kept q xs)

-- the first that passes is the first of those that pass
pub find_first : {A : Type 0} (q : A → Bool) (xs : List A) → find q xs ≡ first_of (filter q xs)
find_first q [] = refl
find_first q (x ∷ xs) = elim (cases_Bool (q x)) as (λ _. find q (x ∷ xs) ≡ first_of (filter q (x ∷ xs))) [
  | inl t ↦ rw t refl
  | inr t ↦ rw t (find_first q xs)
]

-- so the first object that has a key is the same
pub found_sorted : (rules : Rules) → IsTotalOrder rules.compare → (key : List ℕ) (xs : List (Seen ℕ)) → find (λ o. has_key rules key o.bytes) (placed_each seen_bytes rules [] xs) ≡ find (λ o. has_key rules key o.bytes) xs
found_sorted rules order key xs =
    let q : Seen ℕ → Bool = λ o. has_key rules key o.bytes in
    find_first q (placed_each seen_bytes rules [] xs)
    ∙ ap first_of (kept_sorted rules (ordered rules order) q (λ x y h g. tied_keys rules order key x.bytes y.bytes h g) xs)
    ∙ sym (find_first q xs)

-- whether an object is hidden, among those above it that pass a test like it
pub hidden_filter : (rules : Rules) (p : Seen ℕ → Bool) (o : Seen ℕ) (above : List (Seen ℕ)) → ((u : Seen ℕ) → is_match rules o.bytes u.bytes ≡ true → p u ≡ true) → is_hidden rules (filter p above) o ≡ is_hidden rules above o
hidden_filter rules p o [] h = refl
hidden_filter rules p o (u ∷ us) h = elim (cases_Bool (p u)) as (λ _. is_hidden rules (filter p (u ∷ us)) o ≡ is_hidden rules (u ∷ us) o) [
  | inl t ↦ rw t (ap (λ z. is_match rules o.bytes u.bytes || z) (hidden_filter rules p o us h))
  | inr t ↦
      let far : is_match rules o.bytes u.bytes ≡ false = elim (cases_Bool (is_match rules o.bytes u.bytes)) as (λ _. is_match rules o.bytes u.bytes ≡ false) [
        | inl m ↦ absurd (true≢false (sym (h u m) ∙ t))
        | inr m ↦ m
      ] in
      rw t (hidden_filter rules p o us h ∙ sym (ap (λ z. z || is_hidden rules us o) far))
]

pub layer_filter : (rules : Rules) (p : Seen ℕ → Bool) (above layer : List (Seen ℕ)) → ((o u : Seen ℕ) → is_match rules o.bytes u.bytes ≡ true → p o ≡ true → p u ≡ true) → filter p (filter (λ o. not (is_hidden rules above o)) layer) ≡ filter (λ o. not (is_hidden rules (filter p above) o)) (filter p layer)
layer_filter rules p above [] h = refl
layer_filter rules p above (x ∷ xs) h =
    let rest = layer_filter rules p above xs h in
    elim (cases_Bool (p x)) as (λ _. filter p (filter (λ o. not (is_hidden rules above o)) (x ∷ xs)) ≡ filter (λ o. not (is_hidden rules (filter p above) o)) (filter p (x ∷ xs))) [
      | inl t ↦
          let same = hidden_filter rules p x above (λ u m. h x u m t) in
          elim (cases_Bool (is_hidden rules above x)) as (λ _. filter p (filter (λ o. not (is_hidden rules above o)) (x ∷ xs)) ≡ filter (λ o. not (is_hidden rules (filter p above) o)) (filter p (x ∷ xs))) [
            | inl w ↦ let w' : is_hidden rules (filter p above) x ≡ true = same ∙ w in rw (w, t, w') rest
            | inr w ↦ let w' : is_hidden rules (filter p above) x ≡ false = same ∙ w in rw (w, t, w') (ap (λ z. x ∷ z) rest)
          ]
      | inr t ↦ elim (cases_Bool (is_hidden rules above x)) as (λ _. filter p (filter (λ o. not (is_hidden rules above o)) (x ∷ xs)) ≡ filter (λ o. not (is_hidden rules (filter p above) o)) (filter p (x ∷ xs))) [
        | inl w ↦ rw (w, t) rest
        | inr w ↦ rw (w, t) rest
      ]
    ]

-- what a test that matching objects share keeps of the layers
pub filter_stacked : (rules : Rules) (p : Seen ℕ → Bool) (above : List (Seen ℕ)) (layers : List (List (Seen ℕ))) → ((o u : Seen ℕ) → is_match rules o.bytes u.bytes ≡ true → p o ≡ true → p u ≡ true) → filter p (stacked_objects rules above layers) ≡ stacked_objects rules (filter p above) (map (filter p) layers)
filter_stacked rules p above [] h = refl
filter_stacked rules p above (layer ∷ lower) h =
    let rest = filter_stacked rules p (above ++ layer) lower h in
    filter-append p (filter (λ o. not (is_hidden rules above o)) layer) (stacked_objects rules (above ++ layer) lower)
    ∙ ap (λ z. z ++ filter p (stacked_objects rules (above ++ layer) lower)) (layer_filter rules p above layer h)
    ∙ ap (λ z. filter (λ o. not (is_hidden rules (filter p above) o)) (filter p layer) ++ z) (rest ∙ ap (λ z. stacked_objects rules z (map (filter p) lower)) (filter-append p above layer))

-- no object is greater than itself
pub itself : (rules : Rules) → AreOrdered rules → (x : Seen ℕ) → is_greater rules x.bytes x.bytes ≡ false
itself rules laws x = elim (cases_Bool (is_greater rules x.bytes x.bytes)) as (λ _. is_greater rules x.bytes x.bytes ≡ false) [
  | inl t ↦ laws.one x.bytes x.bytes t
  | inr t ↦ t
]

-- layers stay sorted without some of their objects
pub layers_filter : (rules : Rules) (p : Seen ℕ → Bool) (layers : List (List (Seen ℕ))) → AllByRecursion (AreSorted rules) layers → AllByRecursion (AreSorted rules) (map (filter p) layers)
layers_filter rules p [] s = tt
layers_filter rules p (layer ∷ lower) s = (sorted_filter rules p layer s.0, layers_filter rules p lower s.1)
