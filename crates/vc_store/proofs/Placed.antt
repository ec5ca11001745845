-- Dictionaries that stand at the places before their kinds' numbers.
use Rattle.vc_base.proofs.Common.{◌≡◌, ◌≢◌, ℕ, zero, suc, ◌+◌, ◌-◌, ◌<◌, ◌≤◌, true, false, List, [], ◌∷◌, length, drop, get_or, set, slice_get, Option, Some, None, is_some, refl, sym, ap, ◌∙◌, subst, inl, inr, arith, add-one, drop_all, eqb_tells, none-some, same_Some, true≢false, AllByRecursion}
use Rattle.std.proofs.lemmas.Option.{slice_get-get_or}
use Rattle.vc_base.proofs.Lists.{slice_get-set}
use Rattle.vc_dict.specs.declared.dict.Dict.{Dict}
use Rattle.vc_store.specs.Stores.Copies.{of_kind}
use Rattle.vc_store.specs.Stores.Loads.{HaveOwnKinds, with_kind}
use Rattle.vc_store.specs.Stores.Places.{CanStandAgain}
use Rattle.vc_store.specs.Stores.Stores.{joined}
use Rattle.vc_store.proofs.Here.{read-there}
use Rattle.vc_store.proofs.Numbers.{at-below, length-put, set-other}

-- what holds of each holds of the first of a kind
pub of-each : (P : Dict → Type 0) (kind : ℕ) (ds : List Dict) (d : Dict) → AllByRecursion P ds → with_kind kind ds ≡ Some d → P d
of-each P kind [] d all h = absurd (none-some d h)
of-each P kind (x ∷ xs) d all h = elim (eqb_tells x.kind kind) as (λ _. P d) [
  | inl same ↦ let q : Some x ≡ Some d = rw same.0 at h in subst P (same_Some x d q) all.0
  | inr apart ↦ let q : with_kind kind xs ≡ Some d = rw apart.0 at h in of-each P kind xs d all.1 q
]

pub kind-of : (kind : ℕ) (ds : List Dict) (d : Dict) → with_kind kind ds ≡ Some d → d.kind ≡ kind
kind-of kind [] d h = absurd (none-some d h)
kind-of kind (x ∷ xs) d h = elim (eqb_tells x.kind kind) as (λ _. d.kind ≡ kind) [
  | inl same ↦ let q : Some x ≡ Some d = rw same.0 at h in ap (λ (z : Dict). z.kind) (sym (same_Some x d q)) ∙ same.1
  | inr apart ↦ let q : with_kind kind xs ≡ Some d = rw apart.0 at h in kind-of kind xs d q
]

-- the first is the one of its kind, and not of another
pub first-of : (kind : ℕ) (x : Dict) (xs : List Dict) → x.kind ≡ kind → with_kind kind (x ∷ xs) ≡ Some x
first-of kind x xs e = elim (eqb_tells x.kind kind) as (λ _. with_kind kind (x ∷ xs) ≡ Some x) [
  | inl same ↦ rw same.0 refl
  | inr apart ↦ absurd (apart.1 e)
]

pub not-first : (kind : ℕ) (x : Dict) (xs : List Dict) → x.kind ≢ kind → with_kind kind (x ∷ xs) ≡ with_kind kind xs
not-first kind x xs ne = elim (eqb_tells x.kind kind) as (λ _. with_kind kind (x ∷ xs) ≡ with_kind kind xs) [
  | inl same ↦ absurd (ne same.1)
  | inr apart ↦ rw apart.0 refl
]

pub own-behind : (ds : List Dict) (i : ℕ) → HaveOwnKinds ds → HaveOwnKinds (drop i ds)
own-behind [] zero own = tt
own-behind [] (suc i) own = tt
own-behind (d ∷ ds) zero own = own
own-behind (d ∷ ds) (suc i) own = own-behind ds i own.1

all-at : {A : Type 0} (P : A → Type 0) (xs : List A) (i : ℕ) (x : A) → AllByRecursion P xs → slice_get xs i ≡ Some x → P x
all-at P [] i x all e = absurd (none-some x e)
all-at P (y ∷ ys) zero x all e = subst P (same_Some y x e) all.0
all-at P (y ∷ ys) (suc i) x all e = all-at P ys i x all.1 e

drop-at : {A : Type 0} (xs : List A) (i : ℕ) (x : A) → slice_get xs i ≡ Some x → drop i xs ≡ x ∷ drop (suc i) xs
drop-at [] i x e = absurd (none-some x e)
drop-at (y ∷ ys) zero x e = ap (λ z. z ∷ ys) (same_Some y x e)
drop-at (y ∷ ys) (suc i) x e = drop-at ys i x e

-- the dictionaries from a place on were placed
pub record Placed (ds : List Dict) (total from : ℕ) (places : List (Option Dict)) : Type 0 where
  pub left : from ≤ length ds
  pub count : length places ≡ total
  pub own : HaveOwnKinds (drop from ds)
  pub placed : (n : ℕ) → joined (slice_get places n) ≡ with_kind (n + 1) (drop from ds)

pub none-placed : (ds : List Dict) (left : ℕ) (places : List (Option Dict)) → left ≡ length ds → ((n : ℕ) → joined (slice_get places n) ≡ None) → Placed ds (length places) left places
none-placed ds left places end empty =
    let none : drop left ds ≡ [] = drop_all left ds (omega (arith, end)) in
    record {
      left = omega (arith, end);
      count = refl;
      own = subst HaveOwnKinds (sym none) tt;
      placed = λ n. empty n ∙ ap (with_kind (n + 1)) (sym none);
    }

pub all-placed : (ds : List Dict) (count left : ℕ) (places : List (Option Dict)) → Placed ds count left places → left ≡ 0 → HaveOwnKinds ds × ((n : ℕ) → joined (slice_get places n) ≡ with_kind (n + 1) ds)
all-placed ds count left places was e =
    let all : drop left ds ≡ ds = ap (λ i. drop i ds) e in
    (subst HaveOwnKinds all was.own, λ n. was.placed n ∙ ap (with_kind (n + 1)) all)

-- one more comes before them
module _ (ds : List Dict) (count left i n : ℕ) (places : List (Option Dict)) (d : Dict) (was : Placed ds count left places) (next : left ≡ i + 1) (at : slice_get ds i ≡ Some d) (fit : AllByRecursion (CanStandAgain count) ds) (place : n + 1 ≡ d.kind) where
  stands : CanStandAgain count d
  stands = all-at (CanStandAgain count) ds i d fit at

  pub place-there : n < length places
  place-there = let w = stands.within in let c = was.count in omega (arith, w, c, place)

  more : drop i ds ≡ d ∷ drop left ds
  more = drop-at ds i d at ∙ ap (λ j. d ∷ drop j ds) (sym (next ∙ add-one i))

  -- what stands at its place has its kind
  here-first : joined (slice_get places n) ≡ with_kind d.kind (drop left ds)
  here-first = was.placed n ∙ ap (λ k. with_kind k (drop left ds)) place

  pub not-own : (o : Option Dict) → joined (slice_get places n) ≡ o → is_some o ≡ true → HaveOwnKinds ds → ⊥
  not-own o read there own =
      let none : with_kind d.kind (drop left ds) ≡ None = (subst HaveOwnKinds more (own-behind ds i own)).0 in
      true≢false (sym there ∙ ap is_some (sym read ∙ (here-first ∙ none)))

  module _ (o : Option Dict) (read : joined (slice_get places n) ≡ o) (free : is_some o ≡ false) where
    none-there : with_kind d.kind (drop left ds) ≡ None
    none-there = sym here-first ∙ (read ∙ nothing o free)
      where
        nothing : (z : Option Dict) → is_some z ≡ false → z ≡ None
        nothing None e = refl
        nothing (Some x) e = absurd (cc)

    pub placed-more : (d' : Dict) → d' ≡ of_kind d.kind d → Placed ds count i (set places n (Some d'))
    placed-more d' copy =
        let low = was.left in
        record {
          left = omega (arith, low, next);
          count = length-put places n (Some d') ∙ was.count;
          own = subst HaveOwnKinds (sym more) (none-there, was.own);
          placed = λ m. elim (eqb_tells m n) as (λ _. joined (slice_get (set places n (Some d')) m) ≡ with_kind (m + 1) (drop i ds)) [
            | inl same ↦ here m same.1
            | inr apart ↦ there m apart.1
          ];
        }
      where
        here : (m : ℕ) → m ≡ n → joined (slice_get (set places n (Some d')) m) ≡ with_kind (m + 1) (drop i ds)
        here m e =
            let found = at-below places n place-there in
            ap (λ j. joined (slice_get (set places n (Some d')) j)) e
            ∙ (ap joined (slice_get-set places n found.0 (Some d') found.1)
            ∙ (ap Some (copy ∙ stands.again)
            ∙ (sym (first-of (m + 1) d (drop left ds) (sym place ∙ ap (λ j. j + 1) (sym e))) ∙ ap (with_kind (m + 1)) (sym more))))

        there : (m : ℕ) → m ≢ n → joined (slice_get (set places n (Some d')) m) ≡ with_kind (m + 1) (drop i ds)
        there m ne =
            ap joined (set-other places n m (Some d') ne)
            ∙ (was.placed m
            ∙ (sym (not-first (m + 1) d (drop left ds) (λ e. ne (omega (arith, e, place)))) ∙ ap (with_kind (m + 1)) (sym more)))

-- the dictionary before them, by the place of its kind
module _ (ds : List Dict) (total left : ℕ) (places : List (Option Dict)) (other : Dict) (was : Placed ds total left places) (some : 0 < left) (fit : AllByRecursion (CanStandAgain total) ds) where
  abbrev next : Dict
  next = get_or ds (left - 1) other

  next-at : slice_get ds (left - 1) ≡ Some next
  next-at = let low = was.left in slice_get-get_or ds (left - 1) other (omega (arith, low, some))

  its-place : (next.kind - 1) + 1 ≡ next.kind
  its-place = let fits = (all-at (CanStandAgain total) ds (left - 1) next fit next-at).some in omega (arith, fits)

  before : left ≡ (left - 1) + 1
  before = omega (arith, some)

  pub place-within : next.kind - 1 < length places
  place-within = place-there ds total left (left - 1) (next.kind - 1) places next was before next-at fit its-place

  pub not-own-next : (o : Option Dict) → o ≡ get_or places (next.kind - 1) o → is_some o ≡ true → HaveOwnKinds ds → ⊥
  not-own-next o read there own =
      not-own ds total left (left - 1) (next.kind - 1) places next was before next-at fit its-place o (read-there places (next.kind - 1) o place-within read) there own

  pub placed-next : (o : Option Dict) (d' : Dict) → o ≡ get_or places (next.kind - 1) o → is_some o ≡ false → d' ≡ of_kind next.kind next → Placed ds total (left - 1) (set places (next.kind - 1) (Some d'))
  placed-next o d' read free copy =
      placed-more ds total left (left - 1) (next.kind - 1) places next was before next-at fit its-place o (read-there places (next.kind - 1) o place-within read) free d' copy
