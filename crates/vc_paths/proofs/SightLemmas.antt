-- What is seen through a dictionary stands in the dictionaries of its path, and only one object at each place.
use Rattle.vc_base.proofs.Common.{◌≡◌, ℕ, Bool, true, false, cond, List, [], ◌∷◌, ◌++◌, map, ◌==◌, Some, None, Option, find, sym, refl, ap, ◌∙◌, subst, inl, inr, append_assoc, eq-eqb, eqb-true, and_parts, cases_Bool, none-some, same_Some, AllByRecursion, AreDistinct, is_ordered}
use Rattle.vc_dtdisc.specs.Objects.{Object, placed_each}
use Rattle.vc_dtdisc.specs.Rules.{Rules}
use Rattle.vc_dtdisc.specs.Finding.{before_first_from, behind_last, last_from, last_of}
use Rattle.vc_paths.specs.Layers.{AreLayers, Layered, bytes_there}
use Rattle.vc_paths.specs.Links.{Links, path}
use Rattle.vc_paths.specs.Path.{IsAlike, IsPath, is_at, objects_of, place_of, seen_in, visible_of}
use Rattle.vc_paths.specs.Visible.{Seen, seen_bytes, stacked_objects}
use Rattle.vc_paths.proofs.PlaceLemmas.{there-at}
use Rattle.vc_paths.proofs.SortedLemmas.{all_sorted, all_stacked}

-- an object that is seen stands in its dictionary, which is like the one that it is seen through
pub record IsThere (all : Layered) (d : ℕ) (o : Seen ℕ) : Type 0 where
  pub alike : IsAlike all d o.dict
  pub bytes : bytes_there o.at (all.layer o.dict).objects ≡ Some o.bytes

pub each-there : (all : Layered) (d e : ℕ) (xs ys : List Object) → IsAlike all d e → (all.layer e).objects ≡ xs ++ ys → AreDistinct (map (λ o. o.at) (all.layer e).objects) → AllByRecursion (IsThere all d) (map (seen_in e) ys)
each-there all d e xs [] h w apart = tt
each-there all d e xs (y ∷ ys) h w apart = (
  record {
    alike = h;
    bytes = ap (bytes_there y.at) w ∙ there-at xs y ys (subst (λ z. AreDistinct (map (λ o. o.at) z)) w apart);
  },
  each-there all d e (xs ++ y ∷ []) ys h (w ∙ sym (append_assoc xs (y ∷ []) ys)) apart,
)

pub layers-there : (all : Layered) (d : ℕ) (es : List ℕ) → AreLayers all → AllByRecursion (IsAlike all d) es → AllByRecursion (AllByRecursion (IsThere all d)) (map (objects_of all) es)
layers-there all d [] lawful a = tt
layers-there all d (e ∷ es) lawful a = (
  each-there all d e [] (all.layer e).objects a.0 refl (lawful.distinct e a.0.there),
  layers-there all d es lawful a.1,
)

ordered-there : (all : Layered) (d : ℕ) (t : Bool) (rules : Rules) (xs : List (Seen ℕ)) → AllByRecursion (IsThere all d) xs → AllByRecursion (IsThere all d) (cond t (placed_each seen_bytes rules [] xs) xs)
ordered-there all d true rules xs h = all_sorted rules (IsThere all d) [] xs tt h
ordered-there all d false rules xs h = h

pub visible-there : (all : Layered) (links : Links) (d : ℕ) → AreLayers all → IsPath all links d → AllByRecursion (IsThere all d) (visible_of all links d)
visible-there all links d lawful p =
    let rules = (all.layer d).rules in
    let layers = map (objects_of all) (path links d) in
    ordered-there all d (is_ordered (all.layer d).method) rules (stacked_objects rules [] layers)
    (all_stacked rules (IsThere all d) [] layers (layers-there all d (path links d) lawful p.alike))

-- two objects at one place are one
pub one-there : (all : Layered) (d : ℕ) (x y : Seen ℕ) → IsThere all d x → IsThere all d y → is_at (place_of x) y ≡ true → y.bytes ≡ x.bytes
one-there all d x y tx ty h =
    let parts = and_parts (y.dict == x.dict) (y.at == x.at) h in
    let dict = eqb-true y.dict x.dict parts.0 in
    let at = eqb-true y.at x.at parts.1 in
    same_Some y.bytes x.bytes
    (sym ty.bytes ∙ ap (λ z. bytes_there z (all.layer y.dict).objects) at ∙ ap (λ z. bytes_there x.at (all.layer z).objects) dict ∙ tx.bytes)

pub at-itself : (x : Seen ℕ) → is_at (place_of x) x ≡ true
at-itself x = rw (eq-eqb x.dict x.dict refl, eq-eqb x.at x.at refl) refl

-- what is found is one of the list, and passes
pub all-found : {A : Type 0} (P : A → Type 0) (t : A → Bool) (xs : List A) (x : A) → AllByRecursion P xs → find t xs ≡ Some x → P x × (t x ≡ true)
all-found P t [] x h e = absurd (none-some x e)
all-found P t (y ∷ ys) x h e = elim (cases_Bool (t y)) as (λ _. P x × (t x ≡ true)) [
  | inl k ↦ let same = one (rw k at e) in subst (λ z. P z × (t z ≡ true)) same (h.0, k)
  | inr k ↦ all-found P t ys x h.1 (rw k at e)
]
  where
    one : Some y ≡ Some x → y ≡ x
    one h = cc

-- so is the last
each-last : {A : Type 0} (P : A → Type 0) (o : Option A) (xs : List A) (x : A) → ((y : A) → o ≡ Some y → P y) → AllByRecursion P xs → last_from o xs ≡ Some x → P x
each-last P o [] x b h e = b x e
each-last P o (y ∷ ys) x b h e = each-last P (Some y) ys x (λ z k. let same : y ≡ z = cc in subst P same h.0) h.1 e

pub all-last : {A : Type 0} (P : A → Type 0) (xs : List A) (x : A) → AllByRecursion P xs → last_of xs ≡ Some x → P x
all-last P xs x h e = each-last P None xs x (λ y k. absurd (none-some y k)) h e

-- where none is found, none has a neighbour
pub none-before : {A : Type 0} (t : A → Bool) (o : Option A) (xs : List A) → find t xs ≡ None → before_first_from o t xs ≡ None
none-before t o [] h = refl
none-before t o (x ∷ xs) h = elim (cases_Bool (t x)) as (λ _. before_first_from o t (x ∷ xs) ≡ None) [
  | inl k ↦ absurd (none-some x (sym (rw k at h)))
  | inr k ↦ rw k (none-before t (Some x) xs (rw k at h))
]

pub none-behind : {A : Type 0} (t : A → Bool) (xs : List A) → find t xs ≡ None → behind_last t xs ≡ None
none-behind t [] h = refl
none-behind t (x ∷ xs) h = elim (cases_Bool (t x)) as (λ _. behind_last t (x ∷ xs) ≡ None) [
  | inl k ↦ absurd (none-some x (sym (rw k at h)))
  | inr k ↦ rw k (none-behind t xs (rw k at h))
]
