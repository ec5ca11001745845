-- A set of counted words, in ascending order: what one more word makes of it.
use Rattle.vc_base.proofs.Common.{◌≡◌, ℕ, ◌<◌, Bool, true, false, cond, List, [], ◌∷◌, Option, Some, None, is_some, bytes_eq, is_eq, is_gt, Ordering, Less, Equal, Greater, ordering_reverse, sym, refl, ap, ◌∙◌, subst}
use Rattle.std.proofs.lemmas.Cmp.{nat_list_cmp_total, tied_itself}
use Rattle.std.proofs.lemmas.Map.Text.{is_eq-slice_cmp}
use Rattle.vc_base.specs.declared.dict_method.DictMethod.TheVariants.{DtOset}
use Rattle.vc_dtdisc.specs.ShapeLaws.{equal_lists}
use Rattle.vc_dtdisc.specs.Shapes.{by_bytes}
use Rattle.vc_store.specs.Reading.{found, put_by_method, without_key}
use Rattle.words.specs.Counting.{count_found, put_in_set, stored_count, tally_rules, word_of}

-- the word of an object, and how often a set has counted a word
abbrev pub key_of : List ℕ → List ℕ
key_of object = tally_rules.key object

abbrev pub told : List ℕ → List (List ℕ) → ℕ
told word objects = count_found (found tally_rules word objects)

abbrev put_one : List ℕ → List (List ℕ) → List (List ℕ)
put_one object objects = put_by_method DtOset tally_rules None object objects

-- an object is of a word that was counted; each stands before all that are behind it
abbrev pub IsRow : List ℕ → Type 0
IsRow object = (word_of object ≡ key_of object) × (0 < stored_count object)

abbrev pub Above : List ℕ → List (List ℕ) → Type 0
Above word [] = Unit {0}
Above word (o ∷ os) = (by_bytes word (key_of o) ≡ Less) × Above word os

abbrev pub AreRows : List (List ℕ) → Type 0
AreRows [] = Unit {0}
AreRows (o ∷ os) = IsRow o × Above (key_of o) os × AreRows os

turned : (k w : List ℕ) → by_bytes w k ≡ Less → by_bytes k w ≡ Greater
turned k w e = nat_list_cmp_total.antisymm k w ∙ ap ordering_reverse e

turned-back : (k w : List ℕ) → by_bytes k w ≡ Greater → by_bytes w k ≡ Less
turned-back k w e = nat_list_cmp_total.antisymm w k ∙ ap ordering_reverse e

above-trans : (w k : List ℕ) (os : List (List ℕ)) → by_bytes w k ≡ Less → Above k os → Above w os
above-trans w k [] e a = tt
above-trans w k (o ∷ os) e a = (nat_list_cmp_total.trans w k (key_of o) e a.0, above-trans w k os e a.1)

-- a word below all of them isn't there
pub none-above : (w : List ℕ) (os : List (List ℕ)) → Above w os → found tally_rules w os ≡ None
none-above w [] a = refl
none-above w (o ∷ os) a =
    ap (λ c. cond (is_eq c) (Some o) (found tally_rules w os)) (turned (key_of o) w a.0) ∙ none-above w os a.1

kept-above : (w : List ℕ) (os : List (List ℕ)) → Above w os → without_key tally_rules w os ≡ os
kept-above w [] a = refl
kept-above w (o ∷ os) a =
    ap (λ c. cond (is_eq c) os (o ∷ without_key tally_rules w os)) (turned (key_of o) w a.0) ∙ ap (λ ys. o ∷ ys) (kept-above w os a.1)

first-above : (t w : List ℕ) (os : List (List ℕ)) → key_of t ≡ w → Above w os → put_one t os ≡ t ∷ os
first-above t w [] is a = refl
first-above t w (o ∷ os) is a =
    ap (λ c. cond (is_gt c) (t ∷ o ∷ os) (o ∷ put_one t os)) (ap (by_bytes (key_of o)) is ∙ turned (key_of o) w a.0)

none-left : (w : List ℕ) (os : List (List ℕ)) → AreRows os → found tally_rules w (without_key tally_rules w os) ≡ None
none-left w [] r = refl
none-left w (o ∷ os) r = by (none-left w os r.2) (by_bytes (key_of o) w) refl
  where
    by : found tally_rules w (without_key tally_rules w os) ≡ None → (c : Ordering) → by_bytes (key_of o) w ≡ c → found tally_rules w (cond (is_eq c) os (o ∷ without_key tally_rules w os)) ≡ None
    by rest Less e = ap (λ c. cond (is_eq c) (Some o) (found tally_rules w (without_key tally_rules w os))) e ∙ rest
    by rest Equal e = none-above w os (subst (λ k. Above k os) (equal_lists (key_of o) w e) r.1)
    by rest Greater e = ap (λ c. cond (is_eq c) (Some o) (found tally_rules w (without_key tally_rules w os))) e ∙ rest

-- an object in place of the one of its word, or where it belongs
abbrev choose : Ordering → List ℕ → List ℕ → List (List ℕ) → List (List ℕ) → List (List ℕ)
choose Less t o os rest = o ∷ rest
choose Equal t o os rest = t ∷ os
choose Greater t o os rest = t ∷ o ∷ os

abbrev pub placed : List ℕ → List ℕ → List (List ℕ) → List (List ℕ)
placed t w [] = t ∷ []
placed t w (o ∷ os) = choose (by_bytes (key_of o) w) t o os (placed t w os)

put-placed : (t w : List ℕ) (os : List (List ℕ)) → key_of t ≡ w → AreRows os → put_one t (without_key tally_rules w os) ≡ placed t w os
put-placed t w [] is r = refl
put-placed t w (o ∷ os) is r = by (put-placed t w os is r.2) (by_bytes (key_of o) w) refl
  where
    by : put_one t (without_key tally_rules w os) ≡ placed t w os → (c : Ordering) → by_bytes (key_of o) w ≡ c → put_one t (cond (is_eq c) os (o ∷ without_key tally_rules w os)) ≡ choose c t o os (placed t w os)
    by rest Less e =
        ap (λ c. cond (is_gt c) (t ∷ o ∷ without_key tally_rules w os) (o ∷ put_one t (without_key tally_rules w os))) (ap (by_bytes (key_of o)) is ∙ e)
        ∙ ap (λ ys. o ∷ ys) rest
    by rest Equal e = first-above t w os is (subst (λ k. Above k os) (equal_lists (key_of o) w e) r.1)
    by rest Greater e =
        ap (λ c. cond (is_gt c) (t ∷ o ∷ without_key tally_rules w os) (o ∷ put_one t (without_key tally_rules w os))) (ap (by_bytes (key_of o)) is ∙ e)
        ∙ ap (λ ys. t ∷ o ∷ ys) (kept-above w os (above-trans w (key_of o) os (turned-back (key_of o) w e) r.1))

pub set-placed : (t w : List ℕ) (os : List (List ℕ)) → key_of t ≡ w → AreRows os → put_in_set t (without_key tally_rules w os) ≡ placed t w os
set-placed t w os is r =
    ap (λ o. cond (is_some o) (without_key tally_rules w os) (put_one t (without_key tally_rules w os)))
    (ap (λ k. found tally_rules k (without_key tally_rules w os)) is ∙ none-left w os r)
    ∙ put-placed t w os is r

-- it stays in order
above-placed : (k t w : List ℕ) (os : List (List ℕ)) → by_bytes k w ≡ Less → key_of t ≡ w → Above k os → Above k (placed t w os)
above-placed k t w [] e is a = (ap (by_bytes k) is ∙ e, tt)
above-placed k t w (o ∷ os) e is a = by (above-placed k t w os e is a.1) (by_bytes (key_of o) w)
  where
    by : Above k (placed t w os) → (c : Ordering) → Above k (choose c t o os (placed t w os))
    by rest Less = (a.0, rest)
    by rest Equal = (ap (by_bytes k) is ∙ e, a.1)
    by rest Greater = (ap (by_bytes k) is ∙ e, a)

pub rows-placed : (t w : List ℕ) (os : List (List ℕ)) → IsRow t → key_of t ≡ w → AreRows os → AreRows (placed t w os)
rows-placed t w [] row is r = (row, tt, tt)
rows-placed t w (o ∷ os) row is r = by (rows-placed t w os row is r.2) (by_bytes (key_of o) w) refl
  where
    by : AreRows (placed t w os) → (c : Ordering) → by_bytes (key_of o) w ≡ c → AreRows (choose c t o os (placed t w os))
    by rest Less e = (r.0, above-placed (key_of o) t w os e is r.1, rest)
    by rest Equal e = (row, subst (λ k. Above k os) (equal_lists (key_of o) w e ∙ sym is) r.1, r.2)
    by rest Greater e =
        let lt : by_bytes (key_of t) (key_of o) ≡ Less =
        ap (λ k. by_bytes k (key_of o)) is ∙ turned-back (key_of o) w e in
        (row, (lt, above-trans (key_of t) (key_of o) os lt r.1), r)

-- what it tells of its word, and of others
pub told-own : (t w : List ℕ) (os : List (List ℕ)) → key_of t ≡ w → told w (placed t w os) ≡ stored_count t
told-own t w [] is =
    ap (λ c. count_found (cond (is_eq c) (Some t) None)) (ap (λ k. by_bytes k w) is ∙ tied_itself nat_list_cmp_total w)
told-own t w (o ∷ os) is = by (told-own t w os is) (by_bytes (key_of o) w) refl
  where
    tied : by_bytes (key_of t) w ≡ Equal
    tied = ap (λ k. by_bytes k w) is ∙ tied_itself nat_list_cmp_total w

    by : told w (placed t w os) ≡ stored_count t → (c : Ordering) → by_bytes (key_of o) w ≡ c → told w (choose c t o os (placed t w os)) ≡ stored_count t
    by rest Less e =
        ap (λ c. count_found (cond (is_eq c) (Some o) (found tally_rules w (placed t w os)))) e ∙ rest
    by rest Equal e = ap (λ c. count_found (cond (is_eq c) (Some t) (found tally_rules w os))) tied
    by rest Greater e = ap (λ c. count_found (cond (is_eq c) (Some t) (found tally_rules w (o ∷ os)))) tied

behind : (b : Bool) (o : List ℕ) (p q : Option (List ℕ)) → count_found p ≡ count_found q → count_found (cond b (Some o) p) ≡ count_found (cond b (Some o) q)
behind true o p q e = refl
behind false o p q e = e

pub told-other : (t w x : List ℕ) (os : List (List ℕ)) → key_of t ≡ w → bytes_eq w x ≡ false → told x (placed t w os) ≡ told x os
told-other t w x [] is apart =
    ap (λ b. count_found (cond b (Some t) None)) (ap (λ k. is_eq (by_bytes k x)) is ∙ (is_eq-slice_cmp w x ∙ apart))
told-other t w x (o ∷ os) is apart = by (told-other t w x os is apart) (by_bytes (key_of o) w) refl
  where
    unlike : is_eq (by_bytes (key_of t) x) ≡ false
    unlike = ap (λ k. is_eq (by_bytes k x)) is ∙ (is_eq-slice_cmp w x ∙ apart)

    by : told x (placed t w os) ≡ told x os → (c : Ordering) → by_bytes (key_of o) w ≡ c → told x (choose c t o os (placed t w os)) ≡ told x (o ∷ os)
    by rest Less e =
        behind (is_eq (by_bytes (key_of o) x)) o (found tally_rules x (placed t w os)) (found tally_rules x os) rest
    by rest Equal e =
        ap (λ b. count_found (cond b (Some t) (found tally_rules x os))) unlike
        ∙ sym (ap (λ b. count_found (cond b (Some o) (found tally_rules x os))) (ap (λ k. is_eq (by_bytes k x)) (equal_lists (key_of o) w e) ∙ (is_eq-slice_cmp w x ∙ apart)))
    by rest Greater e = ap (λ b. count_found (cond b (Some t) (found tally_rules x (o ∷ os)))) unlike
