-- Objects that a method keeps and those that it drops are together those that there were: by any count of them.
use Rattle.vc_base.proofs.Common.{◌≡◌, ℕ, ◌+◌, Bool, true, false, cond, List, [], ◌∷◌, ◌++◌, refl, arith, is_ordered, is_set}
use Rattle.vc_base.specs.declared.dict_method.DictMethod.{DictMethod}
use Rattle.vc_dtdisc.specs.Finding.{put_before}
use Rattle.vc_dtdisc.specs.Objects.{Object, bytes_of, dropped_behind, dropped_by, has_match, is_greater, kept_behind, kept_by, ordered_by, placed_among, placed_each}
use Rattle.vc_dtdisc.specs.Rules.{Rules}

module _ (weigh : Object → ℕ) where
  -- what objects count, one by one
  abbrev pub weight : List Object → ℕ
  weight [] = 0
  weight (o ∷ os) = weigh o + weight os

  weight-append : (xs ys : List Object) → weight (xs ++ ys) ≡ weight xs + weight ys
  weight-append [] ys = omega arith
  weight-append (x ∷ xs) ys = omega (arith, weight-append xs ys)

  put-if : (v : Bool) (o x : Object) (xs put : List Object) → weight put ≡ weigh o + weight xs → weight (cond v (o ∷ x ∷ xs) (x ∷ put)) ≡ weigh o + weight (x ∷ xs)
  put-if true o x xs put rest = refl
  put-if false o x xs put rest = omega (arith, rest)

  weight-put : (test : Object → Bool) (o : Object) (xs : List Object) → weight (put_before test o xs) ≡ weigh o + weight xs
  weight-put test o [] = refl
  weight-put test o (x ∷ xs) = put-if (test x) o x xs (put_before test o xs) (weight-put test o xs)

  weight-each : (rules : Rules) (done xs : List Object) → weight (placed_each bytes_of rules done xs) ≡ weight done + weight xs
  weight-each rules done [] = omega arith
  weight-each rules done (x ∷ xs) =
      omega (arith, weight-each rules (placed_among bytes_of rules x done) xs, weight-put (λ y. is_greater rules (bytes_of y) (bytes_of x)) x done)

  weight-ordered : (method : DictMethod) (rules : Rules) (xs : List Object) → weight (ordered_by bytes_of method rules xs) ≡ weight xs
  weight-ordered method rules xs = by (is_ordered method)
    where
      by : (v : Bool) → weight (cond v (placed_each bytes_of rules [] xs) xs) ≡ weight xs
      by true = let e = weight-each rules [] xs in omega (arith, e)
      by false = refl

  -- behind some that are kept
  behind-if : (v : Bool) (x : Object) (done xs kept dropped kept' dropped' : List Object) → weight kept + weight dropped ≡ weight done + weight xs → weight kept' + weight dropped' ≡ weight (done ++ x ∷ []) + weight xs → weight (cond v kept kept') + weight (cond v (x ∷ dropped) dropped') ≡ weight done + (weigh x + weight xs)
  behind-if true x done xs kept dropped kept' dropped' one two = omega (arith, one)
  behind-if false x done xs kept dropped kept' dropped' one two = omega (arith, two, weight-append done (x ∷ []))

  weight-behind : (rules : Rules) (done xs : List Object) → weight (kept_behind bytes_of rules done xs) + weight (dropped_behind bytes_of rules done xs) ≡ weight done + weight xs
  weight-behind rules done [] = omega arith
  weight-behind rules done (x ∷ xs) =
      behind-if (has_match bytes_of rules done x) x done xs (kept_behind bytes_of rules done xs) (dropped_behind bytes_of rules done xs)
      (kept_behind bytes_of rules (done ++ x ∷ []) xs) (dropped_behind bytes_of rules (done ++ x ∷ []) xs)
      (weight-behind rules done xs) (weight-behind rules (done ++ x ∷ []) xs)

  weight-kept : (method : DictMethod) (rules : Rules) (xs : List Object) → weight (kept_by bytes_of method rules xs) + weight (dropped_by bytes_of method rules xs) ≡ weight xs
  weight-kept method rules xs = by (is_set method)
    where
      by : (v : Bool) → weight (cond v (kept_behind bytes_of rules [] xs) xs) + weight (cond v (dropped_behind bytes_of rules [] xs) []) ≡ weight xs
      by true = let e = weight-behind rules [] xs in omega (arith, e)
      by false = omega arith

  -- in the order of the method
  pub weight-parted : (method : DictMethod) (rules : Rules) (xs : List Object) → weight (kept_by bytes_of method rules (ordered_by bytes_of method rules xs)) + weight (dropped_by bytes_of method rules (ordered_by bytes_of method rules xs)) ≡ weight xs
  weight-parted method rules xs = omega (arith, weight-kept method rules (ordered_by bytes_of method rules xs), weight-ordered method rules xs)
