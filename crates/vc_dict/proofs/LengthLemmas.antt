-- How long a dictionary's list is after a change.
use Rattle.vc_base.proofs.Common.{◌≡◌, ℕ, ◌+◌, Bool, true, false, List, [], ◌∷◌, ◌++◌, length, if◌then◌else◌, ◌==◌, Some, None, Option, arith, length-append, Blocks, some_address}
use Rattle.vc_base.specs.declared.dict_method.DictMethod.{DictMethod}
use Rattle.vc_base.specs.declared.dict_method.DictMethod.TheVariants.{DtSet, DtBag, DtOset, DtObag, DtList, DtStack, DtQueue}
use Rattle.vc_dtdisc.specs.Rules.{Rules}
use Rattle.vc_dtdisc.specs.Finding.{put_before, put_behind}
use Rattle.vc_dtdisc.specs.Objects as objects
use Rattle.vc_dtord.specs.Ordered.{is_less, order_with}
use Rattle.vc_dict.specs.Changes.{behind_current, order_by_insert, order_by_link}

by_test : (t : Bool) (at x : ℕ) (xs ys : List ℕ) → length ys ≡ length xs + 1 → length (if t then at ∷ x ∷ xs else x ∷ ys) ≡ length (x ∷ xs) + 1
by_test true at x xs ys e = omega arith
by_test false at x xs ys e = omega (arith, e)

pub length-put_before : (test : ℕ → Bool) (at : ℕ) (xs : List ℕ) → length (put_before test at xs) ≡ length xs + 1
length-put_before test at [] = omega arith
length-put_before test at (x ∷ xs) = by_test (test x) at x xs (put_before test at xs) (length-put_before test at xs)

pub length-placed : (rules : Rules) (b : Blocks) (at : ℕ) (xs : List ℕ) → length (order_with rules b at xs) ≡ length xs + 1
length-placed rules b at xs = length-put_before (is_less rules b at) at xs

by_mark : (t : Bool) (at x : ℕ) (xs ys : List ℕ) → length ys ≡ length xs + 1 → length (if t then x ∷ at ∷ xs else x ∷ ys) ≡ length (x ∷ xs) + 1
by_mark true at x xs ys e = omega arith
by_mark false at x xs ys e = omega (arith, e)

length-put_behind : (test : ℕ → Bool) (at : ℕ) (xs : List ℕ) → length (put_behind test at xs) ≡ length xs + 1
length-put_behind test at [] = omega arith
length-put_behind test at (x ∷ xs) = by_mark (test x) at x xs (put_behind test at xs) (length-put_behind test at xs)

length-last : (at : ℕ) (xs : List ℕ) → length (xs ++ at ∷ []) ≡ length xs + 1
length-last at xs = length-append xs (at ∷ [])

length-before : (current : Option ℕ) (at : ℕ) (xs : List ℕ) → length (objects.put_before_current (λ a. a) current at xs) ≡ length xs + 1
length-before None at xs = omega arith
length-before (Some current) at xs = length-put_before (λ x. x == current) at xs

length-behind : (current : Option ℕ) (at : ℕ) (xs : List ℕ) → length (objects.put_behind_current (λ a. a) current at xs) ≡ length xs + 1
length-behind None at xs = length-last at xs
length-behind (Some current) at xs = length-put_behind (λ x. x == current) at xs

either : (t : Bool) (xs ys : List ℕ) (n : ℕ) → length xs ≡ n → length ys ≡ n → length (if t then xs else ys) ≡ n
either true xs ys n e f = e
either false xs ys n e f = f

length-inserted : (method : DictMethod) (rules : Rules) (b : Blocks) (current at : ℕ) (xs : List ℕ) → length (order_by_insert method rules b current at xs) ≡ length xs + 1
length-inserted DtSet rules b current at xs = length-last at xs
length-inserted DtBag rules b current at xs = length-last at xs
length-inserted DtOset rules b current at xs = length-placed rules b at xs
length-inserted DtObag rules b current at xs = length-placed rules b at xs
length-inserted DtList rules b current at xs = length-before (some_address current) at xs
length-inserted DtStack rules b current at xs = omega arith
length-inserted DtQueue rules b current at xs = length-last at xs

pub length-linked : (append : Bool) (method : DictMethod) (rules : Rules) (b : Blocks) (current at : ℕ) (xs : List ℕ) → length (order_by_link append method rules b current at xs) ≡ length xs + 1
length-linked append method rules b current at xs =
    either append (behind_current current at xs) (order_by_insert method rules b current at xs) (length xs + 1)
    (length-behind (some_address current) at xs)
    (length-inserted method rules b current at xs)
