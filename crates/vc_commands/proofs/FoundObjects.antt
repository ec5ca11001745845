-- An object that is found lies in one of the holders.
use Rattle.vc_base.proofs.Common.{◌≡◌, ℕ, Bool, true, false, List, [], ◌∷◌, map, IfSome, if◌then◌else◌, Some, None, Option, option_map, find, sym, refl, ap, ◌∙◌, inl, inr, arith, eqb_tells, AllByRecursion, Blocks, HasBytes, contains, some_address}
use Rattle.vc_base.specs.declared.addr.Addr.{Addr}
use Rattle.vc_base.proofs.Members.{within-head, within-tail}
use Rattle.vc_dtdisc.specs.Objects.{Object, bytes_of, first_with, has_key}
use Rattle.vc_dtdisc.specs.Rules.{Rules}
use Rattle.vc_dtlist.specs.Linked.{number_of}
use Rattle.vc_dict.specs.declared.dict.Dict.{Dict}
use Rattle.vc_dict.specs.Listed.{holders_of}
use Rattle.vc_dict.proofs.OwnLemmas.{holder-address, holder-there}
use Rattle.vc_best.specs.Cells.{cells_in}
use Rattle.vc_best.specs.declared.best.Best.{Best}
use Rattle.vc_objects.specs.Objects.{Dictionary}
use Rattle.vc_objects.specs.Parts.{IsWhole, dictionary_in, object_of}
use Rattle.vc_commands.specs.DictRun.{IsOfHolder, object_in_holder}

-- what holds of each object holds of one that is found
module _ (P : Object → Type 0) where
  either : (b : Bool) (x y : Option Object) → IfSome x P → IfSome y P → IfSome (if b then x else y) P
  either true x y p q = p
  either false x y p q = q

  find-each : (p : Object → Bool) (os : List Object) → AllByRecursion P os → IfSome (find p os) P
  find-each p [] all = tt
  find-each p (o ∷ os) all = either (p o) (Some o) (find p os) all.0 (find-each p os all.1)

  pub with-each : (rules : Rules) (key : List ℕ) (os : List Object) → AllByRecursion P os → IfSome (first_with bytes_of rules key os) P
  with-each rules key os all = find-each (λ o. has_key rules key o.bytes) os all

-- an object is that of one of the holders
pub record IsHeld (b : Blocks) (xs : List ℕ) (o : Object) : Type 0 where
  pub within : contains xs o.at ≡ true
  pub same : o ≡ object_of b o.at

held-each : (b : Blocks) (xs ys : List ℕ) → ((a : ℕ) → contains ys a ≡ true → contains xs a ≡ true) → AllByRecursion (IsHeld b xs) (map (object_of b) ys)
held-each b xs [] among = tt
held-each b xs (y ∷ ys) among =
    (record { within = among y (within-head y ys); same = refl }, held-each b xs ys (λ a h. among a (within-tail y ys a h)))

module _ {I : Type 0} {V : I → Type 0} (d : Dict) (r : Best I V) where
  pub each-held : AllByRecursion (IsHeld (cells_in r) (holders_of d (cells_in r))) (dictionary_in d r).objects
  each-held = held-each (cells_in r) (holders_of d (cells_in r)) (holders_of d (cells_in r)) (λ a h. h)

  pub there-found : (o : Option Object) (at : Option Addr) → IfSome o (IsHeld (cells_in r) (holders_of d (cells_in r)))
      → option_map number_of at ≡ option_map (λ (x : Object). x.at) o → object_in_holder r at ≡ o
  there-found None None held e = refl
  there-found (Some o) (Some at) held e =
      grind (arith, e, held.same)
  there-found None (Some at) held e = grind (arith, e)
  there-found (Some o) None held e = grind (arith, e)

  pub within-found : (o : Option Object) (at : Option Addr) → IfSome o (IsHeld (cells_in r) (holders_of d (cells_in r)))
      → option_map number_of at ≡ option_map (λ (x : Object). x.at) o → IsOfHolder d r at
  within-found o None held e = tt
  within-found (Some o) (Some at) held e = grind (arith, e, held.within)
  within-found None (Some at) held e = grind (arith, e)

  -- what is found of a dictionary that is the same
  pub within-looked : (F : List Object → Option Object) → ((P : Object → Type 0) (os : List Object) → AllByRecursion P os → IfSome (F os) P) → (old : Dictionary) → dictionary_in d r ≡ old
      → (at : Option Addr) → option_map number_of at ≡ option_map (λ (x : Object). x.at) (F old.objects) → IsOfHolder d r at
  within-looked F each old e at h =
      within-found (F (dictionary_in d r).objects) at (each (IsHeld (cells_in r) (holders_of d (cells_in r))) (dictionary_in d r).objects each-held)
      (h ∙ ap (λ (x : Dictionary). option_map (λ (y : Object). y.at) (F x.objects)) (sym e))

  pub there-looked : (F : List Object → Option Object) → ((P : Object → Type 0) (os : List Object) → AllByRecursion P os → IfSome (F os) P) → (old : Dictionary) → dictionary_in d r ≡ old
      → (at : Option Addr) → option_map number_of at ≡ option_map (λ (x : Object). x.at) (F old.objects) → object_in_holder r at ≡ F old.objects
  there-looked F each old e at h =
      there-found (F (dictionary_in d r).objects) at (each (IsHeld (cells_in r) (holders_of d (cells_in r))) (dictionary_in d r).objects each-held)
      (h ∙ ap (λ (x : Dictionary). option_map (λ (y : Object). y.at) (F x.objects)) (sym e))
      ∙ ap (λ (x : Dictionary). F x.objects) e

  -- a holder has four words, and its address isn't 0
  pub holder-bytes : (rules : Rules) (a : ℕ) → IsWhole rules d (cells_in r) → contains (holders_of d (cells_in r)) a ≡ true → HasBytes (cells_in r) a 32
  holder-bytes rules a w h =
      let is = holder-there rules d (cells_in r) (holders_of d (cells_in r)) a w.stands h in
      let enough = is.enough in
      record { there = is.there; enough = omega (arith, enough) }

  pub some-holder : (rules : Rules) (a : ℕ) → IsWhole rules d (cells_in r) → contains (holders_of d (cells_in r)) a ≡ true → some_address a ≡ Some a
  some-holder rules a w h =
      let some = (holder-address rules d (cells_in r) (holders_of d (cells_in r)) a w.stands h).some in
      elim (eqb_tells a 0) as (λ _. some_address a ≡ Some a) [
        | inl none ↦ absurd (let no = none.1 in omega (arith, no, some))
        | inr apart ↦ rw apart.0 refl
      ]
