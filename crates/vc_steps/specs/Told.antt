-- What kinds are told of: the objects that go, each with the number of its kind, from 1 on.
use Rattle.std.specs.Prelude.{◌≡◌, ℕ, ◌-◌, List, [], ◌∷◌, Option, Some, None, map, slice_set}
use Rattle.std.specs.List.{flat_map}
use Rattle.vc_model.specs.Numbered.{at_number}
use Rattle.vc_dtdisc.specs.Rules.{Gone, Rules, gone_after}
use Rattle.vc_objects.specs.Remove.{bytes_of}
use Rattle.vc_steps.specs.Dicts.{told_of}
use Rattle.vc_steps.specs.State.{State}

-- the rules of kinds
abbrev pub rules_in : {K : Type 0} → (K → Rules) → List K → List Rules
rules_in rules kinds = map rules kinds

-- kinds have the rules that they had
abbrev pub KeepRules : {K : Type 0} → (K → Rules) → List K → List K → Type 0
KeepRules rules old new = rules_in rules new ≡ rules_in rules old

-- what kinds were told of
abbrev pub gone_in : {K : Type 0} → (K → Gone) → List K → List Gone
gone_in gone kinds = map gone kinds

abbrev pub told_at : List Gone → ℕ → List ℕ → Option Gone → List Gone
told_at gone number obj None = gone
told_at gone number obj (Some before) = slice_set gone (number - 1) (gone_after before obj)

-- the kind of that number is told of one object
abbrev pub tell_one : ℕ × List ℕ → List Gone → List Gone
tell_one told gone = told_at gone told.0 told.1 (at_number gone told.0)

-- kinds are told of objects, in order
abbrev pub tell : List (ℕ × List ℕ) → List Gone → List Gone
tell [] gone = gone
tell (one ∷ rest) gone = tell rest (tell_one one gone)

-- what the end of a session tells: the objects of all its dictionaries, in order of opening
abbrev pub ended_told : State → List (ℕ × List ℕ)
ended_told s = flat_map (λ d. told_of d.kind (bytes_of d.dict.objects)) s.dicts
