-- What a dictionary is on a view path: a layer of objects.
use Rattle.std.specs.Prelude.{◌≡◌, ℕ, Bool, true, List, Option, map, ◌==◌}
use Rattle.std.specs.List.{filter, find}
use Rattle.std.specs.Option.{option_map}
use Rattle.vc_base.specs.declared.dict_method.DictMethod.{DictMethod}
use Rattle.vc_base.specs.Holders.{AreDistinct}
use Rattle.vc_base.specs.Methods.{is_ordered}
use Rattle.vc_dtdisc.specs.Finding.{behind_last, before_first, first_of, last_of}
use Rattle.vc_dtdisc.specs.Objects.{IsSorted, Object, bytes_of, first_with, is_greater, is_match}
use Rattle.vc_dtdisc.specs.Rules.{AreLawful, Rules}

-- a dictionary: its method, the number of its kind, the kind's rules, and its objects in walk order
pub record Layer : Type 0 where
  pub method : DictMethod
  pub kind : ℕ
  pub rules : Rules
  pub objects : List Object

-- which numbers are dictionaries, and what each of these is
pub record Layered : Type 1 where
  pub Has : ℕ → Type 0
  pub layer : ℕ → Layer

-- what was a dictionary still is one, and each is as it was
pub record Same (old new : Layered) : Type 0 where
  pub has : (d : ℕ) → old.Has d → new.Has d
  pub layers : new.layer ≡ old.layer

-- the object at an address, and its bytes
abbrev pub stands_at : ℕ → Object → Bool
stands_at at o = o.at == at

abbrev pub bytes_there : ℕ → List Object → Option (List ℕ)
bytes_there at objects = option_map (λ o. o.bytes) (find (stands_at at) objects)

-- the place of an object, where there is one
abbrev pub place_in : Option Object → Option ℕ
place_in o = option_map (λ o. o.at) o

-- the places of the first object that has a key, and of the neighbours of one
abbrev pub place_with : Rules → List ℕ → List Object → Option ℕ
place_with rules key objects = place_in (first_with bytes_of rules key objects)

abbrev pub place_behind : ℕ → List Object → Option ℕ
place_behind at objects = place_in (behind_last (stands_at at) objects)

abbrev pub place_before : ℕ → List Object → Option ℕ
place_before at objects = place_in (before_first (stands_at at) objects)

-- the places of the last object that matches one, of the first that is greater, and of the last that is less
abbrev pub place_last_like : Rules → List ℕ → List Object → Option ℕ
place_last_like rules bytes objects = place_in (last_of (filter (λ o. is_match rules bytes o.bytes) objects))

abbrev pub place_greater : Rules → List ℕ → List Object → Option ℕ
place_greater rules bytes objects = place_in (first_of (filter (λ o. is_greater rules o.bytes bytes) objects))

abbrev pub place_less : Rules → List ℕ → List Object → Option ℕ
place_less rules bytes objects = place_in (last_of (filter (λ o. is_greater rules bytes o.bytes) objects))

-- the places of one dictionary are distinct, an ordered one stands in order of its keys, and the kinds of one number have the same rules, which are lawful
pub record AreLayers (all : Layered) : Type 0 where
  pub distinct : (d : ℕ) → all.Has d → AreDistinct (map (λ o. o.at) (all.layer d).objects)
  pub sorted : (d : ℕ) → all.Has d → is_ordered (all.layer d).method ≡ true
      → IsSorted bytes_of (all.layer d).rules (all.layer d).objects
  pub kinds : (d e : ℕ) → all.Has d → all.Has e → (all.layer d).kind ≡ (all.layer e).kind
      → (all.layer d).rules ≡ (all.layer e).rules
  pub lawful : (d : ℕ) → all.Has d → AreLawful (all.layer d).rules
