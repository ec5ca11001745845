-- What the dictionaries of a session stand for.
use Rattle.std.specs.Prelude.{◌≡◌, ℕ, List, [], ◌∷◌, Bool, Option, Some, None, true, false, map}
use Rattle.std.specs.List.{AllByRecursion, list_any, position}
use Rattle.std.specs.Map.{keys_of}
use Rattle.std.specs.Str.{bytes_eq}
use Rattle.vc_base.specs.Cells.{Blocks}
use Rattle.vc_base.specs.Holders.{contains}
use Rattle.vc_model.specs.Numbered.{at_number}
use Rattle.vc_dtdisc.specs.Rules.{Rules}
use Rattle.vc_objects.specs.Objects.{Dictionary, own_blocks}
use Rattle.vc_objects.specs.Parts.{IsWhole, dictionary_of}
use Rattle.vc_region.specs.Region.{is_best}
use Rattle.vc_views.specs.Numbers.{home_by}
use Rattle.vc_views.specs.Views.{DictHome}
use Rattle.vc_commands.specs.declared.dict.entry.DictEntry.{DictEntry}
use Rattle.vc_commands.specs.Held.{Held}
use Rattle.vc_steps.specs.Account.{held_named}

-- the cells of a region, where it is open
abbrev pub cells_of_held : Option Held → Blocks
cells_of_held None = λ a. None
cells_of_held (Some h) = h.cells

-- the cells of the region of that name
abbrev pub cells_named : List Held → List ℕ → Blocks
cells_named held r = cells_of_held (held_named held (Some r))

-- what a dictionary is over the cells of its region
abbrev pub dict_over : List Held → List ℕ × DictEntry → Dictionary
dict_over held e = dictionary_of e.1.dict (cells_named held e.1.home)

-- a dictionary under its name; `views` tells what a number views, by name
abbrev pub dict_home : List Held → (ℕ → Option (List ℕ)) → List ℕ × DictEntry → DictHome
dict_home held views e = home_by (dict_over held) views e

-- those of a session, in order
abbrev pub dicts_in : List Held → (ℕ → Option (List ℕ)) → List (List ℕ × DictEntry) → List DictHome
dicts_in held views entries = map (dict_home held views) entries

-- the region of a dictionary is open and a best one, its kind is there, and it is whole over the region's cells
pub record IsDictOf (kinds : List Rules) (held : List Held) (e : List ℕ × DictEntry) : Type 0 where
  pub home : Held
  pub found : held_named held (Some e.1.home) ≡ Some home
  pub best : is_best home.region ≡ true
  pub rules : Rules
  pub kind : at_number kinds e.1.dict.kind ≡ Some rules
  pub whole : IsWhole rules e.1.dict home.cells

-- two dictionaries of one region have no block in common
abbrev pub AreApartIn : List Held → List ℕ × DictEntry → List ℕ × DictEntry → Type 0
AreApartIn held e f =
    bytes_eq e.1.home f.1.home ≡ true
    → (a : ℕ) → contains (own_blocks (dict_over held e)) a ≡ true → contains (own_blocks (dict_over held f)) a ≡ false

-- each dictionary is whole in its region, and no two have a block in common
abbrev pub AreDicts : List Rules → List Held → List (List ℕ × DictEntry) → Type 0
AreDicts kinds held [] = Unit {0}
AreDicts kinds held (e ∷ es) = IsDictOf kinds held e × AllByRecursion (AreApartIn held e) es × AreDicts kinds held es

-- whether one of these dictionaries lies in the region of that name
abbrev pub lies_in : List ℕ → List (List ℕ × DictEntry) → Bool
lies_in r entries = list_any (λ e. bytes_eq e.1.home r) entries

-- the index of the dictionary of that name, from 0 on
abbrev pub dict_index : List ℕ → List (List ℕ × DictEntry) → Option ℕ
dict_index d entries = position (bytes_eq d) (keys_of entries)
