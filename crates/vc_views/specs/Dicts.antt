-- The open dictionaries of a session, each over the cells of its region, as layers of view paths.
use Rattle.std.specs.Prelude.{◌≡◌, ℕ, ◌<◌, zero, suc, List, [], ◌∷◌, Bool, true, false, Option, Some, None, IsSome, find, map, slice_get, ◌==◌}
use Rattle.std.specs.List.{AllByRecursion}
use Rattle.std.specs.Str.{bytes_eq}
use Rattle.std.specs.declared.alloc.Global.{Global}
use Rattle.std.specs.declared.dyn_box.DynBox.{DynBox}
use Rattle.vc_model.specs.Numbered.{at_number}
use Rattle.vc_base.specs.declared.dict_method.DictMethod.TheVariants.{DtList}
use Rattle.vc_base.specs.Cells.{Blocks}
use Rattle.vc_base.specs.Holders.{AreDistinct, contains}
use Rattle.vc_dtdisc.specs.Rules.{Rules}
use Rattle.vc_dtdisc.specs.Shapes.{rules_of}
use Rattle.vc_dtdisc.specs.declared.shape.Shape.TheVariants.{Whole}
use Rattle.vc_paths.specs.Layers.{Layer, Layered}
use Rattle.vc_paths.specs.Links.{numbers}
use Rattle.vc_objects.specs.Objects.{Dictionary, own_blocks}
use Rattle.vc_objects.specs.Parts.{IsWhole, dictionary_of}
use Rattle.vc_region.specs.Cells.{cells_in, rest_in}
use Rattle.vc_region.specs.Parts.{disc_of}
use Rattle.vc_region.specs.Region.{Region, is_best}
use Rattle.vc_commands.specs.Looking.{current_or}
use Rattle.vc_commands.specs.declared.dict.entry.DictEntry.{DictEntry}
use Rattle.vc_commands.specs.declared.region.home.HomeEntry.{HomeEntry}

-- an open region, as dictionaries see it: its name, whether it is a best one, and its cells
pub record DictRegion : Type 0 where
  pub name : List ℕ
  pub best : Bool
  pub cells : Blocks

abbrev pub region_seen : {I : Type 0} {V : I → Type 0} → List ℕ × HomeEntry I V → DictRegion
region_seen e = record { name = e.0; best = is_best (rest_in e.1.region); cells = cells_in e.1.region }

abbrev pub is_region : List ℕ → DictRegion → Bool
is_region r h = bytes_eq h.name r

-- the first region of a name
abbrev pub region_named : List DictRegion → List ℕ → Option DictRegion
region_named regions r = find (is_region r) regions

-- the cells of a region, where it is open
abbrev pub cells_held : Option DictRegion → Blocks
cells_held None = λ a. None
cells_held (Some h) = h.cells

-- what a dictionary is over the cells of its region
abbrev pub dictionary_over : List DictRegion → List ℕ × DictEntry → Dictionary
dictionary_over regions e = dictionary_of e.1.dict (cells_held (region_named regions e.1.home))

-- the region of a dictionary is open and a best one, its kind is there, and it is whole over the region's cells
pub record IsDictOver (kinds : List Rules) (regions : List DictRegion) (e : List ℕ × DictEntry) : Type 0 where
  pub home : DictRegion
  pub found : region_named regions e.1.home ≡ Some home
  pub best : home.best ≡ true
  pub rules : Rules
  pub kind : at_number kinds e.1.dict.kind ≡ Some rules
  pub whole : IsWhole rules e.1.dict home.cells

-- two dictionaries of one region have no block in common
abbrev pub AreApartOver : List DictRegion → List ℕ × DictEntry → List ℕ × DictEntry → Type 0
AreApartOver regions e f =
    bytes_eq e.1.home f.1.home ≡ true
    → (a : ℕ) → contains (own_blocks (dictionary_over regions e)) a ≡ true → contains (own_blocks (dictionary_over regions f)) a ≡ false

-- each dictionary is whole in its region, and no two have a block in common
abbrev pub AreDictsOver : List Rules → List DictRegion → List (List ℕ × DictEntry) → Type 0
AreDictsOver kinds regions [] = Unit {0}
AreDictsOver kinds regions (e ∷ es) =
    IsDictOver kinds regions e × AllByRecursion (AreApartOver regions e) es × AreDictsOver kinds regions es

-- the number of a dictionary on view paths, and the first dictionary of a number
abbrev pub number_in : List ℕ × DictEntry → ℕ
number_in e = e.1.number

abbrev pub is_numbered : ℕ → List ℕ × DictEntry → Bool
is_numbered d e = number_in e == d

abbrev pub entry_numbered : ℕ → List (List ℕ × DictEntry) → Option (List ℕ × DictEntry)
entry_numbered d entries = find (is_numbered d) entries

-- no two dictionaries have one number, and each number is one of view paths
pub record HaveViewNumbers (entries : List (List ℕ × DictEntry)) : Type 0 where
  pub distinct : AreDistinct (map number_in entries)
  pub below : AllByRecursion (λ e. number_in e < numbers) entries

-- a dictionary under its name: the name of its region, its number on view paths, that of its kind, and what it is
pub record DictSeen : Type 0 where
  pub name : List ℕ
  pub home : List ℕ
  pub number : ℕ
  pub kind : ℕ
  pub dict : Dictionary

abbrev pub dict_seen : List DictRegion → List ℕ × DictEntry → DictSeen
dict_seen regions e =
    record {
      name = e.0;
      home = e.1.home;
      number = number_in e;
      kind = e.1.dict.kind;
      dict = dictionary_over regions e;
    }

-- rules, or those of whole keys where there are none
abbrev pub rules_or : Option Rules → Rules
rules_or None = rules_of Whole
rules_or (Some rules) = rules

-- a dictionary as a layer, and an empty one where there is none
abbrev pub layer_seen : List Rules → Option DictSeen → Layer
layer_seen kinds None = record { method = DtList; kind = 0; rules = rules_of Whole; objects = [] }
layer_seen kinds (Some s) =
    record {
      method = s.dict.method;
      kind = s.kind;
      rules = rules_or (at_number kinds s.kind);
      objects = s.dict.objects;
    }

abbrev pub layer_of : List Rules → List DictRegion → List ℕ × DictEntry → Layer
layer_of kinds regions e = layer_seen kinds (Some (dict_seen regions e))

-- all dictionaries are whole, and one of them has that number
pub record HasLayer (kinds : List Rules) (regions : List DictRegion) (entries : List (List ℕ × DictEntry)) (d : ℕ) : Type 0 where
  pub dicts : AreDictsOver kinds regions entries
  pub there : IsSome (entry_numbered d entries)

abbrev pub has_number : ℕ → DictSeen → Bool
has_number d s = s.number == d

-- the layers of a session: the dictionaries by their numbers
abbrev pub layered_by : List Rules → List DictRegion → List (List ℕ × DictEntry) → Layered
layered_by kinds regions entries =
    record {
      Has = HasLayer kinds regions entries;
      layer = λ d. layer_seen kinds (find (has_number d) (map (dict_seen regions) entries));
    }

-- what a look at a dictionary leaves of its region: the name, the place of its discipline, the region but for the bytes
-- in its cells, and the discipline
pub record HomeRest (I : Type 0) (V : I → Type 0) : Type 0 where
  pub name : List ℕ
  pub place : ℕ
  pub region : Region ℕ
  pub disc : DynBox I Global V

abbrev pub home_rest : {I : Type 0} {V : I → Type 0} → List ℕ × HomeEntry I V → HomeRest I V
home_rest e = record { name = e.0; place = e.1.place; region = rest_in e.1.region; disc = disc_of e.1.region }

-- with another current object in the dictionary at an index, where there is one
abbrev pub with_current : Option ℕ → DictSeen → DictSeen
with_current place s = record s { dict = record s.dict { current = current_or s.dict.current place } }

abbrev pub with_current_at : ℕ → Option ℕ → List DictSeen → List DictSeen
with_current_at i place [] = []
with_current_at zero place (s ∷ ss) = with_current place s ∷ ss
with_current_at (suc i) place (s ∷ ss) = s ∷ with_current_at i place ss

-- the number of the dictionary at an index, and 0 where there is none
abbrev pub number_or : Option (List ℕ × DictEntry) → ℕ
number_or None = 0
number_or (Some e) = number_in e

abbrev pub number_at : ℕ → List (List ℕ × DictEntry) → ℕ
number_at i entries = number_or (slice_get entries i)
