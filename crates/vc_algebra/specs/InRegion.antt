-- Dictionaries that lie in one region, as layers of view paths.
use Rattle.std.specs.Prelude.{◌≡◌, ℕ, ◌<◌, List, [], ◌∷◌, true, false, length, map, slice_get, Option, Some, None}
use Rattle.std.specs.List.{AllByRecursion}
use Rattle.vc_model.specs.Numbered.{at_number}
use Rattle.vc_base.specs.declared.dict_method.DictMethod.TheVariants.{DtList}
use Rattle.vc_base.specs.Cells.{Blocks}
use Rattle.vc_base.specs.Holders.{contains}
use Rattle.vc_dtdisc.specs.Rules.{IsObject, Rules}
use Rattle.vc_dtdisc.specs.Shapes.{rules_of}
use Rattle.vc_dtdisc.specs.declared.shape.Shape.TheVariants.{Whole}
use Rattle.vc_dict.specs.Listed.{holders_of}
use Rattle.vc_dict.specs.Stands.{Stands}
use Rattle.vc_dict.specs.declared.dict.Dict.{Dict}
use Rattle.vc_objects.specs.Objects.{Dictionary, own_blocks}
use Rattle.vc_objects.specs.Parts.{dictionary_of}
use Rattle.vc_paths.specs.Layers.{Layer, Layered}
use Rattle.vc_region.specs.Cells.{StaysButCells, cells_in, rest_in}
use Rattle.vc_region.specs.Region.{is_best}
use Rattle.vc_region.specs.declared.region.Region.{Region}

-- a dictionary over some cells: the number of its kind, and what it is
pub record HeldDict : Type 0 where
  pub kind : ℕ
  pub dict : Dictionary

abbrev pub held : Blocks → Dict → HeldDict
held cells d = record { kind = d.kind; dict = dictionary_of d cells }

-- rules, or those of whole keys where there are none
abbrev pub rules_or : Option Rules → Rules
rules_or None = rules_of Whole
rules_or (Some rules) = rules

-- a dictionary as a layer, and an empty one where there is none
abbrev pub layer_held : List Rules → Option HeldDict → Layer
layer_held kinds None = record { method = DtList; kind = 0; rules = rules_of Whole; objects = [] }
layer_held kinds (Some h) =
    record {
      method = h.dict.method;
      kind = h.kind;
      rules = rules_or (at_number kinds h.kind);
      objects = h.dict.objects;
    }

-- the kind of a dictionary is there, it stands for its holders by the kind's rules, and each object has 1 to 1,024 bytes
pub record IsDictIn (kinds : List Rules) (cells : Blocks) (d : Dict) : Type 0 where
  pub rules : Rules
  pub kind : at_number kinds d.kind ≡ Some rules
  pub stands : Stands rules d cells (holders_of d cells)
  pub objects : AllByRecursion (λ o. IsObject o.bytes) (dictionary_of d cells).objects

-- two dictionaries have no block in common
abbrev pub ShareNoBlock : Blocks → Dict → Dict → Type 0
ShareNoBlock cells d e =
    (a : ℕ) → contains (own_blocks (dictionary_of d cells)) a ≡ true → contains (own_blocks (dictionary_of e cells)) a ≡ false

-- each of these dictionaries lies in these cells, and no two have a block in common
abbrev pub AreDictsIn : List Rules → Blocks → List Dict → Type 0
AreDictsIn kinds cells [] = Unit {0}
AreDictsIn kinds cells (d ∷ ds) = IsDictIn kinds cells d × AllByRecursion (ShareNoBlock cells d) ds × AreDictsIn kinds cells ds

-- a best region holds all the dictionaries, and one of them has that number
pub record HasDictInRegion {I : Type 0} {V : I → Type 0} (kinds : List Rules) (r : Region I V) (ds : List Dict) (d : ℕ) : Type 0 where
  pub best : is_best (rest_in r) ≡ true
  pub dicts : AreDictsIn kinds (cells_in r) ds
  pub there : d < length ds

-- the dictionaries of a region as layers, by number from 0 on
abbrev pub layers_of_region : List Rules → Blocks → List Dict → ℕ → Layer
layers_of_region kinds cells dicts d = layer_held kinds (slice_get (map (held cells) dicts) d)

abbrev pub layered_in : {I : Type 0} {V : I → Type 0} → List Rules → Region I V → List Dict → Layered
layered_in kinds r ds =
    record {
      Has = HasDictInRegion kinds r ds;
      layer = layers_of_region kinds (cells_in r) ds;
    }

-- the region but for its cells, its discipline, and each dictionary with its current object stay
pub record KeepsDictsIn {I : Type 0} {V : I → Type 0} (r r' : Region I V) (ds ds' : List Dict) : Type 0 where
  pub region : StaysButCells r r'
  pub same : map (held (cells_in r')) ds' ≡ map (held (cells_in r)) ds

-- they all stay, and each dictionary still lies there
pub record LeavesDictsIn {I : Type 0} {V : I → Type 0} (kinds : List Rules) (r r' : Region I V) (ds ds' : List Dict) : Type 0 where
  pub dicts : AreDictsIn kinds (cells_in r') ds'
  pub keeps : KeepsDictsIn r r' ds ds'
