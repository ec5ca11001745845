-- Dictionaries of a region that get objects.
use Rattle.std.specs.Prelude.{◌≡◌, ℕ, Bool, true, false, List, Option, Some, None, IsSome, Result, Ok, Err, map, slice_get, slice_set, nat_lt, ◌==◌, ◌&&◌}
use Rattle.std.specs.List.{AllByRecursion}
use Rattle.vc_model.specs.Discipline.{Discipline, HasOut, Terms}
use Rattle.vc_model.specs.Layout.{Layout}
use Rattle.vc_model.specs.Numbered.{at_number}
use Rattle.vc_base.specs.declared.fault.OutOfMemory.{OutOfMemory}
use Rattle.vc_base.specs.Holders.{contains}
use Rattle.vc_base.specs.Methods.{has_table, method_number}
use Rattle.vc_dtdisc.specs.Objects.{address_of}
use Rattle.vc_dtdisc.specs.Rules.{Rules}
use Rattle.vc_dict.specs.declared.dict.Dict.{Dict}
use Rattle.vc_objects.specs.Insert.{grow, insert}
use Rattle.vc_objects.specs.Leaves.{GivesInserted, IsHalted, no_holder, no_table}
use Rattle.vc_objects.specs.Objects.{Dictionary}
use Rattle.vc_objects.specs.declared.fate.Fate.{Fate}
use Rattle.vc_objects.specs.Puts.Puts.{is_matched}
use Rattle.vc_paths.specs.Layers.{Layer}
use Rattle.vc_region.specs.Cells.{cells_in, rest_in}
use Rattle.vc_region.specs.Parts.{disc_in, segments_in}
use Rattle.vc_region.specs.Region.{OfBest, is_best}
use Rattle.vc_region.specs.declared.region.Region.{Region}
use Rattle.vc_algebra.specs.InRegion.{AreDictsIn, HeldDict, held}

-- its current object is none or one of its own, and a set or bag has a table
pub record IsReadyToFill (d : Dictionary) : Type 0 where
  pub current : (at : ℕ) → d.current ≡ Some at → contains (map address_of d.objects) at ≡ true
  pub table : has_table d.method ≡ true → IsSome d.table

-- what a region's dictionaries hold
abbrev pub helds : {I : Type 0} {V : I → Type 0} → Region I V → List Dict → List HeldDict
helds r ds = map (held (cells_in r)) ds

-- the dictionaries of a best region may get objects: they lie there, each is settled, and the region's segments are the last
-- that its discipline lent
pub record CanFillIn {I : Type 0} {V : I → Type 0} (meaning : (x : I) × V x → Discipline) (kinds : List Rules) (r : Region I V) (ds : List Dict) : Type 0 where
  pub best : is_best (rest_in r) ≡ true
  pub dicts : AreDictsIn kinds (cells_in r) ds
  pub settled : AllByRecursion (λ h. IsReadyToFill h.dict) (helds r ds)
  pub lent : HasOut (disc_in meaning r) (segments_in r)

-- what becomes of an object, the region and the dictionary, by the terms of the discipline: nothing, with a set that has one
-- which matches, and else what an object's putting gives
abbrev pub IsPutOrMatched : Result (Option Fate) OutOfMemory → Terms → Rules → List ℕ → Layout ℕ → Dictionary → Layout ℕ → Dictionary → Type 0
IsPutOrMatched (Ok None) terms rules bytes r d r' d' = (is_matched rules bytes d ≡ true) × (r' ≡ r) × (d' ≡ d)
IsPutOrMatched (Ok (Some fate)) terms rules bytes r d r' d' =
    (is_matched rules bytes d ≡ false)
    × GivesInserted (insert rules terms r 0 d false bytes (no_table fate) (no_holder fate)) r' d' fate
IsPutOrMatched (Err why) terms rules bytes r d r' d' =
    (is_matched rules bytes d ≡ false) × IsHalted (grow terms r 0 d false) r d r' d'

-- so of the dictionary of a number; the others stay
pub record FillsDict {I : Type 0} {V : I → Type 0} (meaning : (x : I) × V x → Discipline) (kinds : List Rules) (result : Result (Option Fate) OutOfMemory) (d : ℕ) (bytes : List ℕ) (r r' : Region I V) (ds ds' : List Dict) : Type 0 where
  pub before : Layout ℕ
  pub was : rest_in r ≡ OfBest before
  pub after : Layout ℕ
  pub now : rest_in r' ≡ OfBest after
  pub old : HeldDict
  pub there : slice_get (helds r ds) d ≡ Some old
  pub rules : Rules
  pub kind : at_number kinds old.kind ≡ Some rules
  pub new : Dictionary
  pub others : helds r' ds' ≡ slice_set (helds r ds) d (record { kind = old.kind; dict = new })
  pub put : IsPutOrMatched result (disc_in meaning r).terms rules bytes before old.dict after new

-- whether a number is that of a dictionary of the method and the kind of another one, among so many
abbrev pub is_like : ℕ → (ℕ → Layer) → ℕ → ℕ → Bool
is_like count layer d e =
    nat_lt e count && (method_number (layer e).method == method_number (layer d).method)
    && ((layer e).kind == (layer d).kind)
