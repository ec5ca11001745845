-- What a call that looks at dictionaries leaves as it was.
use Rattle.std.specs.Prelude.{◌≡◌, ℕ, List, Some, true, false, map}
use Rattle.std.specs.Str.{bytes_eq}
use Rattle.vc_base.specs.Holders.{contains}
use Rattle.vc_dict.specs.declared.dict.Dict.{Dict}
use Rattle.vc_dtdisc.specs.Rules.{Rules}
use Rattle.vc_objects.specs.Objects.{own_blocks}
use Rattle.vc_objects.specs.Parts.{IsWhole, dictionary_of}
use Rattle.vc_commands.specs.declared.dict.entry.DictEntry.{DictEntry}
use Rattle.vc_commands.specs.declared.region.home.HomeEntry.{HomeEntry}
use Rattle.vc_views.specs.Dicts.{DictRegion, dict_seen, home_rest, region_named, region_seen}

-- the region of a name is open and a best one
pub record IsBestNamed (regions : List DictRegion) (r : List ℕ) : Type 0 where
  pub home : DictRegion
  pub found : region_named regions r ≡ Some home
  pub best : home.best ≡ true

-- of the region of that name, which stays a best one, the cells but for these addresses stay, and every other region does
pub record IsTouched (name mine : List ℕ) (old new : List DictRegion) : Type 0 where
  pub before : DictRegion
  pub after : DictRegion
  pub was : region_named old name ≡ Some before
  pub now : region_named new name ≡ Some after
  pub best : after.best ≡ true
  pub others : (a : ℕ) → contains mine a ≡ false → after.cells a ≡ before.cells a
  pub elsewhere : (r : List ℕ) → bytes_eq r name ≡ false → region_named new r ≡ region_named old r

-- a look at a dictionary of the region of that name leaves it whole and the same, and all but its blocks
pub record LooksAt (rules : Rules) (name : List ℕ) (regions : List DictRegion) (old : Dict) (regions' : List DictRegion) (new : Dict) : Type 0 where
  pub before : DictRegion
  pub was : region_named regions name ≡ Some before
  pub touched : IsTouched name (own_blocks (dictionary_of old before.cells)) regions regions'
  pub whole : IsWhole rules new touched.after.cells
  pub same : dictionary_of new touched.after.cells ≡ dictionary_of old before.cells
  pub kind : new.kind ≡ old.kind

-- the rules of the kinds, what a look leaves of each region, and each dictionary
pub record KeepsDicts {I : Type 0} {V : I → Type 0} (kinds kinds' : List Rules) (homes homes' : List (List ℕ × HomeEntry I V)) (dicts dicts' : List (List ℕ × DictEntry)) : Type 0 where
  pub rules : kinds' ≡ kinds
  pub rest : map home_rest homes' ≡ map home_rest homes
  pub seen : map (dict_seen (map region_seen homes')) dicts' ≡ map (dict_seen (map region_seen homes)) dicts
