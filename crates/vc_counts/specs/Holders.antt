-- What is known of a dictionary whose holders are gone along.
use Rattle.std.specs.Prelude.{◌≡◌, ℕ, List, Some, true}
use Rattle.vc_base.specs.Cells.{Blocks}
use Rattle.vc_commands.specs.Held.{Held}
use Rattle.vc_commands.specs.declared.dict.entry.DictEntry.{DictEntry}
use Rattle.vc_dict.specs.declared.dict.Dict.{Dict}
use Rattle.vc_dtdisc.specs.Rules.{Rules}
use Rattle.vc_objects.specs.Parts.{IsWhole}
use Rattle.vc_steps.specs.DictHomes.{AreDicts}
use Rattle.vc_views.specs.Dicts.{DictRegion, region_named}

-- it is whole over some cells, by some kind's rules
pub record IsSomeWhole (dict : Dict) (cells : Blocks) : Type 0 where
  pub rules : Rules
  pub whole : IsWhole rules dict cells

-- its region is open and a best one, and it is whole over the region's cells
pub record IsWholeIn (regions : List DictRegion) (e : DictEntry) : Type 0 where
  pub home : DictRegion
  pub found : region_named regions e.home ≡ Some home
  pub best : home.best ≡ true
  pub whole : IsSomeWhole e.dict home.cells

-- the dictionaries of a session are whole in their regions, by some kinds
pub record AreSomeDicts (held : List Held) (entries : List (List ℕ × DictEntry)) : Type 0 where
  pub kinds : List Rules
  pub dicts : AreDicts kinds held entries
