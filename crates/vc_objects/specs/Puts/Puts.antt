-- What becomes of an object that is put into a dictionary.
use Rattle.std.specs.Prelude.{◌≡◌, ℕ, List, Bool, Option, Some, None, is_some, Result, Ok, Err, ◌&&◌}
use Rattle.std.specs.Cmp.{IsTotalOrder}
use Rattle.vc_base.specs.declared.fault.OutOfMemory.{OutOfMemory}
use Rattle.vc_base.specs.Cells.{Blocks}
use Rattle.vc_base.specs.Methods.{is_set}
use Rattle.vc_seg.specs.declared.fault.RegionFault.{RegionFault}
use Rattle.vc_dtdisc.specs.Objects.{bytes_of, first_with}
use Rattle.vc_dtdisc.specs.Rules.{IsObject, Rules}
use Rattle.vc_dtord.specs.declared.dt_ord.DtOrd.{DtOrd}
use Rattle.vc_dict.specs.Listed.{holders_of}
use Rattle.vc_dict.specs.declared.dict.Dict.{Dict}
use Rattle.vc_dict.specs.declared.form.Form.TheVariants.{Order}
use Rattle.vc_objects.specs.Leaves.{want_by}
use Rattle.vc_objects.specs.Objects.{Dictionary}
use Rattle.vc_objects.specs.Parts.{IsWhole}
use Rattle.vc_objects.specs.declared.fate.Fate.{Fate}
use Rattle.vc_objects.specs.declared.fate.Fate.TheVariants.{Stored, NoHolder}
use Rattle.vc_objects.specs.declared.fate.Want.{Want}
use Rattle.vc_objects.specs.Puts.Joins.{LacksKey}

-- whether an object of a set matches
abbrev pub is_matched : Rules → List ℕ → Dictionary → Bool
is_matched rules bytes d = is_set d.method && is_some (first_with bytes_of rules (rules.key bytes) d.objects)

-- what becomes of an object that wants no table, by the answer for its holder
abbrev pub told_want : Option Want → Result Fate OutOfMemory
told_want (Some want) = Ok (NoHolder want)
told_want None = Err (record {})

abbrev pub told_by : Result Unit RegionFault → Result Fate OutOfMemory
told_by (Ok done) = Ok Stored
told_by (Err fault) = told_want (want_by fault)

-- an object may join a whole ordered dictionary at the place that was read down to with its key
pub record CanHold (rules : Rules) (dict : Dict) (blocks : Blocks) (ord : DtOrd) (bytes : List ℕ) (above : ℕ) (left : Bool) : Type 0 where
  pub whole : IsWhole rules dict blocks
  pub form : dict.heads ≡ Order ord
  pub order : IsTotalOrder rules.compare
  pub object : IsObject bytes
  pub start : ℕ
  pub now : ℕ
  pub place : LacksKey rules ord blocks (rules.key bytes) (holders_of dict blocks) above left start now
