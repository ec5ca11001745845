-- Putting an object into a dictionary: what it takes of the region, and what refuses it.
use Rattle.std.specs.Prelude.{◌≡◌, ℕ, List, Option, Some, None, Result, Ok, Err, IfOk, OnErr, false}
use Rattle.vc_base.specs.declared.fault.OutOfMemory.{OutOfMemory}
use Rattle.vc_model.specs.Discipline.{Discipline}
use Rattle.vc_model.specs.Layout.{Layout}
use Rattle.vc_dtdisc.specs.Rules.{Rules}
use Rattle.vc_dict.specs.declared.dict.Dict.{Dict}
use Rattle.vc_best.specs.Cells.{rest_in}
use Rattle.vc_best.specs.Parts.{disc_in}
use Rattle.vc_best.specs.declared.best.Best.{Best}
use Rattle.vc_objects.specs.Insert.{grow, insert, slots_wanted}
use Rattle.vc_objects.specs.Leaves.{AskedForObject, GivesInserted, IsHalted, no_holder, no_table}
use Rattle.vc_objects.specs.Objects.{Dictionary}
use Rattle.vc_objects.specs.Parts.{dictionary_in}
use Rattle.vc_objects.specs.declared.fate.Fate.{Fate}
use Rattle.vc_objects.specs.declared.fate.Fate.TheVariants.{Stored, NoTable, NoHolder}
use Rattle.vc_store.specs.declared.put.Put.{Put}
use Rattle.vc_store.specs.declared.put.Put.TheVariants as put

-- the answer to an object, by what became of it
abbrev pub told_as : Result Fate OutOfMemory → Put
told_as (Ok Stored) = put.New
told_as (Ok (NoTable want)) = put.NoSegment
told_as (Ok (NoHolder want)) = put.NoSegment
told_as (Err why) = put.OutOfMemory

-- so where one of a set may match it: then nothing becomes of it
abbrev pub told_put : Option (Result Fate OutOfMemory) → Put
told_put None = put.Old
told_put (Some fate) = told_as fate

-- an object was put into a dictionary of a region, or what it wants was refused: the table grows first where it must, then comes the holder, each by the region's rules
pub record TriesBy (answer : Put) (rules : Rules) (object : List ℕ)
    (old : Discipline) (r : Layout ℕ) (d : Dictionary)
    (new : Discipline) (r' : Layout ℕ) (d' : Dictionary) : Type 0 where
  pub fate : Result Fate OutOfMemory
  pub told : told_as fate ≡ answer
  pub ok : IfOk fate (λ f. GivesInserted
      (insert rules old.terms r 0 d false object (no_table f) (no_holder f)) r' d' f)
  pub err : OnErr fate (IsHalted (grow old.terms r 0 d false) r d r' d')
  pub asked : AskedForObject fate (slots_wanted d) object old new

abbrev pub TriesToPut : {I : Type 0} {V : I → Type 0} → ((x : I) × V x → Discipline)
    → Put → Rules → List ℕ → Best I V → Dict → Best I V → Dict → Type 0
TriesToPut meaning answer rules object before old after new =
    TriesBy answer rules object
    (disc_in meaning before) (rest_in before) (dictionary_in old before)
    (disc_in meaning after) (rest_in after) (dictionary_in new after)

-- so where the answer is none of these
abbrev pub IsTried : Put → Type 0 → Type 0
IsTried put.Old tries = Unit {0}
IsTried put.WrongSize tries = Unit {0}
IsTried put.New tries = tries
IsTried put.NoSegment tries = tries
IsTried put.OutOfMemory tries = tries
