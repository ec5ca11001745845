-- What a comparison promises.
use Rattle.std.specs.Prelude.{◌≡◌, ◌⊎◌, ℕ, ◌<◌, ◌≤◌, List, Option, IfSome, codes}
use Rattle.vc_model.specs.Count.{Rose}
use Rattle.vc_model.specs.Discipline.{Discipline}
use Rattle.vc_model.specs.Outcome as outcome
use Rattle.vc_script.specs.Judged.{judged_lines}
use Rattle.vc_compare.specs.declared.ending.Ending.{Ending}
use Rattle.vc_compare.specs.declared.ending.Ending.TheVariants as ending
use Rattle.vc_compare.specs.declared.ending.Fault.{Fault}
use Rattle.vc_compare.specs.declared.ending.Fault.TheVariants as fault
use Rattle.vc_compare.specs.declared.status.CompareStatus.{CompareStatus}
use Rattle.vc_compare.specs.declared.status.CompareStatus.TheVariants.{Ok, Script, Usage, Read, Write, Memory, NoSegment, TooMany}
use Rattle.vc_compare.specs.Ending.{EndsAs}
use Rattle.vc_compare.specs.Refusal.{CountStays, NoneRose, RefusesAsked}
use Rattle.vc_compare.specs.Streams.{Sinks}
use Rattle.vc_compare.specs.Terms.{terms_on}
use Rattle.vc_compare.specs.Told.{bad_line_text, error_line}
use Rattle.vc_base.specs.Told.{Broke, Told, Tried}
use Rattle.vc_ways.specs.Compare.{BadLine, Compared, Finished, OutsideAt, StoppedAt, compare_input}
use Rattle.vc_ways.specs.Lends.{HasAllBack}
use Rattle.vc_ways.specs.Step.{start}
use Rattle.vc_ways.specs.Tally.{report}
use Rattle.vc_ways.specs.declared.tally.Tally.{Tally}

-- one line was tried on err
abbrev pub Tries : Sinks → Sinks → List ℕ → Type 0
Tries old new line = Tried old.errors new.errors old.told new.told line

-- by the status the report of a trace was written, or a front of it, or nothing for want of memory
abbrev pub Finishes : Tally → CompareStatus → Sinks → Sinks → Type 0
Finishes tally Ok old new = Told old.written new.written (report tally) × (new.told ≡ old.told)
Finishes tally Write old new = Broke old.writes new.writes old.written new.written (report tally) × Tries old new (error_line (codes "write failed"))
Finishes tally Memory old new = (new.written ≡ old.written) × Tries old new (error_line (codes "out of memory"))
Finishes tally other old new = ⊥

-- the status of a line that can't be run
abbrev pub status_of_trace_fault : Fault → CompareStatus
status_of_trace_fault (fault.Bad why) = Script
status_of_trace_fault fault.Outside = Script
status_of_trace_fault (fault.NoSegment way) = NoSegment
status_of_trace_fault (fault.TooMany way) = TooMany

-- its line is told; where that was broken off, a write failed
abbrev pub IsFaultTold : ℕ → Fault → CompareStatus → Sinks → Sinks → Type 0
IsFaultTold n fault Write old new = Broke old.errors new.errors old.told new.told (bad_line_text n fault)
IsFaultTold n fault status old new = (status ≡ status_of_trace_fault fault) × Told old.told new.told (bad_line_text n fault)

-- by the status it was told how a trace ends; but for a report nothing is written to out
abbrev pub TellsEnd : Ending → CompareStatus → Sinks → Sinks → Type 0
TellsEnd (ending.Finished tally) status old new = Finishes tally status old new
TellsEnd (ending.Faulty n fault) status old new = (new.written ≡ old.written) × IsFaultTold n fault status old new
TellsEnd ending.Read status old new = (status ≡ Read) × ((new.written ≡ old.written) × Tries old new (error_line (codes "read failed")))
TellsEnd ending.Memory status old new = (status ≡ Memory) × ((new.written ≡ old.written) × Tries old new (error_line (codes "out of memory")))

-- words are refused
abbrev pub RefusesWords : CompareStatus → Sinks → Sinks → Type 0
RefusesWords Usage old new = Told old.told new.told (error_line (codes "bad arguments"))
RefusesWords Write old new = Broke old.errors new.errors old.told new.told (error_line (codes "bad arguments"))
RefusesWords other old new = ⊥

-- what a source has left, and how often a read failed
pub record Flow : Type 0 where
  pub left : Option (List ℕ)
  pub reads : ℕ

abbrev pub flow : {S : Type 0} → (S → Option (List ℕ)) → (S → ℕ) → S → Flow
flow left reads source = record { left = left source; reads = reads source }

-- the trace of a source was run over the disciplines of a shelf, and how it ends was told. With a refused segment the discipline at the place that was asked refused it
pub record IsRun (status : CompareStatus) (slots slots' : List (Option Discipline)) (before after : Flow) (old new : Sinks) : Type 0 where
  pub how : Ending
  pub ends : IfSome before.left (λ input. EndsAs (terms_on slots) start (RefusesAsked slots slots') (judged_lines input) how after.left)
  pub read : how ≡ ending.Read → Rose before.reads after.reads
  pub told : TellsEnd how status old new

-- neither a read nor a write of the report failed
pub record NoneFails (before after : Flow) (old new : Sinks) : Type 0 where
  pub reads : CountStays before.reads after.reads
  pub writes : CountStays old.writes new.writes

-- a trace has no bad line, and in no way it needs more segments than a region may have
abbrev pub IsFine : Compared → Type 0
IsFine (Finished tally) = Unit {0}
IsFine (BadLine n fault) = ⊥
IsFine (OutsideAt n) = ⊥
IsFine (StoppedAt n way outcome.TooManySegments) = ⊥
IsFine (StoppedAt n way why) = Unit {0}

-- a comparison with so many words
pub record Comparison (words : ℕ) (status : CompareStatus) (slots slots' : List (Option Discipline)) (before after : Flow) (old new : Sinks) : Type 0 where
  -- words are refused, and then nothing is read or written but the line of that
  pub refused : 0 < words → RefusesWords status old new × ((after ≡ before) × (new.written ≡ old.written))
  pub run : words ≡ 0 → IsRun status slots slots' before after old new
  -- where no discipline counts a refusal and neither source nor out fails, the report of a trace that is fine is written, but for want of memory
  pub complete : words ≡ 0 → NoneRose slots slots' → NoneFails before after old new → IfSome before.left (λ input. IsFine (compare_input (terms_on slots) input) → (status ≡ Ok) ⊎ (status ≡ Memory))
  -- on every exit each place has its discipline, with the segments out and the terms that it had, and no fault less
  pub keeps : HasAllBack slots slots'
  -- the counts of failures never fall
  pub reads : before.reads ≤ after.reads
  pub writes : (old.writes ≤ new.writes) × (old.errors ≤ new.errors)
