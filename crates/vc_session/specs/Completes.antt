-- How a tool ends where no stream failed.
use Rattle.std.specs.Prelude.{◌≡◌, ℕ, ◌<◌, ◌⊎◌, List, Option, Some, None, IfSome}
use Rattle.vc_model.specs.Count.{last_count}
use Rattle.vc_script.specs.declared.line_fault.LineFault.{LineFault}
use Rattle.vc_script.specs.declared.tool.Tool.{Tool}
use Rattle.vc_session.specs.Run.{first_bad}
use Rattle.vc_session.specs.declared.status.Status.{Status}
use Rattle.vc_session.specs.declared.status.Status.TheVariants.{Ok, Script, Usage, Memory}
use Rattle.vc_session.specs.Streams.{Streams}
use Rattle.vc_words.specs.declared.words.Words.{Words}

-- a count of failures stayed, below its last value
abbrev pub Stayed : ℕ → ℕ → Type 0
Stayed before after = (after ≡ before) × (after < last_count)

-- neither a read nor a write failed
pub record NoneFailed (old new : Streams) : Type 0 where
  pub reads : Stayed old.reads new.reads
  pub writes : Stayed old.writes new.writes
  pub errors : Stayed old.errors new.errors

-- that status, or that of want of memory
abbrev pub EndsWith : Status → Status → Type 0
EndsWith due status = (status ≡ due) ⊎ (status ≡ Memory)

-- the status that is due by the first bad line
abbrev pub due_by : Option (ℕ × LineFault) → Status
due_by None = Ok
due_by (Some bad) = Script

-- with generated commands no line is bad
abbrev pub EndsBy : Option ℕ → Tool → Option (List ℕ) → Status → Type 0
EndsBy None tool left status = IfSome left (λ input. EndsWith (due_by (first_bad tool input)) status)
EndsBy (Some n) tool left status = EndsWith Ok status

-- where no stream failed, the status is due by the words and the script, or memory was wanting
pub record Completes (tool : Tool) (asked : Option Words) (old new : Streams) (status : Status) : Type 0 where
  pub refused : asked ≡ None → Stayed old.errors new.errors → EndsWith Usage status
  pub taken : NoneFailed old new → IfSome asked (λ w. EndsBy w.generate tool old.left status)
