-- A run of generated commands, in its middle and at its end.
use Rattle.std.specs.Prelude.{◌≡◌, ◌≢◌, ℕ, ◌≤◌, List, ◌++◌, Option, Result, IfErr, IfOk, OnErr, length, true}
use Rattle.vc_counts.specs.declared.counts.Counts.{Counts}
use Rattle.vc_model.specs.Count.{Rose}
use Rattle.vc_script.specs.declared.command.Command.{Command}
use Rattle.vc_session.specs.Far.{WrotePart}
use Rattle.vc_session.specs.Progress.{Progress}
use Rattle.vc_session.specs.Replay.{on_lines}
use Rattle.vc_base.specs.Told.{Told}
use Rattle.vc_session.specs.declared.engine.Stop.{Stop}
use Rattle.vc_session.specs.declared.engine.Stop.TheVariants.{Read, Write}
use Rattle.vc_session.specs.declared.style.Style.TheVariants.{Quiet}
use Rattle.vc_steps.specs.Moment.{Moment, over_sink}

-- these commands were run quietly up to those that are left, each on its line; what is gathered is still to be written
pub record Generating (start now : Moment) (told told' : Option (List ℕ)) (counts : Counts)
    (gathered : List ℕ) (line : ℕ) (commands left : List Command) : Type 0 where
  pub done : List Command
  pub all : done ++ left ≡ commands
  pub count : line ≡ length done
  pub written : List ℕ
  pub tells : Told told told' written
  pub progress : Progress true (over_sink start told) (over_sink now told') counts
      (written ++ gathered) line (on_lines 1 done)

-- all of them were run, and what was gathered is written
pub record RanAll (start now : Moment) (told told' : Option (List ℕ)) (counts : Counts)
    (commands : List Command) (lines : ℕ) : Type 0 where
  pub count : lines ≡ length commands
  pub text : List ℕ
  pub tells : Told told told' text
  pub progress : Progress true (over_sink start told) (over_sink now told') counts
      text lines (on_lines 1 commands)

-- what running generated commands promises by its answer; `told` is what the sink of replies tells, and `failures` how often a write of it failed
pub record RunsCommands (answer : Result ℕ Stop) (commands : List Command) (start now : Moment)
    (counts : Counts) (told told' : Option (List ℕ)) (failures failures' : ℕ) : Type 0 where
  pub ran : IfOk answer (RanAll start now told told' counts commands)
  -- wherever it was broken off, a front of what is written of the replies was written
  pub far : OnErr answer (WrotePart Quiet (over_sink start told) (over_sink now told') (on_lines 1 commands))
  -- nothing is read, and a failed write comes from the sink
  pub read : IfErr answer (λ stop. stop ≢ Read)
  pub write : IfErr answer (λ stop. stop ≡ Write → Rose failures failures')
  -- the count of failed writes never falls
  pub writes : failures ≤ failures'
