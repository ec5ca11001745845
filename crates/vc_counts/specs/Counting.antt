-- What a counted step promises.
use Rattle.std.specs.Prelude.{◌≡◌, ℕ, ◌<◌, Bool, false, Result, IfOk, IsTrue, OnErr, OnOk}
use Rattle.vc_counts.specs.CanCount.{CanCount}
use Rattle.vc_counts.specs.Counts.{live_bytes, counts_with_step}
use Rattle.vc_counts.specs.declared.counts.Counts.{Counts}
use Rattle.vc_script.specs.Needs.{need_shown}
use Rattle.vc_script.specs.declared.command.Command.{Command}
use Rattle.vc_script.specs.declared.reply.Reply.{Reply}
use Rattle.vc_steps.specs.Moment.{Moment}
use Rattle.vc_steps.specs.Step.{step}
use Rattle.vc_steps.specs.Steps.{StepsBy}

-- by the answer of the command of a line, from one moment and its counts to the next
pub record CountsStep {E : Type 0} (answer : Result Reply E) (now next : Moment) (n : ℕ) (command : Command) (before after : Counts) : Type 0 where
  pub steps : StepsBy answer now next command (λ s. step s n command)
  -- a command with a reply is counted, and one that found no memory isn't
  pub counts : IfOk answer (λ reply. after ≡ counts_with_step before (step now.state n command (need_shown reply)))
  pub stays : OnErr answer (after ≡ before)
  -- a command of any later line can be counted then
  pub can : OnOk answer ((later : ℕ) → n < later → CanCount after (live_bytes next.state) later)

-- by the answer of a session that had found no memory, or had not, whether it has now: from then on it answers nothing else
pub record IsCountSpentBy {T E : Type 0} (answer : Result T E) (before after : Bool) : Type 0 where
  pub spent : IsTrue before → OnOk answer ⊥
  pub stays_spent : OnErr answer (IsTrue after)
  pub not_spent : OnOk answer (after ≡ false)
