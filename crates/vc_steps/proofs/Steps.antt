-- What follows of a step, and what it follows from.
use Rattle.vc_base.proofs.Common.{◌≡◌, false, List, OnOk, Ok, Err, Result, sym, ap, ◌∙◌, subst}
use Rattle.vc_dtdisc.specs.Rules.{Gone}
use Rattle.vc_script.specs.Needs.{Need, need_shown}
use Rattle.vc_script.specs.declared.command.Command.{Command}
use Rattle.vc_script.specs.declared.reply.Reply.{Reply}
use Rattle.vc_steps.specs.Account.{KeepsAccounts, SameAsked}
use Rattle.vc_steps.specs.Moment.{Moment}
use Rattle.vc_steps.specs.State.{State, Stepped, step_with_reply}
use Rattle.vc_steps.specs.Step.{GivesStep}
use Rattle.vc_steps.specs.Told.{tell}
use Rattle.vc_steps.specs.Steps.{Halts, Steps, StepsBy}
use Rattle.vc_steps.proofs.CutOff.{cut-same}
use Rattle.vc_steps.proofs.RefusesNothing.{granted-lacks, granted-settles}
use Rattle.vc_commands.proofs.Grants.{IsGranted}
use Rattle.vc_steps.proofs.SettledShelf.{keeps-settles, settles-equal}

-- no fault is less after a step
pub keeps-steps : {E : Type 0} (answer : Result Reply E) (now next : Moment) (command : Command) (given : State → Need → Stepped) → StepsBy answer now next command given → KeepsAccounts now.accounts next.accounts
keeps-steps (Ok reply) now next command given steps = keeps-settles steps.settles
keeps-steps (Err e) now next command given halts = keeps-settles halts.settles

-- and where no discipline is armed none was asked for an exception
pub asked-steps : {E : Type 0} (answer : Result Reply E) (now next : Moment) (command : Command) (given : State → Need → Stepped) → StepsBy answer now next command given → now.armed ≡ false → SameAsked now.accounts next.accounts
asked-steps (Ok reply) now next command given steps off = steps.settles.asked off
asked-steps (Err e) now next command given halts off = halts.settles.asked off

-- a step that the definitions give in other words
pub steps-as : {E : Type 0} (answer : Result Reply E) (now next : Moment) (command : Command) (given given' : State → Need → Stepped) → ((s : State) (need : Need) → given' s need ≡ given s need) → StepsBy answer now next command given → StepsBy answer now next command given'
steps-as (Ok reply) now next command given given' same steps = record {
  gives = subst (λ t. GivesStep t now.gone reply next.state next.gone) (sym (same now.state (need_shown reply))) steps.gives;
  settles = steps.settles;
  armed = steps.armed;
  lacks = steps.lacks;
}
steps-as (Err e) now next command given given' same halts = halts

told-none : (t : Stepped) (after : State) (reply : Reply) (gone : List Gone) → t ≡ step_with_reply after reply → gone ≡ tell t.told gone
told-none t after reply gone is = sym (ap (λ (u : Stepped). tell u.told gone) is)

-- a step that tells no kind, and whose reply refuses no segment
pub steps-quiet : (now next : Moment) (command : Command) (t : Stepped) (reply : Reply) → t ≡ step_with_reply next.state reply → next.gone ≡ now.gone → next.accounts ≡ now.accounts → next.armed ≡ now.armed → IsGranted reply → Steps now next command t reply
steps-quiet now next command t reply is gone accounts armed granted =
    record {
      gives = record {
        replied = ap (λ (u : Stepped). u.reply) is;
        state_after = ap (λ (u : Stepped). u.state) is;
        told = gone ∙ told-none t next.state reply now.gone is;
      };
      settles = granted-settles now.state now.accounts next.accounts command reply granted (settles-equal now.accounts next.accounts accounts);
      armed = armed;
      lacks = granted-lacks now.state now.regions next.regions command reply granted;
    }

-- with no memory, where all stays
pub halts-same : (now next : Moment) (command : Command) → next.state ≡ now.state → next.gone ≡ now.gone → next.accounts ≡ now.accounts → next.armed ≡ now.armed → Halts now next command
halts-same now next command state gone accounts armed = record {
  state = cut-same now.state command next.state state;
  gone = gone;
  settles = settles-equal now.accounts next.accounts accounts;
  armed = armed;
}

-- an answer that is no reply
pub halts-steps : {E : Type 0} (answer : Result Reply E) (now next : Moment) (command : Command) (given : State → Need → Stepped) → OnOk answer ⊥ → Halts now next command → StepsBy answer now next command given
halts-steps (Ok reply) now next command given is halts = absurd is
halts-steps (Err e) now next command given is halts = halts
