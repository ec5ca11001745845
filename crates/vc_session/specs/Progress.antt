-- A run at its beginning and in its middle, by the commands that it ran.
use Rattle.std.specs.Prelude.{◌≡◌, ℕ, ◌<◌, ◌≤◌, List, Bool, Result, IfOk, IsTrue, OnOk, map}
use Rattle.std.specs.List.{AllByRecursion}
use Rattle.vc_counts.specs.CanCount.{CanCount}
use Rattle.vc_counts.specs.Counts.{live_bytes}
use Rattle.vc_counts.specs.declared.counts.Counts.{Counts}
use Rattle.vc_dtdisc.specs.Rules.{Rules}
use Rattle.vc_model.specs.Discipline.{Discipline}
use Rattle.vc_script.specs.declared.command.Command.{Command}
use Rattle.vc_script.specs.Needs.{AreAscending, Need, ShowsNeeds}
use Rattle.vc_script.specs.ProperReply.{IsProperReply}
use Rattle.vc_seg.specs.declared.shelf.Shelf.{Shelf}
use Rattle.vc_session.specs.ProperState.{IsProperOver, IsProperState}
use Rattle.vc_session.specs.Run.{Ran, lines_of, nothing_ran, run_from}
use Rattle.vc_session.specs.QuietText.{style_by}
use Rattle.vc_session.specs.Text.{replies_text, counts_of}
use Rattle.vc_steps.specs.Account.{Settles}
use Rattle.vc_steps.specs.Homes.{IsSessionOver, state_over}
use Rattle.vc_steps.specs.Moment.{Moment}
use Rattle.vc_steps.specs.State.{State}
use Rattle.vc_steps.specs.Told.{rules_in, tell}
use Rattle.vc_steps.specs.declared.session.Session.{Session}

-- these commands, on rising lines up to that number, were run for the needs that their replies show, and that is the text of the replies, quiet or not, by what the session arms; a quiet run counted so much
pub record Progress (quiet : Bool) (start now : Moment) (counts : Counts) (text : List ℕ) (count : ℕ) (done : List (ℕ × Command)) : Type 0 where
  pub ran : Ran
  pub lines : lines_of done ≡ map (λ r. r.0) ran.replies
  pub rising : AreAscending (lines_of done)
  pub within : AllByRecursion (λ n. n ≤ count) (lines_of done)
  pub proper : AllByRecursion (λ r. IsProperReply r.1) ran.replies
  pub proper_state : IsProperState now.state
  pub run : (needs : List (ℕ × Need)) → ShowsNeeds needs ran.replies → run_from start.state done needs ≡ ran
  pub state : ran.state ≡ now.state
  pub settles : Settles now.armed start.accounts now.accounts ran.refusals
  pub gone : now.gone ≡ tell ran.told start.gone
  pub told : text ≡ replies_text (style_by quiet now.armed) ran
  pub counted : IsTrue quiet → counts ≡ counts_of ran

-- a quiet run can count a command on any line behind that number
abbrev pub CanCountOn : Bool → Counts → State → ℕ → Type 0
CanCountOn quiet counts s count = IsTrue quiet → (line : ℕ) → count < line → CanCount counts (live_bytes s) line

-- a session that stands over a shelf and kinds can run the command of the line of that number, and a quiet run can count it
pub record CanRunLine {I : Type 0} {V : I → Type 0} {D : Type 0} (quiet : Bool) (meaning : (x : I) × V x → Discipline) (rules : D → Rules) (shelf : Shelf I V) (session : Session D I V) (kinds : List D) (counts : Counts) (line : ℕ) : Type 0 where
  pub stands : IsSessionOver meaning rules shelf session kinds
  pub can_count : IsTrue quiet → CanCount counts (live_bytes (state_over meaning (rules_in rules kinds) shelf session)) line

-- a session that stands over a shelf and kinds can begin a run with these counts: of no command
pub record CanBegin {I : Type 0} {V : I → Type 0} {D : Type 0} (quiet : Bool) (meaning : (x : I) × V x → Discipline) (rules : D → Rules) (shelf : Shelf I V) (session : Session D I V) (kinds : List D) (counts : Counts) : Type 0 where
  pub over : IsProperOver meaning rules shelf session kinds
  pub can : CanCountOn quiet counts (state_over meaning (rules_in rules kinds) shelf session) 0
  pub zero : IsTrue quiet → counts ≡ counts_of (nothing_ran (state_over meaning (rules_in rules kinds) shelf session))

-- what ran up to a line, where it ended well, did that, and if it was quiet it can count a command on any line behind
pub record CountsOn {T E : Type 0} (quiet : Bool) (answer : Result T E) (counts : Counts) (now : Moment) (line : ℕ) (did : T → Type 0) : Type 0 where
  pub ran : IfOk answer did
  pub can : OnOk answer (CanCountOn quiet counts now.state line)
