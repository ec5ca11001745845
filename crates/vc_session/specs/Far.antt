-- How far a run came.
use Rattle.std.specs.Prelude.{◌≡◌, ℕ, List, ◌++◌, map, ◌^◌, ◌<◌}
use Rattle.std.specs.List.{AllByRecursion}
use Rattle.vc_script.specs.declared.command.Command.{Command}
use Rattle.vc_steps.specs.Moment.{Moment}
use Rattle.vc_script.specs.ProperReply.{IsProperReply}
use Rattle.vc_script.specs.Needs.{AreAscending, Need, ShowsNeeds}
use Rattle.vc_session.specs.Cut.{RoseAsRefused}
use Rattle.vc_session.specs.Run.{Ran, lines_of, run_from}
use Rattle.vc_session.specs.Text.{replies_text}
use Rattle.vc_base.specs.Told.{Told}
use Rattle.vc_session.specs.declared.style.Style.{Style}

-- these commands were run for the needs that their replies show, each refusal was counted, and a front of what is written of the replies is this text
pub record RanFar (style : Style) (start now : Moment) (text : List ℕ) (done : List (ℕ × Command)) : Type 0 where
  pub ran : Ran
  pub lines : lines_of done ≡ map (λ r. r.0) ran.replies
  pub proper : AllByRecursion (λ r. IsProperReply r.1) ran.replies
  pub run : (needs : List (ℕ × Need)) → ShowsNeeds needs ran.replies → run_from start.state done needs ≡ ran
  pub rose : RoseAsRefused ran.refusals start now
  pub behind : List ℕ
  pub front : replies_text style ran ≡ text ++ behind

-- the lines of commands rise, each below 2^64
pub record AreLines (commands : List (ℕ × Command)) : Type 0 where
  pub rising : AreAscending (lines_of commands)
  pub below : AllByRecursion (λ n. n < 2 ^ 64) (lines_of commands)

-- of these commands the first were run so far
pub record RanPart (style : Style) (start now : Moment) (text : List ℕ) (commands : List (ℕ × Command)) : Type 0 where
  pub done : List (ℕ × Command)
  pub rest : List (ℕ × Command)
  pub split : commands ≡ done ++ rest
  pub far : RanFar style start now text done

-- and that text was written
pub record WrotePart (style : Style) (start now : Moment) (commands : List (ℕ × Command)) : Type 0 where
  pub text : List ℕ
  pub part : RanPart style start now text commands
  pub told : Told start.written now.written text
