-- What was written of a run that a failed write or want of memory broke off.
use Rattle.std.specs.Prelude.{◌≡◌, ℕ, ◌≤◌, List, ◌∷◌, ◌++◌, Option, Some, None, Bool, false, ◌<◌, IfSome, count_by, length, ◌==◌}
use Rattle.std.specs.List.{AllByRecursion}
use Rattle.vc_script.specs.declared.command.Command.{Command}
use Rattle.vc_steps.specs.Moment.{Moment}
use Rattle.vc_model.specs.Numbered.{at_number}
use Rattle.vc_script.specs.Needs.{Need, NoNeed, need_at}
use Rattle.vc_model.specs.Count.{RoseBy}
use Rattle.vc_steps.specs.Account.{faults_of}
use Rattle.vc_session.specs.QuietText.{needs_by_text, style_by}
use Rattle.vc_script.specs.declared.tool.Tool.{Tool}
use Rattle.vc_script.specs.Judged.{judged_lines}
use Rattle.vc_script.specs.Lines.{ended_lines}
use Rattle.vc_generate.specs.Generated.{commands_of_seed}
use Rattle.vc_session.specs.Replay.{FaultsStayed, ShowsNone, generated_script}
use Rattle.vc_base.specs.Told.{Told}
use Rattle.vc_session.specs.Run.{Ran, commands_in, first_bad, is_second, lines_of, run_from, script, wholly_read}
use Rattle.vc_session.specs.Text.{good_lines, is_quiet, text_of}
use Rattle.vc_session.specs.declared.style.Style.{Style}
use Rattle.vc_session.specs.declared.style.Style.TheVariants.{Quiet}
use Rattle.vc_words.specs.declared.words.Words.{Words}

-- needs, with one further in front where there is one
abbrev pub with_further : List (ℕ × Need) → Option (ℕ × Need) → List (ℕ × Need)
with_further needs None = needs
with_further needs (Some further) = further ∷ needs

-- a further need is one of a line where none is shown
abbrev pub IsFurther : List (ℕ × Need) → Option (ℕ × Need) → Type 0
IsFurther needs None = Unit {0}
IsFurther needs (Some further) = need_at needs further.0 ≡ NoNeed

-- the faults of each place rose by at least these refusals there
abbrev pub RoseAsRefused : List ℕ → Moment → Moment → Type 0
RoseAsRefused refusals before after =
    (place : ℕ) → RoseBy (count_by (λ p. p == place) refusals)
    (faults_of (at_number before.accounts place)) (faults_of (at_number after.accounts place))

-- what was written is a front of the text for the needs that its whole lines show, or for these and one further
pub record IsCutText (style : Style) (said : Ran → List ℕ) (before after : Moment) (commands : List (ℕ × Command)) : Type 0 where
  pub written : List ℕ
  pub behind : List ℕ
  pub further : Option (ℕ × Need)
  pub is_further : IsFurther (needs_by_text style (lines_of commands) written) further
  pub text : said (run_from before.state commands (with_further (needs_by_text style (lines_of commands) written) further)) ≡ written ++ behind
  pub told : Told before.written after.written written
  -- it shows a need of none of the commands behind these
  pub shown : List (ℕ × Command)
  pub others : List (ℕ × Command)
  pub split : commands ≡ shown ++ others
  pub none : AllByRecursion (λ n. need_at (needs_by_text style (lines_of commands) written) n ≡ NoNeed) (lines_of others)
  -- and each refusal of these was counted
  pub rose : RoseAsRefused (run_from before.state shown (needs_by_text style (lines_of commands) written)).refusals before after
  -- where no fault was counted, it shows no need
  pub no_need : FaultsStayed before after → ShowsNone style (lines_of commands) written

-- at most 4,096 bytes were taken behind a front whose whole lines have at most so many commands
pub record ReadsNoFurther (tool : Tool) (input : List ℕ) (left : Option (List ℕ)) (most : ℕ) : Type 0 where
  pub before : List ℕ
  pub last : List ℕ
  pub rest : List ℕ
  pub split : input ≡ (before ++ last) ++ rest
  pub short : length last ≤ 4096
  pub unread : left ≡ Some rest
  pub few : length (commands_in tool (wholly_read before)) ≤ most

-- where a run isn't quiet and the reply of a command of an input that was told isn't whole, no more was taken behind the line of the first such command
abbrev pub NotAhead : Tool → Bool → Option (List ℕ) → Option (List ℕ) → Option (List ℕ) → Option (List ℕ) → Type 0
NotAhead tool quiet told left before after =
    quiet ≡ false → IfSome told (λ input. IfSome before (λ front. (written : List ℕ) → after ≡ Some (front ++ written)
    → length (ended_lines written) < length (script tool input)
    → ReadsNoFurther tool input left (length (ended_lines written))))

-- by the words of a tool what was written of the source's script, where the source told it, or of so many generated commands, is a cut
abbrev pub Cuts : Option ℕ → Tool → Words → Moment → Moment → Option (List ℕ) → Type 0
Cuts None tool w before after told =
    IfSome told (λ input. IsCutText (style_by (is_quiet w) (is_second tool input)) (text_of w (is_second tool input) (good_lines (first_bad tool input) (length (judged_lines input)))) before after (script tool input))
Cuts (Some n) tool w before after told =
    IsCutText Quiet (text_of w false (length (commands_of_seed tool n w.seed))) before after (generated_script tool w n)
