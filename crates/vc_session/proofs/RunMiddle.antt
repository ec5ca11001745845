-- A run in its middle, and what each line adds to it.
use Rattle.vc_base.proofs.Common.{◌≡◌, ℕ, ◌+◌, ◌==◌, true, false, Bool, List, [], ◌∷◌, ◌++◌, length, IsTrue, Some, None, Ok, Option, sym, refl, ap, ◌∙◌, subst, append_assoc, append-nil, arith, length_push, none-some, same_Some}
use Rattle.vc_base.proofs.Quantifiers.{all-push}
use Rattle.vc_counts.specs.declared.counts.Counts.{Counts}
use Rattle.vc_script.specs.declared.command.Command.{Command}
use Rattle.vc_script.specs.declared.line_answer.LineAnswer.{LineAnswer}
use Rattle.vc_script.specs.declared.line_answer.LineAnswer.TheVariants.{Blank, Is, Version, Bad}
use Rattle.vc_script.specs.declared.line_fault.LineFault.{LineFault}
use Rattle.vc_script.specs.declared.tool.Tool.{Tool}
use Rattle.vc_script.specs.Answer.{answer}
use Rattle.vc_script.specs.Proper.{IsVersion}
use Rattle.vc_script.proofs.ProperCommands.{IsProperCommand-answer}
use Rattle.vc_steps.specs.Moment.{Moment, over_sink}
use Rattle.vc_session.specs.Progress.{Progress}
use Rattle.vc_session.specs.Engine.{IsIdle, IsStep, TakesVersion, LineRan}
use Rattle.vc_session.specs.ProperState.{IsProperState}
use Rattle.vc_session.specs.QuietText.{line_by, style_by}
use Rattle.vc_base.specs.Told.{Told}
use Rattle.vc_session.specs.Run.{command_then, commands_in, fault_in, fault_then, is_second_in, nothing_ran, version_in, version_told}
use Rattle.vc_session.specs.SoFar.{FoundSoFar, Running}
use Rattle.vc_session.specs.Text.{counts_of}
use Rattle.vc_session.proofs.Progress.{progress-blank, progress-over, progress-same, progress-start, progress-step, progress-version}

pub running-start : (tool : Tool) (quiet : Bool) (start : Moment) (counts : Counts) → start.armed ≡ false → IsProperState start.state → (IsTrue quiet → counts ≡ counts_of (nothing_ran start.state)) → Running tool quiet start start counts [] 0 []
running-start tool quiet start counts off all none = record {
  done = [];
  progress = progress-start quiet start counts all none;
  size = refl;
  short = tt;
  script = λ behind. refl;
  good = λ behind. refl;
  armed = off;
}

-- the same run, over another sink
pub running-over : {tool : Tool} {quiet : Bool} {start now : Moment} {counts : Counts} {front : List ℕ} {count : ℕ} {whole : FoundSoFar} (written : Option (List ℕ)) → Running tool quiet start now counts front count whole → Running tool quiet start (over_sink now written) counts front count whole
running-over written r = record { done = r.done; progress = progress-over written r.progress; size = r.size; short = r.short; script = r.script; good = r.good; armed = r.armed }

-- a run stays what it is where nothing changed
pub running-same : {tool : Tool} {quiet : Bool} {start now next : Moment} {before counts : Counts} {front : List ℕ} {count : ℕ} {whole : FoundSoFar} → Running tool quiet start now before front count whole → IsIdle now next before counts → Running tool quiet start next counts front count whole
running-same r idle = record { done = r.done; progress = progress-same r.progress idle; size = r.size; short = r.short; script = r.script; good = r.good; armed = idle.armed ∙ r.armed }

-- lines of which the first tells no version leave that of the lines before them
pub version-append : (tool : Tool) (whole found : FoundSoFar) → version_in tool found ≡ 1 → version_in tool (whole ++ found) ≡ version_in tool whole
version-append tool [] found first = first
version-append tool (line ∷ rest) found first = refl

pub second-append : (tool : Tool) (whole found : FoundSoFar) → version_in tool found ≡ 1 → is_second_in tool (whole ++ found) ≡ is_second_in tool whole
second-append tool whole found first = ap (λ v. v == 2) (version-append tool whole found first)

-- a version is told on the first line alone
pub first-version : (first : Bool) (version : ℕ) → IsVersion first version → first ≡ true
first-version true version is = refl
first-version false version is = absurd is

-- an answer that leaves the commands and the first fault of the lines behind it
record LeavesBehind (n : ℕ) (a : LineAnswer) : Type 0 where
  pub commands : (behind : List (ℕ × Command)) → command_then n a behind ≡ behind
  pub fault : (behind : Option (ℕ × LineFault)) → fault_then n a behind ≡ behind

empty-of : (whole : FoundSoFar) → length whole ≡ 0 → whole ≡ []
empty-of [] none = refl
empty-of (line ∷ rest) none = absurd (omega (arith, none))

module _ {tool : Tool} {quiet : Bool} {start now : Moment} {before : Counts} {front : List ℕ} {count : ℕ} {whole : FoundSoFar} (n : ℕ) (line : List ℕ) (follows : n ≡ count + 1) (r : Running tool quiet start now before front count whole) where
  size_next : length (whole ++ (n, Ok line) ∷ []) ≡ n
  size_next = length_push whole (n, Ok line) ∙ (ap (λ k. k + 1) r.size ∙ sym follows)

  -- a line that tells no version
  untold : (a : LineAnswer) → version_told a ≡ 1 → answer tool (n == 1) line ≡ a → now.armed ≡ is_second_in tool (whole ++ (n, Ok line) ∷ [])
  untold a one is = r.armed ∙ sym (second-append tool whole ((n, Ok line) ∷ []) (ap version_told is ∙ one))

  -- a line that runs nothing
  running-blank : (a : LineAnswer) → LeavesBehind n a → version_told a ≡ 1 → answer tool (n == 1) line ≡ a → Running tool quiet start now before front n (whole ++ (n, Ok line) ∷ [])
  running-blank a leaves one is = record {
    done = r.done;
    progress = progress-blank n (omega (arith, follows)) r.progress;
    size = size_next;
    short = all-push _ whole (n, Ok line) r.short refl;
    script = λ behind. ap (commands_in tool) (append_assoc whole ((n, Ok line) ∷ []) behind) ∙ (r.script ((n, Ok line) ∷ behind) ∙ (ap (λ a. r.done ++ command_then n a (commands_in tool behind)) is ∙ ap (λ cs. r.done ++ cs) (leaves.commands (commands_in tool behind))));
    good = λ behind. ap (fault_in tool) (append_assoc whole ((n, Ok line) ∷ []) behind) ∙ (r.good ((n, Ok line) ∷ behind) ∙ (ap (λ a. fault_then n a (fault_in tool behind)) is ∙ leaves.fault (fault_in tool behind)));
    armed = untold a one is;
  }

  none_whole : n ≡ 1 → whole ≡ []
  none_whole first = empty-of whole (omega (arith, follows, first, r.size))

  -- the line that tells the version is the first
  none_done : n ≡ 1 → r.done ≡ []
  none_done first =
      sym (append-nil r.done) ∙ (sym (r.script []) ∙ ap (λ ls. commands_in tool (ls ++ [])) (none_whole first))

  off_before : n ≡ 1 → now.armed ≡ false
  off_before first = r.armed ∙ ap (is_second_in tool) (none_whole first)

  running-version : {next : Moment} {counts : Counts} (version : ℕ) → LeavesBehind n (Version version) → answer tool (n == 1) line ≡ Version version → (v : TakesVersion now next before counts n version) → Running tool quiet start next counts front n (whole ++ (n, Ok line) ∷ [])
  running-version {next} version leaves is v = record {
    done = r.done;
    progress =
        progress-blank n (omega (arith, follows))
        (subst (Progress quiet start next _ front count) (sym (none_done v.first))
        (progress-version (off_before v.first) (subst (Progress quiet start now before front count) (none_done v.first) r.progress) v));
    size = size_next;
    short = all-push _ whole (n, Ok line) r.short refl;
    script = λ behind. ap (commands_in tool) (append_assoc whole ((n, Ok line) ∷ []) behind) ∙ (r.script ((n, Ok line) ∷ behind) ∙ (ap (λ a. r.done ++ command_then n a (commands_in tool behind)) is ∙ ap (λ cs. r.done ++ cs) (leaves.commands (commands_in tool behind))));
    good = λ behind. ap (fault_in tool) (append_assoc whole ((n, Ok line) ∷ []) behind) ∙ (r.good ((n, Ok line) ∷ behind) ∙ (ap (λ a. fault_then n a (fault_in tool behind)) is ∙ leaves.fault (fault_in tool behind)));
    armed = v.armed ∙ (ap (λ a. version_told a == 2) (sym is) ∙ ap (λ ls. is_second_in tool (ls ++ (n, Ok line) ∷ [])) (sym (none_whole v.first)));
  }

  -- a line with a command
  running-step : {next : Moment} {counts : Counts} (c : Command) → answer tool (n == 1) line ≡ Is c → (i : IsStep quiet now next before counts n c) → Running tool quiet start next counts (front ++ line_by (style_by quiet now.armed) (n, i.reply)) n (whole ++ (n, Ok line) ∷ [])
  running-step c is i = record {
    done = r.done ++ (n, c) ∷ [];
    progress = progress-step n (omega (arith, follows)) r.progress c (IsProperCommand-answer tool (n == 1) line c is) i;
    size = size_next;
    short = all-push _ whole (n, Ok line) r.short refl;
    script = λ behind.
        ap (commands_in tool) (append_assoc whole ((n, Ok line) ∷ []) behind)
        ∙ (r.script ((n, Ok line) ∷ behind)
        ∙ (ap (λ a. r.done ++ command_then n a (commands_in tool behind)) is
        ∙ sym (append_assoc r.done ((n, c) ∷ []) (commands_in tool behind))));
    good = λ behind. ap (fault_in tool) (append_assoc whole ((n, Ok line) ∷ []) behind) ∙ (r.good ((n, Ok line) ∷ behind) ∙ ap (λ a. fault_then n a (fault_in tool behind)) is);
    armed = i.steps.armed ∙ untold (Is c) refl is;
  }

-- what a buffer holds after a piece was put behind what it held
pub put-behind : (old new piece : List ℕ) (was now : Option (List ℕ)) → was ≡ Some old → now ≡ Some new → Told was now piece → new ≡ old ++ piece
put-behind old new piece was now e0 e1 told =
    same_Some new (old ++ piece) (sym e1 ∙ subst (λ (o : Option (List ℕ)). Told o now piece) e0 told)

module _ {tool : Tool} {quiet : Bool} {start now next : Moment} {before counts : Counts} {whole : FoundSoFar} (front old new : List ℕ) {count : ℕ} (n : ℕ) (line : List ℕ) (held : now.written ≡ Some old) (holds : next.written ≡ Some new) (follows : n ≡ count + 1) (r : Running tool quiet start now before (front ++ old) count whole) where
  running-idle : (a : LineAnswer) → LeavesBehind n a → version_told a ≡ 1 → answer tool (n == 1) line ≡ a → IsIdle now next before counts → Running tool quiet start next counts (front ++ new) n (whole ++ (n, Ok line) ∷ [])
  running-idle a leaves one is idle =
      subst (λ xs. Running tool quiet start next counts (front ++ xs) n (whole ++ (n, Ok line) ∷ []))
      (same_Some old new (sym held ∙ (sym idle.told ∙ holds)))
      (running-same (running-blank n line follows r a leaves one is) idle)

  running-by : (a : LineAnswer) → answer tool (n == 1) line ≡ a → LineRan quiet now next before counts n a None → Running tool quiet start next counts (front ++ new) n (whole ++ (n, Ok line) ∷ [])
  running-by Blank is ran = running-idle Blank (record { commands = λ behind. refl; fault = λ behind. refl }) refl is ran.1
  running-by (Is c) is ran =
      subst (λ xs. Running tool quiet start next counts xs n (whole ++ (n, Ok line) ∷ []))
      (append_assoc front old (line_by (style_by quiet now.armed) (n, ran.1.reply)) ∙ ap (λ xs. front ++ xs) (sym (put-behind old new (line_by (style_by quiet now.armed) (n, ran.1.reply)) now.written next.written held holds ran.1.told)))
      (running-step n line follows r c is ran.1)
  running-by (Version version) is ran =
      subst (λ xs. Running tool quiet start next counts (front ++ xs) n (whole ++ (n, Ok line) ∷ []))
      (same_Some old new (sym held ∙ (sym ran.1.told ∙ holds)))
      (running-version n line follows r version (record { commands = λ behind. refl; fault = λ behind. refl }) is ran.1)
  running-by (Bad fault) is ran = absurd (none-some fault ran.0)

  -- one more line was run, and it was good
  pub running-line : LineRan quiet now next before counts n (answer tool (n == 1) line) None → Running tool quiet start next counts (front ++ new) n (whole ++ (n, Ok line) ∷ [])
  running-line ran = running-by (answer tool (n == 1) line) refl ran

-- a bad line ends the commands, and changes nothing
pub record BadLine (tool : Tool) (now next : Moment) (before counts : Counts) (n : ℕ) (line : List ℕ) (fault : LineFault) : Type 0 where
  pub none : (behind : FoundSoFar) → commands_in tool ((n, Ok line) ∷ behind) ≡ []
  pub first : (behind : FoundSoFar) → fault_in tool ((n, Ok line) ∷ behind) ≡ Some (n, fault)
  pub version : (behind : FoundSoFar) → version_in tool ((n, Ok line) ∷ behind) ≡ 1
  pub idle : IsIdle now next before counts

bad-by : (quiet : Bool) {now next : Moment} {before counts : Counts} (tool : Tool) (n : ℕ) (line : List ℕ) (fault : LineFault) (a : LineAnswer) → answer tool (n == 1) line ≡ a → LineRan quiet now next before counts n a (Some fault) → BadLine tool now next before counts n line fault
bad-by quiet tool n line fault Blank is ran = absurd (none-some fault (sym ran.0))
bad-by quiet tool n line fault (Is c) is ran = absurd (none-some fault (sym ran.0))
bad-by quiet tool n line fault (Version version) is ran = absurd (none-some fault (sym ran.0))
bad-by quiet tool n line fault (Bad why) is ran = record {
  none = λ behind. ap (λ a. command_then n a (commands_in tool behind)) is;
  first = λ behind. ap (λ a. fault_then n a (fault_in tool behind)) is ∙ ap (λ f. Some (n, f)) (sym (same_Some fault why ran.0));
  version = λ behind. ap version_told is;
  idle = ran.1;
}

pub bad-line : (quiet : Bool) {now next : Moment} {before counts : Counts} (tool : Tool) (n : ℕ) (line : List ℕ) (fault : LineFault) → LineRan quiet now next before counts n (answer tool (n == 1) line) (Some fault) → BadLine tool now next before counts n line fault
bad-line quiet tool n line fault ran = bad-by quiet tool n line fault (answer tool (n == 1) line) refl ran
