-- A run of generated commands, and what each adds to it.
use Rattle.vc_base.proofs.Common.{◌≡◌, ℕ, ◌+◌, ◌^◌, ◌<◌, ◌≤◌, true, false, ◌||◌, List, [], ◌∷◌, ◌++◌, length, is_some, IfSome, OnOk, IsTrue, nat_le, Some, None, Ok, Err, Option, Result, sym, refl, ap, ◌∙◌, subst, append_assoc, append-nil, add-zero, arith, length-append, leb-true, or-true, and_parts, same_Some, AllByRecursion}
use Rattle.vc_base.proofs.Quantifiers.{all-middle}
use Rattle.vc_counts.specs.declared.counts.Counts.{Counts}
use Rattle.vc_generate.specs.Generated.{commands_of_seed}
use Rattle.vc_generate.specs.Next.{IsNext}
use Rattle.vc_generate.proofs.CommandSteps.{length-generated}
use Rattle.vc_script.specs.Proper.{IsProperCommand}
use Rattle.vc_script.specs.Words.{is_between}
use Rattle.vc_script.specs.declared.command.Command.{Command}
use Rattle.vc_script.specs.declared.tool.Tool.{Tool}
use Rattle.vc_script.specs.declared.tool.Tool.TheVariants.{Dtrun, Vmreplay}
use Rattle.vc_session.specs.Asked.{is_in_range}
use Rattle.vc_session.specs.Cut.{Cuts}
use Rattle.vc_session.specs.Engine.{IsStep, RunsGenerated}
use Rattle.vc_session.specs.Generating.{Generating, RanAll, RunsCommands}
use Rattle.vc_session.specs.Progress.{Progress}
use Rattle.vc_session.specs.ProperState.{IsProperState}
use Rattle.vc_session.specs.QuietText.{line_by}
use Rattle.vc_session.specs.declared.style.Style.TheVariants.{Quiet}
use Rattle.vc_session.specs.Replay.{IsGenerated, IsRunOf, on_lines}
use Rattle.vc_base.specs.Told.{Told}
use Rattle.vc_session.specs.Run.{nothing_ran}
use Rattle.vc_session.specs.declared.engine.Stop.{Stop}
use Rattle.vc_session.specs.Text.{counts_of, is_quiet, lines_text, tail_lines, text_of}
use Rattle.vc_steps.specs.Moment.{Moment, moment_at_end, over_sink}
use Rattle.vc_words.specs.declared.words.Words.{Words}
use Rattle.vc_session.proofs.Progress.{progress-over, progress-start, progress-step, told-more, told-none}
use Rattle.vc_session.proofs.Behind.{text-ends}
use Rattle.vc_session.proofs.Rest.{Rests, cut-rest, generated-rest, on_err-each}

-- the line of one more command
on_lines-push : (n : ℕ) (cs : List Command) (c : Command) → on_lines n (cs ++ c ∷ []) ≡ on_lines n cs ++ (n + length cs, c) ∷ []
on_lines-push n [] c = ap (λ (k : ℕ). (k, c) ∷ []) (sym (add-zero n))
on_lines-push n (d ∷ ds) c =
    ap (λ cs. (n, d) ∷ cs)
    (on_lines-push (n + 1) ds c
    ∙ ap (λ (k : ℕ). on_lines (n + 1) ds ++ (k, c) ∷ []) (omega arith))

-- before the first command
pub generating-start : (start : Moment) (told : Option (List ℕ)) (counts : Counts) (gathered : List ℕ) (commands : List Command) → IsProperState start.state → counts ≡ counts_of (nothing_ran start.state) → gathered ≡ [] → Generating start start told told counts gathered 0 commands commands
generating-start start told counts gathered commands proper zero none = record {
  done = [];
  all = refl;
  count = refl;
  written = [];
  tells = told-none told;
  progress =
      subst (λ xs. Progress true (over_sink start told) (over_sink start told) counts xs 0 []) (sym none)
      (progress-start true (over_sink start told) counts proper (λ quiet. zero));
}

-- behind the last command
pub next-none : (o : Option Command) (before after : List Command) → IsNext o before after → ((c : Command) → o ≡ Some c → ⊥) → before ≡ []
next-none None before after next none = next.0
next-none (Some c) before after next none = absurd (none c refl)

module _ {start now : Moment} {told told' : Option (List ℕ)} {before : Counts} {gathered : List ℕ} {line : ℕ} {commands left : List Command} (g : Generating start now told told' before gathered line commands left) where
  -- those that were run are no more than all
  pub generating-few : line + length left ≡ length commands
  generating-few = omega (arith, g.count, sym (length-append g.done left), ap length g.all)

  -- one more command was run
  pub generating-step : {next : Moment} {counts : Counts} {gathered' : List ℕ} (c : Command) (left' : List Command) → left ≡ c ∷ left' → AllByRecursion IsProperCommand commands → IsStep true (over_sink now (Some gathered)) (over_sink next (Some gathered')) before counts (line + 1) c → Generating start next told told' counts gathered' (line + 1) commands left'
  generating-step {next} {counts} {gathered'} c left' is proper i =
      let all : g.done ++ c ∷ left' ≡ commands = subst (λ cs. g.done ++ cs ≡ commands) is g.all in
      let pushed : (g.done ++ c ∷ []) ++ left' ≡ commands = append_assoc g.done (c ∷ []) left' ∙ all in
      let here : IsProperCommand c = all-middle IsProperCommand g.done c left' (subst (AllByRecursion IsProperCommand) (sym all) proper) in
      let gathers : gathered' ≡ gathered ++ line_by Quiet (line + 1, i.reply) = same_Some gathered' (gathered ++ line_by Quiet (line + 1, i.reply)) i.told in
      let below : line < line + 1 = omega arith in
      let behind : Progress true (over_sink start told) (over_sink next told') counts ((g.written ++ gathered) ++ line_by Quiet (line + 1, i.reply)) (line + 1) (on_lines 1 g.done ++ (line + 1, c) ∷ []) =
      progress-over told' (progress-step (line + 1) below (progress-over (Some gathered) g.progress) c here i) in
      let number : line + 1 ≡ 1 + length g.done = omega (arith, g.count) in
      let lines : on_lines 1 g.done ++ (line + 1, c) ∷ [] ≡ on_lines 1 (g.done ++ c ∷ []) =
      ap (λ (k : ℕ). on_lines 1 g.done ++ (k, c) ∷ []) number ∙ sym (on_lines-push 1 g.done c) in
      let text : (g.written ++ gathered) ++ line_by Quiet (line + 1, i.reply) ≡ g.written ++ gathered' =
      append_assoc g.written gathered (line_by Quiet (line + 1, i.reply)) ∙ ap (λ xs. g.written ++ xs) (sym gathers) in
      record {
        done = g.done ++ c ∷ [];
        all = pushed;
        count = omega (arith, g.count, length-append g.done (c ∷ []));
        written = g.written;
        tells = g.tells;
        progress =
            subst (λ cs. Progress true (over_sink start told) (over_sink next told') counts (g.written ++ gathered') (line + 1) cs) lines
            (subst (λ xs. Progress true (over_sink start told) (over_sink next told') counts xs (line + 1) (on_lines 1 g.done ++ (line + 1, c) ∷ [])) text behind);
      }

  -- a front of what is gathered was written
  pub generating-write : {told'' : Option (List ℕ)} {gathered' : List ℕ} (piece : List ℕ) → Told told' told'' piece → gathered ≡ piece ++ gathered' → Generating start now told told'' before gathered' line commands left
  generating-write {told''} {gathered'} piece wrote is =
      let text : g.written ++ gathered ≡ (g.written ++ piece) ++ gathered' =
      ap (λ xs. g.written ++ xs) is ∙ sym (append_assoc g.written piece gathered') in
      record {
        done = g.done;
        all = g.all;
        count = g.count;
        written = g.written ++ piece;
        tells = told-more told told' told'' g.written piece g.tells wrote;
        progress =
            subst (λ xs. Progress true (over_sink start told) (over_sink now told'') before xs line (on_lines 1 g.done)) text
            (progress-over told'' g.progress);
      }

  -- no command is left, and what was gathered is written
  pub generating-end : {told'' : Option (List ℕ)} → left ≡ [] → Told told' told'' gathered → RanAll start now told told'' before commands line
  generating-end {told''} none wrote =
      let all : g.done ≡ commands = sym (append-nil g.done) ∙ subst (λ cs. g.done ++ cs ≡ commands) none g.all in
      record {
        count = g.count ∙ ap length all;
        text = g.written ++ gathered;
        tells = told-more told told' told'' g.written gathered g.tells wrote;
        progress =
            subst (λ cs. Progress true (over_sink start told) (over_sink now told'') before (g.written ++ gathered) line (on_lines 1 cs)) all
            (progress-over told'' g.progress);
      }

-- how many there are
pub generated-most : (tool : Tool) (n seed : ℕ) → n ≤ 1000000 → length (commands_of_seed tool n seed) ≤ 1000004
generated-most Vmreplay n seed most = omega (arith, length-generated Vmreplay n seed)
generated-most Dtrun n seed most = omega (arith, length-generated Dtrun n seed)

pub generated-few : (tool : Tool) (n seed : ℕ) → n ≤ 1000000 → length (commands_of_seed tool n seed) < 2 ^ 31
generated-few tool n seed most = omega (arith, generated-most tool n seed most)

-- generated commands are run quietly
pub quiet-generated : (w : Words) (n : ℕ) → w.generate ≡ Some n → is_quiet w ≡ true
quiet-generated w n is = ap (λ g. w.quiet || is_some g) is ∙ or-true w.quiet

-- they were run, and what stands behind the replies is written
pub generating-ends : {start now : Moment} {told told' : Option (List ℕ)} {counts : Counts} {lines : ℕ} (tool : Tool) (w : Words) (n : ℕ) (after : Option (List ℕ)) (tail : List ℕ) → w.generate ≡ Some n → n ≤ 1000000 → now.armed ≡ false → RanAll start now told told' counts (commands_of_seed tool n w.seed) lines → tail ≡ lines_text (tail_lines w lines counts now.state.homes) → Told told' after tail → IsGenerated tool w n (over_sink start told) (over_sink (moment_at_end now) after)
generating-ends {start} {now} {told} {told'} {counts} {lines} tool w n after tail is most off r ends wrote =
    let commands = commands_of_seed tool n w.seed in
    let quiet : is_quiet w ≡ true = quiet-generated w n is in
    let few : lines < 2 ^ 64 = omega (arith, r.count, generated-most tool n w.seed most) in
    let progress : Progress (is_quiet w) (over_sink start told) (over_sink now told') counts r.text lines (on_lines 1 commands) =
    subst (λ q. Progress q (over_sink start told) (over_sink now told') counts r.text lines (on_lines 1 commands)) (sym quiet) r.progress in
    let run : IsRunOf (is_quiet w) now.armed (text_of w now.armed lines) (over_sink start told) (over_sink (moment_at_end now) after) (on_lines 1 commands) =
    text-ends w lines tail progress ends after few (told-more told told' after r.text tail r.tells wrote) in
    record {
      run =
          subst (λ q. IsRunOf q false (text_of w false (length commands)) (over_sink start told) (over_sink (moment_at_end now) after) (on_lines 1 commands)) quiet
          (subst (λ k. IsRunOf (is_quiet w) false (text_of w false k) (over_sink start told) (over_sink (moment_at_end now) after) (on_lines 1 commands)) r.count
          (subst (λ on. IsRunOf (is_quiet w) on (text_of w on lines) (over_sink start told) (over_sink (moment_at_end now) after) (on_lines 1 commands)) off run));
    }

-- the same of the answers of what was called
pub generating-told : {U : Type 0} (made : U) (tool : Tool) (w : Words) (n : ℕ) (start last : Moment) (counts : Counts) (lines : ℕ) (commands : List Command) (told told' told'' : Option (List ℕ)) (failures failures' failures'' : ℕ) (none tail : List ℕ) → w.generate ≡ Some n → n ≤ 1000000 → last.armed ≡ false → commands ≡ commands_of_seed tool n w.seed → none ≡ [] → tail ≡ none ++ lines_text (tail_lines w lines counts last.state.homes) → RunsCommands (Ok lines) commands start last counts told told' failures failures' → Told told' told'' tail → failures' ≤ failures'' → RunsGenerated tool w n (let answer : Result U Stop = Ok made in answer) start (moment_at_end last) told told'' failures failures''
generating-told made tool w n start last counts lines commands told told' told'' failures failures' failures'' none tail is most off all empty behind runs wrote never =
    record {
      run =
          generating-ends tool w n told'' tail is most off
          (subst (λ cs. RanAll start last told told' counts cs lines) all runs.ran)
          (behind ∙ ap (λ xs. xs ++ lines_text (tail_lines w lines counts last.state.homes)) empty) wrote;
      cut = tt;
      read = tt;
      write = tt;
      writes = omega (arith, runs.writes, never);
    }

on_ok-each : {T E P Q : Type 0} (r : Result T E) → (P → Q) → OnOk r P → OnOk r Q
on_ok-each (Ok x) f holds = f holds
on_ok-each (Err e) f holds = tt

-- what a run promises at its last command it promises behind its session's end, from the same start
pub generated-rests : {U : Type 0} (tool : Tool) (w : Words) (n : ℕ) (start before now after : Moment) (told told' : Option (List ℕ)) (failures failures' : ℕ) (answer : Result U Stop) → start ≡ before → ((written : Option (List ℕ)) → Rests (over_sink now written) (over_sink after written)) → RunsGenerated tool w n answer start now told told' failures failures' → RunsGenerated tool w n answer before after told told' failures failures'
generated-rests tool w n start before now after told told' failures failures' answer same rests r =
    record {
      run =
          on_ok-each answer
          (λ run. subst (λ m. IsGenerated tool w n (over_sink m told) (over_sink after told')) same (generated-rest (rests told') run)) r.run;
      cut =
          on_err-each answer
          (λ cut. subst (λ m. Cuts (Some n) tool w (over_sink m told) (over_sink after told') None) same (cut-rest (rests told') cut)) r.cut;
      read = r.read;
      write = r.write;
      writes = r.writes;
    }

most-true : (n : ℕ) → IsTrue (is_between 1 1000000 n) → n ≤ 1000000
most-true n holds = leb-true n 1000000 (and_parts (nat_le 1 n) (nat_le n 1000000) holds).1

-- the range of words that ask for so many
pub asked-most : (generate : Option ℕ) (n : ℕ) → generate ≡ Some n → IsTrue (is_in_range generate) → n ≤ 1000000
asked-most generate n is in_range = most-true n (subst (λ g. IsTrue (is_in_range g)) is in_range)

pub if_some : (P : ℕ → Type 0) (o : Option ℕ) (n : ℕ) → o ≡ Some n → P n → IfSome o P
if_some P o n is holds = subst (λ (x : Option ℕ). IfSome x P) (sym is) holds
