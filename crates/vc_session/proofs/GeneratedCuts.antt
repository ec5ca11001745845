-- What was written of generated commands where a run of them was broken off.
use Rattle.vc_base.proofs.Common.{◌≡◌, ℕ, ◌+◌, ◌≤◌, true, false, List, [], ◌∷◌, ◌++◌, length, take, drop, IfSome, Some, None, Ok, Err, Option, Result, sym, refl, ap, ◌∙◌, subst, append-nil, arith, take-append-drop, Rose}
use Rattle.vc_counts.specs.declared.counts.Counts.{Counts}
use Rattle.vc_generate.specs.Generated.{commands_of_seed}
use Rattle.vc_script.specs.declared.command.Command.{Command}
use Rattle.vc_script.specs.declared.tool.Tool.{Tool}
use Rattle.vc_steps.specs.Account.{KeepsAccounts}
use Rattle.vc_steps.specs.Moment.{Moment, moment_at_end, over_sink}
use Rattle.vc_session.specs.Cut.{Cuts, IsCutText}
use Rattle.vc_session.specs.Engine.{RunsGenerated}
use Rattle.vc_session.specs.Far.{AreLines, WrotePart}
use Rattle.vc_session.specs.Generating.{Generating, RunsCommands}
use Rattle.vc_session.specs.Progress.{Progress}
use Rattle.vc_session.specs.Replay.{on_lines}
use Rattle.vc_base.specs.Told.{Told}
use Rattle.vc_session.specs.declared.engine.Stop.{Stop}
use Rattle.vc_session.specs.declared.engine.Stop.TheVariants.{Write, Memory}
use Rattle.vc_session.specs.QuietText.{style_by}
use Rattle.vc_session.specs.declared.style.Style.TheVariants.{Quiet}
use Rattle.vc_session.specs.Text.{is_quiet, lines_text, tail_lines, text_of}
use Rattle.vc_words.specs.declared.words.Words.{Words}
use Rattle.vc_session.proofs.Behind.{tail-unnumbered, text-says}
use Rattle.vc_model.proofs.Keeping.{Rose-earlier}
use Rattle.vc_session.proofs.Broken.{memory-read, memory-write, text-begins, write-read}
use Rattle.vc_session.proofs.Cuts.{BeginsWithReplies, cut-none, cut-part, cut-same, cut-tail, far-front, far-of, far-on}
use Rattle.vc_session.proofs.GeneratedRun.{generated-most, quiet-generated}
use Rattle.vc_session.proofs.HowFar.{text-front, told-front}
use Rattle.vc_session.proofs.ScriptLines.{on_lines-lines}

on_lines-append : (n : ℕ) (cs ds : List Command) → on_lines n (cs ++ ds) ≡ on_lines n cs ++ on_lines (n + length cs) ds
on_lines-append n [] ds = ap (λ (k : ℕ). on_lines k ds) (omega arith)
on_lines-append n (c ∷ cs) ds =
    ap (λ es. (n, c) ∷ es) (on_lines-append (n + 1) cs ds ∙ ap (λ (k : ℕ). on_lines (n + 1) cs ++ on_lines k ds) (omega arith))

module _ {start now : Moment} {told told' : Option (List ℕ)} {before : Counts} {gathered : List ℕ} {line : ℕ} {commands left : List Command} (g : Generating start now told told' before gathered line commands left) (next : Moment) (keeps : KeepsAccounts now.accounts next.accounts) where
  part-of : (front behind : List ℕ) → g.written ++ gathered ≡ front ++ behind → Told told next.written front → WrotePart Quiet (over_sink start told) next (on_lines 1 commands)
  part-of front behind is wrote = record {
    text = front;
    part = record {
      done = on_lines 1 g.done;
      rest = on_lines (1 + length g.done) left;
      split = ap (λ cs. on_lines 1 cs) (sym g.all) ∙ on_lines-append 1 g.done left;
      far = far-on next (far-front front behind (far-of g.progress) is) keeps;
    };
    told = wrote;
  }

  -- what is gathered was not written
  pub generating-part : next.written ≡ told' → WrotePart Quiet (over_sink start told) next (on_lines 1 commands)
  generating-part same = part-of g.written gathered refl (subst (λ w. Told told w g.written) (sym same) g.tells)

  -- or a front of it was
  pub generating-front : IfSome told' (λ w. (k : ℕ) × (next.written ≡ Some (w ++ take k gathered))) → WrotePart Quiet (over_sink start told) next (on_lines 1 commands)
  generating-front front =
      let wrote = told-front told told' next.written g.written gathered g.tells front in
      part-of (g.written ++ take wrote.0 gathered) (drop wrote.0 gathered) (text-front g.written wrote.0 gathered) wrote.1

module _ (tool : Tool) (w : Words) (n : ℕ) (is : w.generate ≡ Some n) (most : n ≤ 1000000) where
  abbrev commands : List Command
  commands = commands_of_seed tool n w.seed

  lines : AreLines (on_lines 1 commands)
  lines = on_lines-lines commands (omega (arith, generated-most tool n w.seed most))

  begins : BeginsWithReplies Quiet (text_of w false (length commands))
  begins = subst (λ q. BeginsWithReplies (style_by q false) (text_of w false (length commands))) (quiet-generated w n is) (text-begins w false (length commands))

  -- what was written of a part of them is a cut
  part-cut : (start now after : Moment) → after.written ≡ now.written → after.accounts ≡ now.accounts → WrotePart Quiet start now (on_lines 1 commands) → Cuts (Some n) tool w start after None
  part-cut start now after written accounts part = cut-same after written accounts (cut-part part (text_of w false (length commands)) begins lines)

  -- nothing was run and nothing written
  pub cuts-generated : (start now : Moment) → KeepsAccounts start.accounts now.accounts → now.written ≡ start.written → Cuts (Some n) tool w start now None
  cuts-generated start now keeps same = cut-none Quiet (text_of w false (length commands)) begins start now (on_lines 1 commands) lines keeps same

  module _ (start last : Moment) (counts : Counts) (told told' : Option (List ℕ)) (failures failures' : ℕ) where
    -- a run of them was broken off
    pub generated-failed : (U : Type 0) (stop : Stop) → RunsCommands (Err stop) commands start last counts told told' failures failures' → RunsGenerated tool w n (let answer : Result U Stop = Err stop in answer) start (moment_at_end last) told told' failures failures'
    generated-failed U stop r = record {
      run = tt;
      cut = part-cut (over_sink start told) (over_sink last told') (over_sink (moment_at_end last) told') refl refl r.far;
      read = r.read;
      write = r.write;
      writes = r.writes;
    }

    -- no memory was left for what stands behind the replies
    pub generated-wanting : (U : Type 0) (stop : Stop) (all : ℕ) → stop ≡ Memory → RunsCommands (Ok all) commands start last counts told told' failures failures' → RunsGenerated tool w n (let answer : Result U Stop = Err stop in answer) start (moment_at_end last) told told' failures failures'
    generated-wanting U stop all memory r = record {
      run = tt;
      cut =
          part-cut (over_sink start told) (over_sink last told') (over_sink (moment_at_end last) told') refl refl
          (record {
            text = r.ran.text;
            part = record { done = on_lines 1 commands; rest = []; split = sym (append-nil (on_lines 1 commands)); far = far-of r.ran.progress };
            told = r.ran.tells;
          });
      read = memory-read stop memory;
      write = λ other. absurd (memory-write stop memory other);
      writes = r.writes;
    }

    -- or a front of it was written
    pub generated-broken : (U : Type 0) (stop : Stop) (all : ℕ) (told'' : Option (List ℕ)) (failures'' : ℕ) (none tail : List ℕ) → stop ≡ Write → last.armed ≡ false → none ≡ [] → tail ≡ none ++ lines_text (tail_lines w all counts last.state.homes) → RunsCommands (Ok all) commands start last counts told told' failures failures' → IfSome told' (λ bytes. (k : ℕ) × (told'' ≡ Some (bytes ++ take k tail))) → failures' ≤ failures'' → Rose failures' failures'' → RunsGenerated tool w n (let answer : Result U Stop = Err stop in answer) start (moment_at_end last) told told'' failures failures''
    generated-broken U stop all told'' failures'' none tail write off empty behind r front never rose =
        let ran = r.ran in
        let wrote = told-front told told' told'' ran.text tail ran.tells front in
        let quiet : true ≡ is_quiet w = sym (quiet-generated w n is) in
        let progress : Progress (is_quiet w) (over_sink start told) (over_sink last told') counts ran.text all (on_lines 1 commands) =
        subst (λ q. Progress q (over_sink start told) (over_sink last told') counts ran.text all (on_lines 1 commands)) quiet ran.progress in
        let tail_is : tail ≡ lines_text (tail_lines w all counts last.state.homes) = behind ∙ ap (λ xs. xs ++ lines_text (tail_lines w all counts last.state.homes)) empty in
        let cut : IsCutText (style_by (is_quiet w) last.armed) (text_of w last.armed all) (over_sink start told) (over_sink last told'') (on_lines 1 commands) =
        cut-tail progress (text_of w last.armed all) tail (take wrote.0 tail) (drop wrote.0 tail) told'' (omega (arith, ran.count, generated-most tool n w.seed most)) (tail-unnumbered w all tail progress tail_is) (text-says w all tail progress tail_is) (sym (take-append-drop wrote.0 tail)) wrote.1 in
        record {
          run = tt;
          cut =
              cut-same (over_sink (moment_at_end last) told'') refl refl
              (subst (λ q. IsCutText (style_by q false) (text_of w false (length commands)) (over_sink start told) (over_sink last told'') (on_lines 1 commands)) (sym quiet)
              (subst (λ k. IsCutText (style_by (is_quiet w) false) (text_of w false k) (over_sink start told) (over_sink last told'') (on_lines 1 commands)) ran.count
              (subst (λ on. IsCutText (style_by (is_quiet w) on) (text_of w on all) (over_sink start told) (over_sink last told'') (on_lines 1 commands)) off cut)));
          read = write-read stop write;
          write = λ other. Rose-earlier failures failures' failures'' r.writes rose;
          writes = omega (arith, r.writes, never);
        }

  -- nothing was run
  pub generated-none : {U : Type 0} (start last : Moment) (told : Option (List ℕ)) (failures : ℕ) (stop : Stop) → stop ≡ Memory → KeepsAccounts start.accounts last.accounts → RunsGenerated tool w n (let answer : Result U Stop = Err stop in answer) start last told told failures failures
  generated-none start last told failures stop memory keeps = record {
    run = tt;
    cut = cuts-generated (over_sink start told) (over_sink last told) keeps refl;
    read = memory-read stop memory;
    write = λ other. absurd (memory-write stop memory other);
    writes = omega arith;
  }
