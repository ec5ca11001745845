-- What was written of the script of a source where a run of it was broken off.
use Rattle.vc_base.proofs.Common.{◌≡◌, ℕ, Bool, List, [], ◌++◌, length, take, drop, IfSome, Some, None, Ok, Err, Option, sym, refl, ap, ◌∙◌, subst, append-nil, arith, take-append-drop}
use Rattle.vc_counts.specs.declared.counts.Counts.{Counts}
use Rattle.vc_script.specs.declared.line_fault.LineFault.{LineFault}
use Rattle.vc_script.specs.declared.tool.Tool.{Tool}
use Rattle.vc_script.specs.Judged.{judged_lines}
use Rattle.vc_steps.specs.Account.{KeepsAccounts}
use Rattle.vc_steps.specs.Moment.{Moment, moment_at_end, over_sink}
use Rattle.vc_session.specs.Cut.{Cuts, IsCutText, NotAhead}
use Rattle.vc_session.specs.Engine.{RunsLines, RunsScript}
use Rattle.vc_session.specs.Far.{RanFar, WrotePart}
use Rattle.vc_session.specs.Replay.{IsCutShort}
use Rattle.vc_session.specs.Run.{first_bad, is_second, script}
use Rattle.vc_session.specs.SoFar.{AtEnd}
use Rattle.vc_session.specs.Streams.{Flows}
use Rattle.vc_session.specs.declared.engine.Stop.{Stop}
use Rattle.vc_session.specs.declared.engine.Stop.TheVariants.{Read, Write, Memory}
use Rattle.vc_session.specs.QuietText.{style_by}
use Rattle.vc_session.specs.Text.{counts_of, good_lines, is_quiet, lines_text, tail_lines, text_of}
use Rattle.vc_words.specs.declared.words.Words.{Words}
use Rattle.vc_session.proofs.Behind.{good-same, tail-unnumbered, text-says}
use Rattle.vc_session.proofs.Cuts.{BeginsWithReplies, cut-none, cut-part, cut-same, cut-tail, far-of}
use Rattle.vc_session.proofs.HowFar.{not_ahead-end, told-front}
use Rattle.vc_session.proofs.ScriptLines.{script-lines}
use Rattle.vc_session.proofs.SoFar.{if_some}

-- a run is broken off for one reason
pub memory-read : (stop : Stop) → stop ≡ Memory → stop ≡ Read → ⊥
memory-read stop memory read = let same : Memory ≡ Read = sym memory ∙ read in cc

pub memory-write : (stop : Stop) → stop ≡ Memory → stop ≡ Write → ⊥
memory-write stop memory write = let same : Memory ≡ Write = sym memory ∙ write in cc

pub write-read : (stop : Stop) → stop ≡ Write → stop ≡ Read → ⊥
write-read stop write read = let same : Write ≡ Read = sym write ∙ read in cc

-- the text of a run begins with what is written of its replies
pub text-begins : (w : Words) (second : Bool) (lines : ℕ) → BeginsWithReplies (style_by (is_quiet w) second) (text_of w second lines)
text-begins w second lines ran = (lines_text (tail_lines w lines (counts_of ran) ran.state.homes), refl)

-- what was written of a part of a script is a cut
part-cuts : (tool : Tool) (w : Words) (quiet : Bool) (start now after : Moment) (told : Option (List ℕ)) → quiet ≡ is_quiet w → after.written ≡ now.written → after.accounts ≡ now.accounts → IfSome told (λ input. WrotePart (style_by quiet (is_second tool input)) start now (script tool input)) → Cuts None tool w start after told
part-cuts tool w quiet start now after told by_words written accounts parts =
    if_some told _ _ (λ input part.
    let second : Bool = is_second tool input in
    let lines : ℕ = good_lines (first_bad tool input) (length (judged_lines input)) in
    cut-same after written accounts
    (cut-part (subst (λ q. WrotePart (style_by q second) start now (script tool input)) by_words part) (text_of w second lines) (text-begins w second lines) (script-lines tool input))) parts

-- the lines of a source were run in part
pub script-failed : (tool : Tool) (w : Words) (quiet : Bool) (stop : Stop) (start last : Moment) (counts : Counts) (lines : ℕ) (old new : Flows) → quiet ≡ is_quiet w → RunsLines tool quiet (Err stop) start last counts lines old new → RunsScript tool w (Err stop) start (moment_at_end last) old new
script-failed tool w quiet stop start last counts lines old new by_words r = record {
  replay = tt;
  cut_short = subst (λ q. stop ≡ Read → IfSome old.left (λ input. IsCutShort tool q (over_sink start old.written) (over_sink (moment_at_end last) new.written) input new.left)) by_words r.cut_short;
  cut = part-cuts tool w quiet (over_sink start old.written) (over_sink last new.written) (over_sink (moment_at_end last) new.written) old.left by_words refl refl r.far;
  not_ahead = subst (λ q. stop ≡ Write → NotAhead tool q old.left new.left old.written new.written) by_words r.not_ahead;
  arms = r.arms;
  read = r.read;
  write = r.write;
  reads = r.reads;
  writes = r.writes;
}

-- all lines were run
end-part : {tool : Tool} {quiet : Bool} {start now : Moment} {counts : Counts} {lines : ℕ} {input : List ℕ} {bad : Option (ℕ × LineFault)} {left : Option (List ℕ)} → AtEnd tool quiet start now counts lines input bad left → WrotePart (style_by quiet (is_second tool input)) start now (script tool input)
end-part {tool} {quiet} {start} {now} {input = input} e = record {
  text = e.text;
  part = record {
    done = script tool input;
    rest = [];
    split = sym (append-nil (script tool input));
    far = subst (λ second. RanFar (style_by quiet second) start now e.text (script tool input)) e.armed (far-of e.progress);
  };
  told = e.told;
}

-- and no memory was left for what stands behind their replies
pub tail-wanting : (tool : Tool) (w : Words) (quiet : Bool) (stop : Stop) (start last : Moment) (counts : Counts) (lines : ℕ) (bad : Option (ℕ × LineFault)) (old mid : Flows) → quiet ≡ is_quiet w → stop ≡ Memory → RunsLines tool quiet (Ok bad) start last counts lines old mid → RunsScript tool w (Err stop) start (moment_at_end last) old mid
tail-wanting tool w quiet stop start last counts lines bad old mid by_words memory r = record {
  replay = tt;
  cut_short = λ is. absurd (memory-read stop memory is);
  cut =
      part-cuts tool w quiet (over_sink start old.written) (over_sink last mid.written) (over_sink (moment_at_end last) mid.written) old.left by_words refl refl
      (if_some old.left _ _ (λ input e. end-part e) r.at_end);
  not_ahead = λ is. absurd (memory-write stop memory is);
  arms = r.arms;
  read = λ is. absurd (memory-read stop memory is);
  write = λ is. absurd (memory-write stop memory is);
  reads = r.reads;
  writes = r.writes;
}

-- or a front of it was written
module _ (tool : Tool) (w : Words) (quiet : Bool) (start last : Moment) (counts : Counts) (count : ℕ) where
  tail-end : (bad : Option (ℕ × LineFault)) (old mid : Flows) → quiet ≡ is_quiet w → RunsLines tool quiet (Ok bad) start last counts count old mid → IfSome old.left (λ input. AtEnd tool (is_quiet w) (over_sink start old.written) (over_sink last mid.written) counts count input bad mid.left)
  tail-end bad old mid by_words r = subst (λ q. IfSome old.left (λ input. AtEnd tool q (over_sink start old.written) (over_sink last mid.written) counts count input bad mid.left)) by_words r.at_end

  cut-end : (bad : Option (ℕ × LineFault)) (old mid : Flows) (after : Option (List ℕ)) (tail : List ℕ) → tail ≡ lines_text (tail_lines w (good_lines bad count) counts last.state.homes) → IfSome mid.written (λ bytes. (k : ℕ) × (after ≡ Some (bytes ++ take k tail))) → (input : List ℕ) → AtEnd tool (is_quiet w) (over_sink start old.written) (over_sink last mid.written) counts count input bad mid.left → IsCutText (style_by (is_quiet w) (is_second tool input)) (text_of w (is_second tool input) (good_lines (first_bad tool input) (length (judged_lines input)))) (over_sink start old.written) (over_sink (moment_at_end last) after) (script tool input)
  cut-end bad old mid after tail behind front input e =
      let wrote = told-front old.written mid.written after e.text tail e.told front in
      let numbers : good_lines bad count ≡ good_lines (first_bad tool input) (length (judged_lines input)) =
      good-same bad count (length (judged_lines input)) e.whole ∙ ap (λ b. good_lines b (length (judged_lines input))) e.first in
      subst (λ second. IsCutText (style_by (is_quiet w) second) (text_of w second (good_lines (first_bad tool input) (length (judged_lines input)))) (over_sink start old.written) (over_sink (moment_at_end last) after) (script tool input)) e.armed
      (subst (λ n. IsCutText (style_by (is_quiet w) last.armed) (text_of w last.armed n) (over_sink start old.written) (over_sink (moment_at_end last) after) (script tool input)) numbers
      (cut-same (over_sink (moment_at_end last) after) refl refl
      (cut-tail e.progress (text_of w last.armed (good_lines bad count)) tail (take wrote.0 tail) (drop wrote.0 tail) after (omega (arith, e.few)) (tail-unnumbered w (good_lines bad count) tail e.progress behind) (text-says w (good_lines bad count) tail e.progress behind) (sym (take-append-drop wrote.0 tail)) wrote.1)))

  pub tail-cut : (number lines : ℕ) (bad : Option (ℕ × LineFault)) (old mid : Flows) (after : Option (List ℕ)) (none tail : List ℕ) → quiet ≡ is_quiet w → number ≡ count → lines ≡ good_lines bad number → none ≡ [] → tail ≡ none ++ lines_text (tail_lines w lines counts last.state.homes) → RunsLines tool quiet (Ok bad) start last counts count old mid → IfSome mid.written (λ bytes. (k : ℕ) × (after ≡ Some (bytes ++ take k tail))) → Cuts None tool w (over_sink start old.written) (over_sink (moment_at_end last) after) old.left
  tail-cut number lines bad old mid after none tail by_words counted good empty is r front =
      let behind : tail ≡ lines_text (tail_lines w (good_lines bad count) counts last.state.homes) =
      is
      ∙ (ap (λ xs. xs ++ lines_text (tail_lines w lines counts last.state.homes)) empty
      ∙ ap (λ n. lines_text (tail_lines w n counts last.state.homes)) (good ∙ ap (λ n. good_lines bad n) counted)) in
      if_some old.left _ _ (λ input e. cut-end bad old mid after tail behind front input e) (tail-end bad old mid by_words r)

  pub tail-not_ahead : (bad : Option (ℕ × LineFault)) (old mid : Flows) (left after : Option (List ℕ)) (tail : List ℕ) → quiet ≡ is_quiet w → RunsLines tool quiet (Ok bad) start last counts count old mid → IfSome mid.written (λ bytes. (k : ℕ) × (after ≡ Some (bytes ++ take k tail))) → NotAhead tool (is_quiet w) old.left left old.written after
  tail-not_ahead bad old mid left after tail by_words r front = λ plain. if_some old.left _ _ (λ input e.
      let wrote = told-front old.written mid.written after e.text tail e.told front in
      not_ahead-end tool input left after (take wrote.0 tail) e.progress wrote.1 plain) (tail-end bad old mid by_words r)

-- nothing of a source's script was run and nothing written
pub cuts-source : (tool : Tool) (w : Words) (start now : Moment) (told : Option (List ℕ)) → KeepsAccounts start.accounts now.accounts → now.written ≡ start.written → Cuts None tool w start now told
cuts-source tool w start now None keeps same = tt
cuts-source tool w start now (Some input) keeps same =
    let lines = good_lines (first_bad tool input) (length (judged_lines input)) in
    let second : Bool = is_second tool input in
    cut-none (style_by (is_quiet w) second) (text_of w second lines) (text-begins w second lines) start now (script tool input) (script-lines tool input) keeps same
