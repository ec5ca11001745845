-- How far a run of a source's lines came where it was broken off.
use Rattle.vc_base.proofs.Common.{◌≡◌, ℕ, ◌+◌, ◌<◌, ◌≤◌, ◌==◌, Bool, false, List, [], ◌∷◌, ◌++◌, length, IfSome, Some, None, Ok, Err, Option, Result, sym, refl, ap, ◌∙◌, subst, append_assoc, append-nil, arith, length-map, take, drop, take-append-drop, length-take-le, same_Some}
use Rattle.std.proofs.lemmas.List.{append_cancel_left}
use Rattle.vc_script.specs.declared.command.Command.{Command}
use Rattle.vc_counts.specs.declared.counts.Counts.{Counts}
use Rattle.vc_steps.specs.Moment.{Moment}
use Rattle.vc_script.specs.declared.reply.Reply.{Reply}
use Rattle.vc_script.specs.declared.tool.Tool.{Tool}
use Rattle.vc_steps.specs.Account.{KeepsAccounts}
use Rattle.vc_session.specs.Engine.{LineRan}
use Rattle.vc_base.specs.declared.fault.OutOfMemory.{OutOfMemory}
use Rattle.vc_script.specs.declared.line_fault.LineFault.{LineFault}
use Rattle.vc_script.specs.Answer.{answer}
use Rattle.vc_session.specs.Arming.{IsVersionOne}
use Rattle.vc_session.specs.Cut.{NotAhead, ReadsNoFurther}
use Rattle.vc_script.specs.Cutting.{Cutting}
use Rattle.vc_session.specs.Far.{RanFar, RanPart, WrotePart}
use Rattle.vc_model.specs.Stream.{Reads, Takes}
use Rattle.vc_script.specs.Judged.{judged_lines}
use Rattle.vc_script.specs.Lines.{ended_lines}
use Rattle.vc_session.specs.Progress.{Progress}
use Rattle.vc_session.specs.declared.style.Style.{Style}
use Rattle.vc_session.specs.QuietText.{body_by, needs_by_text, style_by}
use Rattle.vc_session.specs.Replay.{IsRunOf, run_by}
use Rattle.vc_base.specs.Told.{Told}
use Rattle.vc_session.specs.Run.{Ran, commands_in, is_second, is_second_in, lines_of, script, wholly_read}
use Rattle.vc_session.specs.SoFar.{ArmsBy, FoundSoFar, GoesFar, GoesOn, RanPartBy, Reading, Running, RunsPiece, SoFar, judged_rest}
use Rattle.vc_session.proofs.Cuts.{BeginsWithReplies, far-front, far-none, far-of, far-on}
use Rattle.vc_session.proofs.FirstRuns.{length-replies}
use Rattle.vc_session.proofs.Fronts.{ended-least}
use Rattle.vc_session.proofs.RunMiddle.{running-line}
use Rattle.vc_session.proofs.SoFar.{if_both, if_some, none-behind, so_far-none}
use Rattle.vc_steps.proofs.SettledShelf.{keeps-same}

-- of an input whose first lines are these, what was run was written as its version asks for
run-style : {tool : Tool} {quiet : Bool} {start now : Moment} {counts : Counts} {text : List ℕ} {count : ℕ} (whole : FoundSoFar) (r : Running tool quiet start now counts text count whole) (input : List ℕ) (rest : FoundSoFar) → judged_lines input ≡ whole ++ rest → RanFar (style_by quiet now.armed) start now text r.done → RanFar (style_by quiet (is_second tool input)) start now text r.done
run-style {tool} {quiet} {start} {now} {text = text} [] r input rest all far =
    let none : r.done ≡ [] = sym (append-nil r.done) ∙ sym (r.script []) in
    subst (RanFar (style_by quiet (is_second tool input)) start now text) (sym none) (far-none (style_by quiet (is_second tool input)) (subst (RanFar (style_by quiet now.armed) start now text) none far))
run-style {tool} {quiet} {start} {now} {text = text} (line ∷ others) r input rest all far =
    subst (λ second. RanFar (style_by quiet second) start now text r.done) (r.armed ∙ ap (is_second_in tool) (sym all)) far

run-arms : {tool : Tool} {quiet : Bool} {start now : Moment} {counts : Counts} {text : List ℕ} {count : ℕ} (whole : FoundSoFar) (r : Running tool quiet start now counts text count whole) (input : List ℕ) (rest : FoundSoFar) → judged_lines input ≡ whole ++ rest → ArmsBy tool input now
run-arms [] r input rest all = λ one. r.armed
run-arms {tool} (line ∷ others) r input rest all = λ one. r.armed ∙ (ap (is_second_in tool) (sym all) ∙ ap (λ v. v == 2) one)

-- what was run so far of a source's script was run, and no fault less is counted later
pub so_far-part : {tool : Tool} {quiet : Bool} {start now : Moment} {counts : Counts} {told left : Option (List ℕ)} {s : Cutting} {rest : List ℕ} (next : Moment) (front old new : List ℕ) → new ≡ old → next.armed ≡ now.armed → SoFar tool quiet start now counts (front ++ old) told left s rest → KeepsAccounts now.accounts next.accounts → IfSome told (λ input. RanPartBy tool quiet start next (front ++ new) input)
so_far-part {tool} {quiet} {start} {now} {told = told} {s = s} {rest = rest} next front old new same armed r keeps =
    if_some told _ _ (λ input reading.
    let others : FoundSoFar = judged_rest s (rest ++ reading.behind) in
    let all : judged_lines input ≡ r.whole ++ others = ap judged_lines reading.split ∙ reading.lines reading.behind in
    record {
      part = record {
        done = r.running.done;
        rest = commands_in tool others;
        split = ap (commands_in tool) all ∙ r.running.script others;
        far = far-on next (subst (λ xs. RanFar (style_by quiet (is_second tool input)) start now (front ++ xs) r.running.done) (sym same) (run-style r.whole r.running input others all (far-of r.running.progress))) keeps;
      };
      arms = λ one. armed ∙ run-arms r.whole r.running input others all one;
    }) r.reading

pub so_far-here : {tool : Tool} {quiet : Bool} {start now : Moment} {counts : Counts} {text : List ℕ} {told left : Option (List ℕ)} {s : Cutting} {rest : List ℕ} → SoFar tool quiet start now counts text told left s rest → IfSome told (λ input. RanPartBy tool quiet start now text input)
so_far-here {tool} {quiet} {start} {now} {text = text} {told = told} r =
    subst (λ xs. IfSome told (λ input. RanPartBy tool quiet start now xs input)) (append-nil text)
    (so_far-part now text [] [] refl refl (so_far-none [] refl r) (keeps-same now.accounts))

-- what a sink tells behind a text and a front of a piece
pub told-front : (before now after : Option (List ℕ)) (text piece : List ℕ) → Told before now text → IfSome now (λ w. (k : ℕ) × (after ≡ Some (w ++ take k piece))) → (k : ℕ) × Told before after (text ++ take k piece)
told-front None now after text piece told front = (0, tt)
told-front (Some w) now after text piece told front =
    let at : (k : ℕ) × (after ≡ Some ((w ++ text) ++ take k piece)) = subst (λ (o : Option (List ℕ)). IfSome o (λ bytes. (k : ℕ) × (after ≡ Some (bytes ++ take k piece)))) told front in
    (at.0, at.1 ∙ ap Some (append_assoc w text (take at.0 piece)))

-- a text and a front of a piece are a front of both
pub text-front : (text : List ℕ) (k : ℕ) (piece : List ℕ) → text ++ piece ≡ (text ++ take k piece) ++ drop k piece
text-front text k piece = ap (λ xs. text ++ xs) (sym (take-append-drop k piece)) ∙ sym (append_assoc text (take k piece) (drop k piece))

-- replies that are written plainly have a line each, or more
plain-lines : (second : Bool) (replies : List (ℕ × Reply)) (front behind : List ℕ) (after : Option (List ℕ)) (written : List ℕ) → after ≡ Some (front ++ (body_by (style_by false second) replies ++ behind)) → after ≡ Some (front ++ written) → length replies ≤ length (ended_lines written)
plain-lines second replies front behind after written is same =
    let body : List ℕ = body_by (style_by false second) replies in
    let all : written ≡ body ++ behind = append_cancel_left front written (body ++ behind) (same_Some (front ++ written) (front ++ (body ++ behind)) (sym same ∙ is)) in
    subst (λ xs. length replies ≤ length (ended_lines xs)) (sym all) (ended-least second replies behind)

plain-progress : {quiet : Bool} {start now : Moment} {counts : Counts} {text : List ℕ} {count : ℕ} {done : List (ℕ × Command)} → Progress quiet start now counts text count done → quiet ≡ false → (front behind : List ℕ) (after : Option (List ℕ)) (written : List ℕ) → after ≡ Some (front ++ (text ++ behind)) → after ≡ Some (front ++ written) → length done ≤ length (ended_lines written)
plain-progress {now = now} {text = text} {done = done} p plain front behind after written is same =
    let body : text ≡ body_by (style_by false now.armed) p.ran.replies = p.told ∙ ap (λ q. body_by (style_by q now.armed) p.ran.replies) plain in
    let long : length done ≡ length p.ran.replies = sym (length-map done (λ (c : ℕ × Command). c.0)) ∙ (ap length p.lines ∙ length-map p.ran.replies (λ (r : ℕ × Reply). r.0)) in
    omega (arith, long, plain-lines now.armed p.ran.replies front behind after written (is ∙ ap (λ xs. Some (front ++ (xs ++ behind))) body) same)

-- so many commands have their replies
abbrev Replied : ℕ → Option (List ℕ) → Option (List ℕ) → Type 0
Replied most before after = IfSome before (λ front. (written : List ℕ) → after ≡ Some (front ++ written) → most ≤ length (ended_lines written))

-- where each command has its reply none is wanting
not_ahead-of : (tool : Tool) (input : List ℕ) (left before after : Option (List ℕ)) → Replied (length (script tool input)) before after → IfSome before (λ front. (written : List ℕ) → after ≡ Some (front ++ written) → length (ended_lines written) < length (script tool input) → ReadsNoFurther tool input left (length (ended_lines written)))
not_ahead-of tool input left before after replied =
    if_some before _ _ (λ front all written same few. absurd (omega (arith, few, all written same))) replied

-- a run of all commands, to its last or with what stands behind the replies
pub not_ahead-end : {quiet : Bool} {start now : Moment} {counts : Counts} {text : List ℕ} {count : ℕ} (tool : Tool) (input : List ℕ) (left after : Option (List ℕ)) (behind : List ℕ) → Progress quiet start now counts text count (script tool input) → Told start.written after (text ++ behind) → NotAhead tool quiet (Some input) left start.written after
not_ahead-end {start = start} tool input left after behind p told = λ plain.
    not_ahead-of tool input left start.written after
    (if_some start.written _ _ (λ front is written same. plain-progress p plain front behind after written is same) told)

pub not_ahead-run : {quiet second : Bool} {said : Ran → List ℕ} {before after : Moment} (tool : Tool) (input : List ℕ) (left : Option (List ℕ)) → BeginsWithReplies (style_by quiet second) said → IsRunOf quiet second said before after (script tool input) → NotAhead tool quiet (Some input) left before.written after.written
not_ahead-run {quiet} {second} {said} {before} {after} tool input left begins r = λ plain.
    let ran = run_by (style_by quiet second) before (script tool input) r.written in
    let more = begins ran in
    let is : r.written ≡ body_by (style_by false second) ran.replies ++ more.0 = r.text ∙ (more.1 ∙ ap (λ q. body_by (style_by q second) ran.replies ++ more.0) plain) in
    let long : length ran.replies ≡ length (script tool input) = length-replies before.state (script tool input) (needs_by_text (style_by quiet second) (lines_of (script tool input)) r.written) in
    not_ahead-of tool input left before.written after.written
    (if_some before.written _ _ (λ front told written same. omega (arith, long, plain-lines second ran.replies front more.0 after.written written (told ∙ ap (λ xs. Some (front ++ xs)) is) same)) r.told)

module _ {tool : Tool} {quiet : Bool} {start now : Moment} {counts : Counts} {text : List ℕ} {left : Option (List ℕ)} {s : Cutting} {whole : FoundSoFar} (running : Running tool quiet start now counts text s.count whole) {input : List ℕ} (r : Reading tool input left s [] whole) (left' : Option (List ℕ)) (buf : List ℕ) (n : ℕ) (room : length buf ≡ 4096) (reads : Reads left left' buf n) where
  takes : Takes r.behind left' buf n
  takes = subst (λ (o : Option (List ℕ)). IfSome o (λ bytes. Takes bytes left' buf n)) r.unread reads.told

  run_lines : commands_in tool (wholly_read (r.before ++ r.last)) ≡ running.done
  run_lines =
      ap (commands_in tool) (ap wholly_read (sym (append-nil (r.before ++ r.last))) ∙ r.ended [])
      ∙ (running.script [] ∙ append-nil running.done)

  -- behind the lines that were run no more was taken than in one read
  no_further : (most : ℕ) → length running.done ≤ most → ReadsNoFurther tool input left' most
  no_further most few = record {
    before = r.before ++ r.last;
    last = take n r.behind;
    rest = drop n r.behind;
    split = r.split ∙ (ap (λ xs. (r.before ++ r.last) ++ xs) (sym (take-append-drop n r.behind)) ∙ sym (append_assoc (r.before ++ r.last) (take n r.behind) (drop n r.behind)));
    short = omega (arith, length-take-le n r.behind takes.within, reads.fits, room);
    unread = takes.rest;
    few = omega (arith, few, ap length run_lines);
  }

-- a read comes only behind the replies to all that was read before
pub so_far-not_ahead : {tool : Tool} {quiet : Bool} {start now : Moment} {counts : Counts} {text : List ℕ} {told left : Option (List ℕ)} {s : Cutting} (left' : Option (List ℕ)) (buf : List ℕ) (n : ℕ) (before after : Option (List ℕ)) (piece : List ℕ) → SoFar tool quiet start now counts text told left s [] → length buf ≡ 4096 → Reads left left' buf n → Told start.written before text → IfSome before (λ w. (k : ℕ) × (after ≡ Some (w ++ take k piece))) → NotAhead tool quiet told left' start.written after
so_far-not_ahead {tool} {quiet} {start} {text = text} {told = told} {left = left} {s = s} left' buf n before after piece r room reads wrote front =
    let behind = told-front start.written before after text piece wrote front in
    λ plain. if_some told (λ input. Reading tool input left s [] r.whole) (λ input. IfSome start.written (λ w. (written : List ℕ) → after ≡ Some (w ++ written) → length (ended_lines written) < length (script tool input) → ReadsNoFurther tool input left' (length (ended_lines written)))) (λ input reading. if_some start.written (λ w. after ≡ Some (w ++ (text ++ take behind.0 piece))) (λ w. (written : List ℕ) → after ≡ Some (w ++ written) → length (ended_lines written) < length (script tool input) → ReadsNoFurther tool input left' (length (ended_lines written)))
    (λ w is written same few. no_further r.running reading left' buf n room reads (length (ended_lines written)) (plain-progress r.running.progress plain w (take behind.0 piece) after written is same)) behind.1) r.reading

-- a run that goes on was run so far
pub goes-far : {tool : Tool} {quiet : Bool} {first now : Moment} {before counts : Counts} {gathered : List ℕ} {s next : Cutting} {rest rest' : List ℕ} → GoesOn tool quiet first now before counts gathered s next rest rest' → GoesFar tool quiet first now before gathered s rest
goes-far {now = now} {gathered = gathered} g = record { far = λ {start} {text} r. so_far-part now text gathered gathered refl refl (g.on r) (keeps-same now.accounts) }

-- and so it was where nothing more was gathered
pub goes-far-on : {tool : Tool} {quiet : Bool} {first now : Moment} {before counts : Counts} (next : Moment) (gathered more : List ℕ) {s next_cutting : Cutting} {rest rest' : List ℕ} → GoesOn tool quiet first now before counts gathered s next_cutting rest rest' → more ≡ gathered → next.armed ≡ now.armed → KeepsAccounts now.accounts next.accounts → GoesFar tool quiet first next before more s rest
goes-far-on next gathered more g same armed keeps = record { far = λ {start} {text} r. so_far-part next text gathered more same armed (g.on r) keeps }

module _ {style : Style} {start now : Moment} {text : List ℕ} {commands : List (ℕ × Command)} (next : Moment) (p : RanPart style start now text commands) (keeps : KeepsAccounts now.accounts next.accounts) where
  -- a front of what is written of the replies to a part of commands was written
  pub part-wrote : (front behind : List ℕ) → text ≡ front ++ behind → Told start.written next.written front → WrotePart style start next commands
  part-wrote front behind is told = record {
    text = front;
    part = record { done = p.done; rest = p.rest; split = p.split; far = far-on next (far-front front behind p.far is) keeps };
    told = told;
  }

-- whatever a piece came to, what was gathered is of the replies to what was run
pub piece-far : {tool : Tool} {quiet : Bool} {answer : Result (Option (ℕ × LineFault)) OutOfMemory} {first now : Moment} {before counts : Counts} {gathered : List ℕ} {s next : Cutting} {piece : List ℕ} → RunsPiece tool quiet answer first now before counts gathered s next piece → GoesFar tool quiet first now before gathered s piece
piece-far {answer = Ok None} r = goes-far (r.good refl)
piece-far {answer = Ok (Some found)} r = r.far_bad found refl
piece-far {answer = Err want} r = r.far_wanting

-- what of a source's script was run, once all of what was gathered is written
pub wrote-part : (tool : Tool) (quiet : Bool) (start now next : Moment) (told : Option (List ℕ)) (text : List ℕ) → IfSome told (λ input. RanPartBy tool quiet start now text input) → KeepsAccounts now.accounts next.accounts → Told start.written next.written text → IfSome told (λ input. WrotePart (style_by quiet (is_second tool input)) start next (script tool input))
wrote-part tool quiet start now next told text parts keeps wrote =
    if_some told _ _ (λ input p. part-wrote next p.part keeps text [] (sym (append-nil text)) wrote) parts

pub part-arms : (tool : Tool) (quiet : Bool) (start now : Moment) (told : Option (List ℕ)) (text : List ℕ) → IfSome told (λ input. RanPartBy tool quiet start now text input) → IfSome told (λ input. ArmsBy tool input now)
part-arms tool quiet start now told text parts = if_some told _ _ (λ input p. p.arms) parts

-- a script that is known to be of version 1 arms none
pub first-arms : (tool : Tool) (told : Option (List ℕ)) (last : Moment) → IfSome told (λ input. ArmsBy tool input last) → IsVersionOne None tool told → last.armed ≡ false
first-arms tool None last arms first = absurd first
first-arms tool (Some input) last arms first = arms first

-- and so does a moment at which none is
pub unarmed-arms : (tool : Tool) (told : Option (List ℕ)) (last : Moment) → last.armed ≡ false → IfSome told (λ input. ArmsBy tool input last)
unarmed-arms tool None last off = tt
unarmed-arms tool (Some input) last off = λ one. off

-- or a front of it
pub wrote-front : (tool : Tool) (quiet : Bool) (start now next : Moment) (told : Option (List ℕ)) (text piece : List ℕ) (before : Option (List ℕ)) → IfSome told (λ input. RanPartBy tool quiet start now (text ++ piece) input) → KeepsAccounts now.accounts next.accounts → Told start.written before text → IfSome before (λ w. (k : ℕ) × (next.written ≡ Some (w ++ take k piece))) → IfSome told (λ input. WrotePart (style_by quiet (is_second tool input)) start next (script tool input))
wrote-front tool quiet start now next told text piece before parts keeps wrote front =
    let behind = told-front start.written before next.written text piece wrote front in
    if_some told _ _ (λ input p. part-wrote next p.part keeps (text ++ take behind.0 piece) (drop behind.0 piece) (text-front text behind.0 piece) behind.1) parts

-- the end behind a last line, which is good
pub so_far-last : {tool : Tool} {quiet : Bool} {start now : Moment} {before : Counts} {told left : Option (List ℕ)} {s : Cutting} (next : Moment) (counts : Counts) (n : ℕ) (line : List ℕ) → judged_rest s [] ≡ (n, Ok line) ∷ [] → n ≡ s.count + 1 → (front old new : List ℕ) → now.written ≡ Some old → next.written ≡ Some new → SoFar tool quiet start now before (front ++ old) told left s [] → IfSome told (λ input. left ≡ Some []) → LineRan quiet now next before counts n (answer tool (n == 1) line) None → IfSome told (λ input. RanPartBy tool quiet start next (front ++ new) input)
so_far-last {tool} {told = told} next counts n line last follows front old new held holds r at_end ran = if_both told _ _ _ (λ input reading end.
    let running = running-line front old new n line held holds follows r.running ran in
    let whole : FoundSoFar = r.whole ++ (n, Ok line) ∷ [] in
    let all : judged_lines input ≡ whole ++ [] = none-behind reading end ∙ (ap (λ ls. r.whole ++ ls) last ∙ sym (append-nil whole)) in
    record {
      part = record {
        done = running.done;
        rest = [];
        split = ap (commands_in tool) all ∙ running.script [];
        far = run-style whole running input [] all (far-of running.progress);
      };
      arms = run-arms whole running input [] all;
    }) r.reading at_end
