-- A run of lines that come in pieces: what was run so far, and what is left.
use Rattle.vc_base.proofs.Common.{◌≡◌, ℕ, ◌+◌, ◌==◌, false, ◌<◌, ◌≤◌, Bool, ◌≢◌, List, [], ◌∷◌, ◌++◌, length, take, drop, IfSome, IfErr, OnErr, IsOk, IsTrue, Some, None, Ok, Err, Option, Result, sym, refl, ap, ◌∙◌, subst, inl, inr, append_assoc, append-nil, arith, take-append-drop, length-take-le, eqb_tells, drop_all, none-some, same_Some, AllByRecursion}
use Rattle.vc_counts.specs.declared.counts.Counts.{Counts}
use Rattle.vc_model.specs.Stream.{Reads, Takes}
use Rattle.vc_base.proofs.Quantifiers.{all-append}
use Rattle.vc_script.specs.declared.line_fault.LineFault.{LineFault}
use Rattle.vc_script.specs.declared.cutter.Cut.{Cut}
use Rattle.vc_script.specs.declared.cutter.Cut.TheVariants.{Whole, More, Bad}
use Rattle.vc_script.specs.declared.tool.Tool.{Tool}
use Rattle.vc_script.specs.Answer.{answer}
use Rattle.vc_script.specs.Cutter.{result_of_feed, end_cut, after_end}
use Rattle.vc_script.specs.Cutting.{Cutting, IsCutting, new_cutting}
use Rattle.vc_script.specs.Judged.{judged_lines, judged_from, judged_then, last_number, line_limit}
use Rattle.vc_script.specs.Lines.{piece}
use Rattle.vc_script.specs.Pieces.{found_then}
use Rattle.vc_script.proofs.Pieces.{Tells, end-tells, fed-tells, judge-ok}
use Rattle.vc_session.specs.Engine.{IsIdle, LineRan}
use Rattle.vc_steps.specs.Moment.{Moment, moment_at_end, over_sink}
use Rattle.vc_session.specs.Progress.{Progress}
use Rattle.vc_session.specs.ProperState.{IsProperState}
use Rattle.vc_session.specs.QuietText.{style_by}
use Rattle.vc_session.specs.Replay.{IsCutShort, IsRunOf, ShowsNoFault, Stops, StopsAtFault}
use Rattle.vc_base.specs.Told.{Told}
use Rattle.vc_session.specs.Run.{commands_in, fault_in, is_second_in, nothing_ran, script, version_in, wholly_read}
use Rattle.vc_session.specs.SoFar.{AtEnd, FoundSoFar, Reading, Running, SoFar, ended_rest, fuel, judged_rest}
use Rattle.vc_session.specs.Text.{replies_text, counts_of}
use Rattle.vc_session.proofs.Feeds.{Feeds, fed-feeds}
use Rattle.vc_session.proofs.Progress.{progress-end, progress-over}
use Rattle.vc_session.proofs.RunMiddle.{bad-line, running-line, running-over, running-same, running-start, second-append}

pub if_some : (o : Option (List ℕ)) (P Q : List ℕ → Type 0) → ((x : List ℕ) → P x → Q x) → IfSome o P → IfSome o Q
if_some None P Q f p = tt
if_some (Some x) P Q f p = f x p

-- what holds of all holds of what there is
pub some-all : (o : Option (List ℕ)) (P : List ℕ → Type 0) → ((x : List ℕ) → P x) → IfSome o P
some-all None P all = tt
some-all (Some x) P all = all x

pub if_both : (o : Option (List ℕ)) (P Q R : List ℕ → Type 0) → ((x : List ℕ) → P x → Q x → R x) → IfSome o P → IfSome o Q → IfSome o R
if_both None P Q R f p q = tt
if_both (Some x) P Q R f p q = f x p q

taken : (bytes : List ℕ) (before after : Option (List ℕ)) (buf : List ℕ) (n : ℕ) → before ≡ Some bytes → Reads before after buf n → Takes bytes after buf n
taken bytes before after buf n told reads = subst (λ (o : Option (List ℕ)). IfSome o (λ b. Takes b after buf n)) told reads.told

-- bytes of a line that has begun are not too many, nor its number too great
begun-short : (number : ℕ) (kept : List ℕ) → length kept ≤ line_limit → (0 < length kept → number ≤ last_number) → AllByRecursion (λ line. IsOk line.1) (judged_from number (piece kept))
begun-short number [] short few = tt
begun-short number (b ∷ bs) short few =
    subst (λ j. AllByRecursion (λ line. IsOk line.1) (judged_then number j [])) (sym (judge-ok number (b ∷ bs) (few (omega arith)) short)) (refl, tt)

few-begun : (s : Cutting) → IsCutting s → 0 < length s.kept → s.count + 1 ≤ last_number
few-begun s is some =
    elim (eqb_tells s.count last_number) [
      | inl last ↦ absurd (omega (arith, ap length (is.no_more last.1), some))
      | inr other ↦ omega (arith, other.1, is.few)
    ]

module _ {tool : Tool} {quiet : Bool} {start now : Moment} {counts : Counts} {text : List ℕ} {count : ℕ} {whole : FoundSoFar} (running : Running tool quiet start now counts text count whole) {input : List ℕ} {left : Option (List ℕ)} {s : Cutting} (is : IsCutting s) (r : Reading tool input left s [] whole) where
  read_lines : wholly_read (r.before ++ r.last) ≡ whole ++ []
  read_lines = ap wholly_read (sym (append-nil (r.before ++ r.last))) ∙ r.ended []

  read_judged : judged_lines (r.before ++ r.last) ≡ whole ++ judged_rest s []
  read_judged = ap judged_lines (sym (append-nil (r.before ++ r.last))) ∙ r.lines []

  -- what was read so far shows no fault
  shows-none : ShowsNoFault tool (r.before ++ r.last)
  shows-none = record {
    good = ap (fault_in tool) read_lines ∙ running.good [];
    short =
        subst (AllByRecursion (λ line. IsOk line.1)) (sym read_judged)
        (all-append (λ line. IsOk line.1) whole (judged_rest s []) running.short (begun-short (s.count + 1) s.kept is.short (few-begun s is)));
  }

  reading-read : (left' : Option (List ℕ)) (buf : List ℕ) (n : ℕ) → length buf ≡ 4096 → Reads left left' buf n → Reading tool input left' s (take n buf) whole
  reading-read left' buf n room reads =
      let t = taken r.behind left left' buf n r.unread reads in
      record {
        before = r.before ++ r.last;
        last = take n r.behind;
        behind = drop n r.behind;
        split = r.split ∙ (ap (λ xs. (r.before ++ r.last) ++ xs) (sym (take-append-drop n r.behind)) ∙ sym (append_assoc (r.before ++ r.last) (take n r.behind) (drop n r.behind)));
        size = omega (arith, length-take-le n r.behind t.within, reads.fits, room);
        no_fault = shows-none;
        unread = t.rest;
        lines = λ more.
            ap judged_lines (append_assoc (r.before ++ r.last) (take n r.behind) more)
            ∙ (r.lines (take n r.behind ++ more)
            ∙ ap (λ xs. whole ++ judged_rest s (xs ++ more)) (sym t.same));
        ended = λ more.
            ap wholly_read (append_assoc (r.before ++ r.last) (take n r.behind) more)
            ∙ (r.ended (take n r.behind ++ more)
            ∙ ap (λ xs. whole ++ ended_rest s (xs ++ more)) (sym t.same));
      }

  reading-cut_short : (left' after : Option (List ℕ)) → left' ≡ left → count ≤ last_number → Told start.written after text → IsCutShort tool quiet start (moment_at_end (over_sink now after)) input left'
  reading-cut_short left' after same few told = record {
    bytes = r.before ++ r.last;
    rest = r.behind;
    split = r.split;
    unread = same ∙ r.unread;
    no_fault = shows-none;
    run =
        subst (λ second. IsRunOf quiet second (replies_text (style_by quiet second)) start (moment_at_end (over_sink now after)) (commands_in tool (wholly_read (r.before ++ r.last)))) (running.armed ∙ ap (is_second_in tool) (sym (append-nil whole) ∙ sym read_lines))
        (subst (IsRunOf quiet now.armed (replies_text (style_by quiet now.armed)) start (moment_at_end (over_sink now after))) (sym (ap (commands_in tool) read_lines ∙ (running.script [] ∙ append-nil running.done)))
        (progress-end running.progress (replies_text (style_by quiet now.armed)) [] after (omega (arith, few)) (λ n below xs. refl) (sym (append-nil (replies_text (style_by quiet now.armed) running.progress.ran))) (subst (Told start.written after) (sym (append-nil text)) told)));
  }

reading-start : (tool : Tool) (o : Option (List ℕ)) → IfSome o (λ input. Reading tool input o new_cutting [] [])
reading-start tool None = tt
reading-start tool (Some input) = record {
  before = [];
  last = [];
  behind = input;
  split = refl;
  size = omega arith;
  no_fault = record { good = refl; short = tt };
  unread = refl;
  lines = λ more. refl;
  ended = λ more. refl;
}

reading-whole : {tool : Tool} {input : List ℕ} {left : Option (List ℕ)} (s after : Cutting) (used : ℕ) (xs : List ℕ) (whole : FoundSoFar) → ((behind : List ℕ) → Tells Whole after used s xs behind) → ((behind : List ℕ) → Feeds Whole after used s xs behind) → Reading tool input left s xs whole → Reading tool input left after (drop used xs) (whole ++ (after.count, Ok after.line) ∷ [])
reading-whole s after used xs whole tells feeds r = record {
  before = r.before;
  last = r.last;
  behind = r.behind;
  split = r.split;
  size = r.size;
  no_fault = r.no_fault;
  unread = r.unread;
  lines = λ more. r.lines more ∙ (ap (λ ls. whole ++ ls) (tells more).0 ∙ sym (append_assoc whole ((after.count, Ok after.line) ∷ []) (judged_rest after (drop used xs ++ more))));
  ended = λ more. r.ended more ∙ (ap (λ ls. whole ++ ls) (feeds more).0 ∙ sym (append_assoc whole ((after.count, Ok after.line) ∷ []) (ended_rest after (drop used xs ++ more))));
}

used-up : (xs : List ℕ) (used : ℕ) → used ≡ length xs → drop used xs ≡ []
used-up xs used e = drop_all used xs (omega (arith, e))

reading-more : {tool : Tool} {input : List ℕ} {left : Option (List ℕ)} (s after : Cutting) (used : ℕ) (xs : List ℕ) (whole : FoundSoFar) → ((behind : List ℕ) → Tells More after used s xs behind) → ((behind : List ℕ) → Feeds More after used s xs behind) → Reading tool input left s xs whole → Reading tool input left after (drop used xs) whole
reading-more s after used xs whole tells feeds r = let none = used-up xs used (feeds []).1.1.1.0 in record {
  before = r.before;
  last = r.last;
  behind = r.behind;
  split = r.split;
  size = r.size;
  no_fault = r.no_fault;
  unread = r.unread;
  lines = λ more. r.lines more ∙ (ap (λ ls. whole ++ ls) (tells more).0 ∙ ap (λ xs'. whole ++ judged_rest after (xs' ++ more)) (sym none));
  ended = λ more. r.ended more ∙ (ap (λ ls. whole ++ ls) (feeds more).0 ∙ ap (λ xs'. whole ++ ended_rest after (xs' ++ more)) (sym none));
}

-- what a call of feed does, whatever is behind what it is given
fed-tells-all : (s : Cutting) (rest : List ℕ) (next : Cutting) (cut : Cut) (used : ℕ) → IsCutting s → result_of_feed s rest ≡ record { after = next; cut = cut; used = used } → (behind : List ℕ) → Tells cut next used s rest behind
fed-tells-all s rest next cut used is e behind = subst (λ f. Tells f.cut f.after f.used s rest behind) e (fed-tells s rest behind is)

fed-feeds-all : (s : Cutting) (rest : List ℕ) (next : Cutting) (cut : Cut) (used : ℕ) → IsCutting s → result_of_feed s rest ≡ record { after = next; cut = cut; used = used } → (behind : List ℕ) → Feeds cut next used s rest behind
fed-feeds-all s rest next cut used is e behind = subst (λ f. Feeds f.cut f.after f.used s rest behind) e (fed-feeds s rest behind is)

pub so_far-start : (tool : Tool) (quiet : Bool) (start : Moment) (counts : Counts) (told : Option (List ℕ)) → start.armed ≡ false → IsProperState start.state → (IsTrue quiet → counts ≡ counts_of (nothing_ran start.state)) → SoFar tool quiet start start counts [] told told new_cutting []
so_far-start tool quiet start counts told off all none = record { whole = []; running = running-start tool quiet start counts off all none; reading = reading-start tool told }

-- the end of a run whose lines are found
at-end-of : {tool : Tool} {quiet : Bool} {start now : Moment} {counts : Counts} {text : List ℕ} {count : ℕ} {whole : FoundSoFar} (input : List ℕ) (left after : Option (List ℕ)) (lines : ℕ) (found : FoundSoFar) (bad : Option (ℕ × LineFault)) → count ≤ last_number → Running tool quiet start now counts text count whole → judged_lines input ≡ whole ++ found → commands_in tool found ≡ [] → fault_in tool found ≡ bad → version_in tool found ≡ 1 → (bad ≡ None → lines ≡ length (judged_lines input)) → Stops tool input bad left → Told start.written after text → AtEnd tool quiet start (over_sink now after) counts lines input bad left
at-end-of {tool} {quiet} {start} {now} {counts} {text} {count} {whole} input left after lines found bad few r all none first one size stops told =
    let done : script tool input ≡ r.done = ap (commands_in tool) all ∙ (r.script found ∙ (ap (λ cs. r.done ++ cs) none ∙ append-nil r.done)) in
    record {
      text = text;
      count = count;
      few = few;
      progress = subst (Progress quiet start (over_sink now after) counts text count) (sym done) (progress-over after r.progress);
      armed = r.armed ∙ (sym (second-append tool whole found one) ∙ ap (is_second_in tool) (sym all));
      told = told;
      first = sym (ap (fault_in tool) all ∙ (r.good found ∙ first));
      stops = stops;
      whole = size;
    }

-- where a line is bad the number of lines isn't asked for
some-bad : (bad : ℕ × LineFault) (lines : ℕ) (found : FoundSoFar) → (let o : Option (ℕ × LineFault) = Some bad in o) ≡ None → lines ≡ length found
some-bad bad lines found none = absurd (none-some bad (sym none))

stops-at : {tool : Tool} {input : List ℕ} {left : Option (List ℕ)} {s : Cutting} {rest : List ℕ} {whole : FoundSoFar} → Reading tool input left s rest whole → StopsAtFault tool input left
stops-at r = record { before = r.before; last = r.last; rest = r.behind; split = r.split; short = r.size; no_fault = r.no_fault; unread = r.unread }

judged-input : {tool : Tool} {input : List ℕ} {left : Option (List ℕ)} {s : Cutting} {rest : List ℕ} {whole : FoundSoFar} (r : Reading tool input left s rest whole) → judged_lines input ≡ whole ++ judged_rest s (rest ++ r.behind)
judged-input r = ap judged_lines r.split ∙ r.lines r.behind

module _ {tool : Tool} {quiet : Bool} {start now : Moment} {counts : Counts} {text : List ℕ} {told left : Option (List ℕ)} {s : Cutting} where
  -- the same, over another sink
  pub so_far-over : {rest : List ℕ} (written : Option (List ℕ)) → SoFar tool quiet start now counts text told left s rest → SoFar tool quiet start (over_sink now written) counts text told left s rest
  so_far-over written r = record { whole = r.whole; running = running-over written r.running; reading = r.reading }

  -- nothing was gathered yet
  pub so_far-none : {rest : List ℕ} (none : List ℕ) → none ≡ [] → SoFar tool quiet start now counts text told left s rest → SoFar tool quiet start now counts (text ++ none) told left s rest
  so_far-none {rest} none e r = subst (λ xs. SoFar tool quiet start now counts xs told left s rest) (sym (ap (λ xs. text ++ xs) e ∙ append-nil text)) r

  -- a piece was read
  pub so_far-read : (left' : Option (List ℕ)) (buf : List ℕ) (n : ℕ) → SoFar tool quiet start now counts text told left s [] → IsCutting s → length buf ≡ 4096 → Reads left left' buf n → SoFar tool quiet start now counts text told left' s (take n buf)
  so_far-read left' buf n r is room reads = record {
    whole = r.whole;
    running = r.running;
    reading = if_some told _ _ (λ input reading. reading-read r.running is reading left' buf n room reads) r.reading;
  }

  -- a read failed where no byte was left over
  pub so_far-cut_short : (left' after : Option (List ℕ)) → SoFar tool quiet start now counts text told left s [] → IsCutting s → left' ≡ left → Told start.written after text → IfSome told (λ input. IsCutShort tool quiet start (moment_at_end (over_sink now after)) input left')
  so_far-cut_short left' after r is same written = if_some told _ _ (λ input reading. reading-cut_short r.running is reading left' after same is.few written) r.reading

module _ {tool : Tool} {quiet : Bool} {start now : Moment} {counts : Counts} {text : List ℕ} {told left : Option (List ℕ)} {s : Cutting} {rest : List ℕ} (next : Cutting) (used : ℕ) (is : IsCutting s) where
  -- a piece is used up
  pub so_far-more : SoFar tool quiet start now counts text told left s rest → result_of_feed s rest ≡ record { after = next; cut = More; used = used } → SoFar tool quiet start now counts text told left next (drop used rest)
  so_far-more r e = record {
    whole = r.whole;
    running = subst (λ n. Running tool quiet start now counts text n r.whole) (sym (fed-feeds-all s rest next More used is e []).1.1.1.1) r.running;
    reading = if_some told _ _ (λ input reading. reading-more s next used rest r.whole (fed-tells-all s rest next More used is e) (fed-feeds-all s rest next More used is e) reading) r.reading;
  }

  -- a line can't be taken
  pub so_far-bad_cut : (fault : LineFault) (lines : ℕ) (after : Option (List ℕ)) → SoFar tool quiet start now counts text told left s rest → result_of_feed s rest ≡ record { after = next; cut = Bad fault; used = used } → Told start.written after text → IfSome told (λ input. AtEnd tool quiet start (over_sink now after) counts lines input (Some (next.count + 1, fault)) left)
  so_far-bad_cut fault lines after r e written = if_some told _ _ (λ input reading.
      let bad : ℕ × LineFault = (next.count + 1, fault) in
      at-end-of input left after lines ((next.count + 1, Err fault) ∷ []) (Some bad) is.few r.running (judged-input reading ∙ ap (λ ls. r.whole ++ ls) (fed-tells-all s rest next (Bad fault) used is e reading.behind)) refl refl refl (some-bad bad lines (judged_lines input)) (stops-at reading) written) r.reading

-- a line was run
pub so_far-line : {tool : Tool} {quiet : Bool} {start now : Moment} {before counts : Counts} (next_moment : Moment) {told left : Option (List ℕ)} {s : Cutting} {rest : List ℕ} (front old new : List ℕ) (next : Cutting) (used : ℕ) → now.written ≡ Some old → next_moment.written ≡ Some new → IsCutting s → SoFar tool quiet start now before (front ++ old) told left s rest → result_of_feed s rest ≡ record { after = next; cut = Whole; used = used } → LineRan quiet now next_moment before counts next.count (answer tool (next.count == 1) next.line) None → SoFar tool quiet start next_moment counts (front ++ new) told left next (drop used rest)
so_far-line next_moment {told} {left} {s} {rest} front old new next used held holds is r e ran = record {
  whole = r.whole ++ (next.count, Ok next.line) ∷ [];
  running = running-line front old new next.count next.line held holds (fed-feeds-all s rest next Whole used is e []).1.1.1 r.running ran;
  reading = if_some told _ _ (λ input reading. reading-whole s next used rest r.whole (fed-tells-all s rest next Whole used is e) (fed-feeds-all s rest next Whole used is e) reading) r.reading;
}

-- a line that asks for nothing leaves what was gathered
idle-told : {now next : Moment} {before counts : Counts} (front old new : List ℕ) (was after : Option (List ℕ)) → now.written ≡ Some old → next.written ≡ Some new → IsIdle now next before counts → Told was after (front ++ new) → Told was after (front ++ old)
idle-told front old new was after held holds idle written =
    subst (λ xs. Told was after (front ++ xs)) (same_Some new old (sym holds ∙ (idle.told ∙ held))) written

-- a line is bad
pub so_far-bad_line : {tool : Tool} {quiet : Bool} {start now : Moment} {before : Counts} (next_moment : Moment) (counts : Counts) {told left : Option (List ℕ)} {s : Cutting} {rest : List ℕ} (front old new : List ℕ) (next : Cutting) (used : ℕ) (fault : LineFault) (lines : ℕ) (after : Option (List ℕ)) → now.written ≡ Some old → next_moment.written ≡ Some new → IsCutting s → SoFar tool quiet start now before (front ++ old) told left s rest → result_of_feed s rest ≡ record { after = next; cut = Whole; used = used } → LineRan quiet now next_moment before counts next.count (answer tool (next.count == 1) next.line) (Some fault) → Told start.written after (front ++ new) → IfSome told (λ input. AtEnd tool quiet start (over_sink next_moment after) counts lines input (Some (next.count, fault)) left)
so_far-bad_line {tool} {quiet} {start} next_moment counts {told} {left} {s} {rest} front old new next used fault lines after held holds is r e ran written = if_some told _ _ (λ input reading.
    let line = bad-line quiet tool next.count next.line fault ran in
    let behind = judged_rest next (drop used rest ++ reading.behind) in
    let bad : ℕ × LineFault = (next.count, fault) in
    at-end-of input left after lines ((next.count, Ok next.line) ∷ behind) (Some bad) is.few (running-same r.running line.idle) (judged-input reading ∙ ap (λ ls. r.whole ++ ls) (fed-tells-all s rest next Whole used is e reading.behind).0) (line.none behind) (line.first behind) (line.version behind) (some-bad bad lines (judged_lines input)) (stops-at reading) (idle-told front old new start.written after held holds line.idle written)) r.reading

-- nothing is behind the bytes of a source that is at its end
pub none-behind : {tool : Tool} {input : List ℕ} {left : Option (List ℕ)} {s : Cutting} {whole : FoundSoFar} (r : Reading tool input left s [] whole) → left ≡ Some [] → judged_lines input ≡ whole ++ judged_rest s []
none-behind {s = s} {whole = whole} r at_end = judged-input r ∙ ap (λ xs. whole ++ judged_rest s xs) (same_Some r.behind [] (sym r.unread ∙ at_end))

module _ {tool : Tool} {quiet : Bool} {start now : Moment} {before : Counts} {told left : Option (List ℕ)} {s : Cutting} (is : IsCutting s) where
  -- the end, with no line begun
  pub so_far-end_none : {text : List ℕ} (lines : ℕ) (after : Option (List ℕ)) → lines ≡ s.count → SoFar tool quiet start now before text told left s [] → IfSome told (λ input. left ≡ Some []) → judged_rest s [] ≡ [] → Told start.written after text → IfSome told (λ input. AtEnd tool quiet start (over_sink now after) before lines input None left)
  so_far-end_none lines after same r at_end last written = if_both told _ _ _ (λ input reading end.
      let all : judged_lines input ≡ r.whole ++ [] = none-behind reading end ∙ ap (λ ls. r.whole ++ ls) last in
      at-end-of input left after lines [] None is.few r.running all refl refl refl (λ none. same ∙ (sym r.running.size ∙ sym (ap length (all ∙ append-nil r.whole)))) end written) r.reading at_end

  module _ (next : Moment) (counts : Counts) (n : ℕ) (line : List ℕ) (last : judged_rest s [] ≡ (n, Ok line) ∷ []) (follows : n ≡ s.count + 1) where
    -- the end behind a last line, which is good
    pub so_far-end_good : (front old new : List ℕ) (after : Option (List ℕ)) → n ≤ last_number → now.written ≡ Some old → next.written ≡ Some new → SoFar tool quiet start now before (front ++ old) told left s [] → IfSome told (λ input. left ≡ Some []) → LineRan quiet now next before counts n (answer tool (n == 1) line) None → Told start.written after (front ++ new) → IfSome told (λ input. AtEnd tool quiet start (over_sink next after) counts n input None left)
    so_far-end_good front old new after few held holds r at_end ran written = if_both told _ _ _ (λ input reading end.
        let running = running-line front old new n line held holds follows r.running ran in
        let whole : FoundSoFar = r.whole ++ (n, Ok line) ∷ [] in
        let all : judged_lines input ≡ whole = none-behind reading end ∙ ap (λ ls. r.whole ++ ls) last in
        at-end-of input left after n [] None few running (all ∙ sym (append-nil whole)) refl refl refl (λ none. sym running.size ∙ sym (ap length all)) end written) r.reading at_end

    -- or bad
    pub so_far-end_bad : (front old new : List ℕ) (fault : LineFault) (lines : ℕ) (after : Option (List ℕ)) → now.written ≡ Some old → next.written ≡ Some new → SoFar tool quiet start now before (front ++ old) told left s [] → IfSome told (λ input. left ≡ Some []) → LineRan quiet now next before counts n (answer tool (n == 1) line) (Some fault) → Told start.written after (front ++ new) → IfSome told (λ input. AtEnd tool quiet start (over_sink next after) counts lines input (Some (n, fault)) left)
    so_far-end_bad front old new fault lines after held holds r at_end ran written = if_both told _ _ _ (λ input reading end.
        let at = bad-line quiet tool n line fault ran in
        let bad : ℕ × LineFault = (n, fault) in
        at-end-of input left after lines ((n, Ok line) ∷ []) (Some bad) is.few (running-same r.running at.idle) (none-behind reading end ∙ ap (λ ls. r.whole ++ ls) last) (at.none []) (at.first []) (at.version []) (some-bad bad lines (judged_lines input)) (stops-at reading) (idle-told front old new start.written after held holds at.idle written)) r.reading at_end

-- a read that gave nothing found nothing left
pub at-end : {tool : Tool} {quiet : Bool} {start now : Moment} {counts : Counts} {text : List ℕ} {told left : Option (List ℕ)} {s : Cutting} (left' : Option (List ℕ)) (buf : List ℕ) → SoFar tool quiet start now counts text told left s [] → length buf ≡ 4096 → Reads left left' buf 0 → IfSome told (λ input. left' ≡ Some [])
at-end {told = told} {left = left} left' buf r room reads = if_some told _ _ (λ input reading.
    let t = taken reading.behind left left' buf 0 reading.unread reads in
    t.rest ∙ ap Some (t.at_end (omega (arith, room)) refl)) r.reading

-- what else a call of feed keeps
pub record Kept (s next : Cutting) (rest : List ℕ) (used : ℕ) : Type 0 where
  pub less : fuel next + used ≤ fuel s
  pub fed : next.is_open ≡ s.is_open
  pub cutting : IsCutting next

pub whole-kept : (s : Cutting) (rest : List ℕ) (next : Cutting) (used : ℕ) → IsCutting s → result_of_feed s rest ≡ record { after = next; cut = Whole; used = used } → Kept s next rest used
whole-kept s rest next used is e =
    let tells = fed-tells-all s rest next Whole used is e [] in
    let feeds = fed-feeds-all s rest next Whole used is e [] in
    record { less = feeds.1.0; fed = feeds.1.1.0; cutting = tells.1.0 }

pub more-kept : (s : Cutting) (rest : List ℕ) (next : Cutting) (used : ℕ) → IsCutting s → result_of_feed s rest ≡ record { after = next; cut = More; used = used } → Kept s next rest used
more-kept s rest next used is e =
    let tells = fed-tells-all s rest next More used is e [] in
    let feeds = fed-feeds-all s rest next More used is e [] in
    record { less = feeds.1.0; fed = feeds.1.1.0; cutting = tells.1 }

-- how many lines were whole
pub whole-count : (s : Cutting) (rest : List ℕ) (next : Cutting) (used : ℕ) → IsCutting s → result_of_feed s rest ≡ record { after = next; cut = Whole; used = used } → next.count ≡ s.count + 1
whole-count s rest next used is e = (fed-feeds-all s rest next Whole used is e []).1.1.1

pub more-count : (s : Cutting) (rest : List ℕ) (next : Cutting) (used : ℕ) → IsCutting s → result_of_feed s rest ≡ record { after = next; cut = More; used = used } → next.count ≡ s.count
more-count s rest next used is e = (fed-feeds-all s rest next More used is e []).1.1.1.1

-- the answer of a call of feed, as it was told
pub fed-is : (s : Cutting) (rest : List ℕ) (next : Cutting) (cut known : Cut) (used : ℕ) → result_of_feed s rest ≡ record { after = next; cut = cut; used = used } → cut ≡ known → result_of_feed s rest ≡ record { after = next; cut = known; used = used }
fed-is s rest next cut known used e is = subst (λ k. result_of_feed s rest ≡ record { after = next; cut = k; used = used }) is e

unwrap : {A E : Type 0} → A → Result (Option A) E → A
unwrap d (Ok (Some x)) = x
unwrap d (Ok None) = d
unwrap d (Err e) = d

pub ok-some : {A E : Type 0} (x y : A) → (let r : Result (Option A) E = Ok (Some x) in r) ≡ Ok (Some y) → x ≡ y
unfolding unwrap
ok-some x y e = ap (unwrap x) e

none-of : (kept : List ℕ) (a : Cutting) → end_cut kept ≢ Whole → found_then (end_cut kept) a [] [] ≡ []
none-of [] a other = refl
none-of (b ∷ bs) a other = absurd (other refl)

-- no line has begun
pub end-none : (s : Cutting) (cut : Cut) → IsCutting s → cut ≡ end_cut s.kept → cut ≢ Whole → judged_rest s [] ≡ []
end-none s cut is e other = sym (end-tells s is) ∙ none-of s.kept (after_end s s.kept) (λ whole. other (e ∙ whole))

-- the line that has begun is the last
pub end-whole : (s next : Cutting) (cut : Cut) → IsCutting s → next ≡ after_end s s.kept → cut ≡ end_cut s.kept → cut ≡ Whole → judged_rest s [] ≡ (next.count, Ok next.line) ∷ []
end-whole s next cut is state e whole =
    sym (end-tells s is)
    ∙ (ap (λ k. found_then k (after_end s s.kept) [] []) (sym e ∙ whole)
    ∙ ap (λ a. let found : FoundSoFar = (a.count, Ok a.line) ∷ [] in found) (sym state))

end-count-by : (s : Cutting) (kept : List ℕ) → end_cut kept ≡ Whole → (after_end s kept).count ≡ s.count + 1
end-count-by s [] whole = absurd cc
end-count-by s (b ∷ bs) whole = refl

-- its number is one more than that of the others
pub end-count : (s next : Cutting) (cut : Cut) → next ≡ after_end s s.kept → cut ≡ end_cut s.kept → cut ≡ Whole → next.count ≡ s.count + 1
end-count s next cut state e whole = ap (λ (a : Cutting). a.count) state ∙ end-count-by s s.kept (sym e ∙ whole)

end-same-by : (s : Cutting) (kept : List ℕ) → end_cut kept ≢ Whole → (after_end s kept).count ≡ s.count
end-same-by s [] other = refl
end-same-by s (b ∷ bs) other = absurd (other refl)

-- with no line begun the number stays
pub end-same : (s next : Cutting) (cut : Cut) → next ≡ after_end s s.kept → cut ≡ end_cut s.kept → cut ≢ Whole → next.count ≡ s.count
end-same s next cut state e other = ap (λ (a : Cutting). a.count) state ∙ end-same-by s s.kept (λ whole. other (e ∙ whole))

pub new-is : IsCutting new_cutting
new-is = record { short = omega arith; few = omega arith; no_more = λ e. refl }

pub on_err : {T E : Type 0} (r : Result T E) (P : Type 0) → P → OnErr r P
on_err (Ok x) P p = tt
on_err (Err e) P p = p

pub if_err : {T E : Type 0} (r : Result T E) (Q : E → Type 0) (P : Type 0) → P → IfErr r (λ e. Q e → P)
if_err (Ok x) Q P p = tt
if_err (Err e) Q P p = λ q. p
