-- What was written of a run that was broken off is a cut.
use Rattle.vc_base.proofs.Common.{◌≡◌, ℕ, ◌^◌, ◌<◌, ◌≤◌, Bool, false, cond, eqb, ◌==◌, List, [], ◌∷◌, ◌++◌, Some, None, Option, count_by, sym, refl, ap, ap₂, ◌∙◌, subst, inl, inr, append_assoc, append-nil, arith, eq-eqb, nat_tests, map-append, AllByRecursion}
use Rattle.std.proofs.lemmas.Grind.{flat_map-append}
use Rattle.vc_base.proofs.Quantifiers.{all-append, all-push}
use Rattle.vc_script.specs.declared.command.Command.{Command}
use Rattle.vc_counts.specs.declared.counts.Counts.{Counts}
use Rattle.vc_script.specs.ProperReply.{IsProperReply}
use Rattle.vc_steps.specs.Moment.{Moment, over_sink}
use Rattle.vc_script.specs.declared.reply.Reply.{Reply}
use Rattle.vc_steps.specs.State.{State}
use Rattle.vc_model.specs.Count.{RoseBy}
use Rattle.vc_steps.specs.Account.{KeepsAccounts, Settles, faults_of}
use Rattle.vc_model.specs.Numbered.{at_number}
use Rattle.vc_script.specs.Lines.{ended_lines}
use Rattle.vc_script.specs.Needs.{AreAscending, Need, NoNeed, ShowsNeeds, need_at, need_shown}
use Rattle.vc_session.specs.Cut.{IsCutText, IsFurther, RoseAsRefused, with_further}
use Rattle.vc_session.specs.Far.{AreLines, RanFar, WrotePart}
use Rattle.vc_session.specs.Progress.{Progress}
use Rattle.vc_session.specs.declared.style.Style.{Style}
use Rattle.vc_session.specs.QuietText.{body_by, line_by, needs_by_text, style_by}
use Rattle.vc_session.specs.Replay.{FaultsStayed, IsRunOf}
use Rattle.vc_base.specs.Told.{Told}
use Rattle.vc_session.specs.Run.{Ran, lines_of, nothing_ran, run_from}
use Rattle.vc_session.specs.Text.{replies_text}
use Rattle.vc_session.proofs.FirstRuns.{FirstRan, LineParts, first-ran, line-parts, replies-append}
use Rattle.vc_session.proofs.FrontNeeds.{ShowsFront, all-split, front-shows, rising-parts}
use Rattle.vc_session.proofs.Fronts.{EndsAmong, IsPartOf, ends-among, none-front}
use Rattle.vc_session.proofs.NoneRefused.{run-none, shown-none, stayed-none, stayed-same}
use Rattle.vc_session.proofs.Progress.{none-needed, none-written, shows, told-none}
use Rattle.vc_session.proofs.ShownNeeds.{NoLine, numbers_of}

-- a text that is said of a run begins with what is written of its replies
abbrev pub BeginsWithReplies : Style → (Ran → List ℕ) → Type 0
BeginsWithReplies style said = (ran : Ran) → (more : List ℕ) × (said ran ≡ replies_text style ran ++ more)

-- of the same lists of refusals or longer ones as much is said
pub rose-fewer : (m n before after : ℕ) → m ≤ n → RoseBy n before after → RoseBy m before after
rose-fewer m n before after fewer (inl more) = inl (omega (arith, fewer, more))
rose-fewer m n before after fewer (inr last) = inr last

-- what a run says whose first replies begin with a front of their text
said-front : (style : Style) (said : Ran → List ℕ) → BeginsWithReplies style said → (s : State) (cs ds : List (ℕ × Command)) (needs : List (ℕ × Need)) (whole : List (ℕ × Reply)) (text rest : List ℕ) → (run_from s cs needs).replies ≡ whole → body_by style whole ≡ text ++ rest → (behind : List ℕ) × (said (run_from s (cs ++ ds) needs) ≡ text ++ behind)
said-front style said begins s cs ds needs whole text rest replied front =
    let more = (begins (run_from s (cs ++ ds) needs)).0 in
    let others = (run_from (run_from s cs needs).state ds needs).replies in (
      rest ++ (body_by style others ++ more),
      (begins (run_from s (cs ++ ds) needs)).1
          ∙ (ap (λ rs. body_by style rs ++ more) (replies-append s cs ds needs ∙ ap (λ rs. rs ++ others) replied)
          ∙ (ap (λ xs. xs ++ more) (flat_map-append (line_by style) whole others ∙ ap (λ xs. xs ++ body_by style others) front)
          ∙ (append_assoc (text ++ rest) (body_by style others) more
          ∙ append_assoc text rest (body_by style others ++ more)))),
    )

-- a further need, where a reply was begun, and what the run for these needs says
record Reaches (said : Ran → List ℕ) (s : State) (commands : List (ℕ × Command)) (needs : List (ℕ × Need)) (text : List ℕ) : Type 0 where
  pub further : Option (ℕ × Need)
  pub is_further : IsFurther needs further
  pub behind : List ℕ
  pub says : said (run_from s commands (with_further needs further)) ≡ text ++ behind

-- a need in front, of a line that is behind those of replies, changes none of theirs
shows-further : (n : ℕ) (need : Need) (needs : List (ℕ × Need)) (rs : List (ℕ × Reply)) → AllByRecursion (λ m. m < n) (numbers_of rs) → ShowsNeeds needs rs → ShowsNeeds ((n, need) ∷ needs) rs
shows-further n need needs [] below shows = tt
shows-further n need needs (r ∷ rs) below shows =
    let other : eqb n r.0 ≡ false = grind (arith, nat_tests, below.0) in
    (ap (λ t. cond t need (need_at needs r.0)) other ∙ shows.0, shows-further n need needs rs below.1 shows.1)

-- one more reply, with its need in front
shows-next : (r : ℕ × Reply) (needs : List (ℕ × Need)) (whole : List (ℕ × Reply)) → AllByRecursion (λ m. m < r.0) (numbers_of whole) → ShowsNeeds needs whole → ShowsNeeds ((r.0, need_shown r.1) ∷ needs) (whole ++ r ∷ [])
shows-next r needs whole below shows =
    all-push (λ q. need_at ((r.0, need_shown r.1) ∷ needs) q.0 ≡ need_shown q.1) whole r (shows-further r.0 (need_shown r.1) needs whole below shows)
    (ap (λ t. cond t (need_shown r.1) (need_at needs r.0)) (eq-eqb r.0 r.0 refl))

module _ {style : Style} {start now : Moment} {text : List ℕ} {done : List (ℕ × Command)} (f : RanFar style start now text done) (said : Ran → List ℕ) (begins : BeginsWithReplies style said) (rest : List (ℕ × Command)) (rising : AreAscending (lines_of done)) (needs : List (ℕ × Need)) where
  -- the text ends within the reply of the next command, or behind the last
  reaches : (whole others : List (ℕ × Reply)) (part : List ℕ) (cs ds : List (ℕ × Command)) → done ≡ cs ++ ds → f.ran.replies ≡ whole ++ others → lines_of cs ≡ numbers_of whole → lines_of ds ≡ numbers_of others → text ≡ body_by style whole ++ part → IsPartOf style part others → ShowsNeeds needs whole → AllByRecursion (λ n. AllByRecursion (λ m. m < n) (numbers_of whole)) (numbers_of others) → AllByRecursion (λ n. need_at needs n ≡ NoNeed) (numbers_of others) → Reaches said start.state (done ++ rest) needs text
  reaches whole [] part cs ds split parts lines behind is begun shows above none =
      let first = first-ran f rising cs ds whole [] split parts lines needs shows in
      let whole_text : body_by style whole ≡ text ++ [] = sym (append-nil (body_by style whole)) ∙ (ap (λ xs. body_by style whole ++ xs) (sym begun) ∙ (sym is ∙ sym (append-nil text))) in
      let says = said-front style said begins start.state cs (ds ++ rest) needs whole text [] first.replies whole_text in
      let commands : cs ++ (ds ++ rest) ≡ done ++ rest = sym (append_assoc cs ds rest) ∙ ap (λ es. es ++ rest) (sym split) in
      record {
        further = None;
        is_further = tt;
        behind = says.0;
        says = ap (λ es. said (run_from start.state es needs)) (sym commands) ∙ says.1;
      }
  reaches whole (r ∷ rs) part cs [] split parts lines behind is begun shows above none = absurd cc
  reaches whole (r ∷ rs) part cs (d ∷ ds) split parts lines behind is begun shows above none =
      let head : d.0 ≡ r.0 = cc in
      let next = (r.0, need_shown r.1) ∷ needs in
      let split_next : done ≡ (cs ++ d ∷ []) ++ ds = split ∙ sym (append_assoc cs (d ∷ []) ds) in
      let parts_next : f.ran.replies ≡ (whole ++ r ∷ []) ++ rs = parts ∙ sym (append_assoc whole (r ∷ []) rs) in
      let lines_next : lines_of (cs ++ d ∷ []) ≡ numbers_of (whole ++ r ∷ []) =
      map-append (λ (c : ℕ × Command). c.0) cs (d ∷ [])
      ∙ (ap₂ (λ ns n. ns ++ n ∷ []) lines head
      ∙ sym (map-append (λ (q : ℕ × Reply). q.0) whole (r ∷ []))) in
      let first = first-ran f rising (cs ++ d ∷ []) ds (whole ++ r ∷ []) rs split_next parts_next lines_next next (shows-next r needs whole above.0 shows) in
      let whole_text : body_by style (whole ++ r ∷ []) ≡ text ++ begun.0 =
      flat_map-append (line_by style) whole (r ∷ [])
      ∙ (ap (λ xs. body_by style whole ++ xs) (append-nil (line_by style r) ∙ begun.1)
      ∙ (sym (append_assoc (body_by style whole) part begun.0)
      ∙ ap (λ xs. xs ++ begun.0) (sym is))) in
      let says = said-front style said begins start.state (cs ++ d ∷ []) (ds ++ rest) next (whole ++ r ∷ []) text begun.0 first.replies whole_text in
      let commands : (cs ++ d ∷ []) ++ (ds ++ rest) ≡ done ++ rest = sym (append_assoc (cs ++ d ∷ []) ds rest) ∙ ap (λ es. es ++ rest) (sym split_next) in
      record {
        further = Some (r.0, need_shown r.1);
        is_further = none.0;
        behind = says.0;
        says = ap (λ es. said (run_from start.state es next)) (sym commands) ∙ says.1;
      }

module _ {style : Style} {start now : Moment} {text : List ℕ} {done : List (ℕ × Command)} (f : RanFar style start now text done) (said : Ran → List ℕ) (begins : BeginsWithReplies style said) (rest : List (ℕ × Command)) (lines : AreLines (done ++ rest)) where
  ends : EndsAmong style f.ran.replies text
  ends = ends-among style f.ran.replies text f.behind f.proper f.front

  parts : LineParts done (numbers_of ends.whole) (numbers_of ends.others)
  parts = line-parts done (numbers_of ends.whole) (numbers_of ends.others) (f.lines ∙ (ap numbers_of ends.split ∙ map-append (λ (r : ℕ × Reply). r.0) ends.whole ends.others))

  -- the lines of all commands: of those whose replies were written, and of the others
  abbrev behind_lines : List ℕ
  behind_lines = numbers_of ends.others ++ lines_of rest

  all_lines : lines_of (done ++ rest) ≡ numbers_of ends.whole ++ behind_lines
  all_lines =
      map-append (λ (c : ℕ × Command). c.0) done rest
      ∙ (ap (λ ns. ns ++ lines_of rest) (f.lines ∙ (ap numbers_of ends.split ∙ map-append (λ (r : ℕ × Reply). r.0) ends.whole ends.others))
      ∙ append_assoc (numbers_of ends.whole) (numbers_of ends.others) (lines_of rest))

  rising : AreAscending (numbers_of ends.whole ++ behind_lines)
  rising = subst AreAscending all_lines lines.rising

  rising_done : AreAscending (lines_of done)
  rising_done = (rising-parts (lines_of done) (lines_of rest) (subst AreAscending (map-append (λ (c : ℕ × Command). c.0) done rest) lines.rising)).first

  abbrev needs : List (ℕ × Need)
  needs = needs_by_text style (lines_of (done ++ rest)) text

  proper_whole : AllByRecursion (λ r. IsProperReply r.1) ends.whole
  proper_whole = (all-split (λ r. IsProperReply r.1) ends.whole ends.others (subst (AllByRecursion (λ r. IsProperReply r.1)) ends.split f.proper)).0

  shown_needs : ShowsFront needs ends.whole behind_lines
  shown_needs =
      subst (λ ns. ShowsFront (needs_by_text style ns text) ends.whole behind_lines) (sym all_lines)
      (subst (λ xs. ShowsFront (needs_by_text style (numbers_of ends.whole ++ behind_lines) xs) ends.whole behind_lines) (sym ends.is)
      (front-shows style ends.whole ends.part behind_lines (subst (AllByRecursion (λ n. n < 2 ^ 64)) all_lines lines.below) rising proper_whole ends.one_line))

  none_begun : AllByRecursion (λ n. need_at needs n ≡ NoNeed) (numbers_of ends.others)
  none_begun = (all-split (λ n. need_at needs n ≡ NoNeed) (numbers_of ends.others) (lines_of rest) shown_needs.none).0

  above_whole : AllByRecursion (λ n. AllByRecursion (λ m. m < n) (numbers_of ends.whole)) (numbers_of ends.others)
  above_whole = (all-split (λ n. AllByRecursion (λ m. m < n) (numbers_of ends.whole)) (numbers_of ends.others) (lines_of rest) (rising-parts (numbers_of ends.whole) behind_lines rising).behind).0

  reached : Reaches said start.state (done ++ rest) needs text
  reached = reaches f said begins rest rising_done needs ends.whole ends.others ends.part parts.first parts.second parts.split ends.split parts.lines_first parts.lines_second ends.is ends.begun shown_needs.shows above_whole none_begun

  first : FirstRan start.state parts.first needs ends.whole f.ran.refusals
  first = first-ran f rising_done parts.first parts.second ends.whole ends.others parts.split ends.split parts.lines_first needs shown_needs.shows

  first_rose : RoseAsRefused (run_from start.state parts.first needs).refusals start now
  first_rose = λ place. rose-fewer _ _ _ _ (first.refused place) (f.rose place)

  -- where no fault was counted, the text shows no need
  none-shown : FaultsStayed start now → AllByRecursion (λ n. need_at needs n ≡ NoNeed) (lines_of (done ++ rest))
  none-shown stayed =
      let none = stayed-none (run_from start.state parts.first needs).refusals start now first_rose stayed in
      let replied = subst (AllByRecursion (λ r. need_shown r.1 ≡ NoNeed)) first.replies (run-none start.state parts.first needs none) in
      subst (AllByRecursion (λ n. need_at needs n ≡ NoNeed)) (sym all_lines)
      (all-append (λ n. need_at needs n ≡ NoNeed) (numbers_of ends.whole) behind_lines (shown-none needs ends.whole shown_needs.shows replied) shown_needs.none)

  -- a run that went so far was cut where the text ends
  pub cut-of : (after : Option (List ℕ)) → Told start.written after text → IsCutText style said start (over_sink now after) (done ++ rest)
  cut-of after told = record {
    written = text;
    behind = reached.behind;
    further = reached.further;
    is_further = reached.is_further;
    text = reached.says;
    told = told;
    shown = parts.first;
    others = parts.second ++ rest;
    split = ap (λ cs. cs ++ rest) parts.split ∙ append_assoc parts.first parts.second rest;
    none =
        subst (AllByRecursion (λ n. need_at needs n ≡ NoNeed)) (sym (map-append (λ (c : ℕ × Command). c.0) parts.second rest ∙ ap (λ ns. ns ++ lines_of rest) parts.lines_second)) shown_needs.none;
    rose = first_rose;
    no_need = none-shown;
  }

-- whatever was refused, no less was counted at any place
rose-settles : {armed : Bool} (start now : Moment) {refusals : List ℕ} → Settles armed start.accounts now.accounts refusals → RoseAsRefused refusals start now
rose-settles start now settles = λ place. (settles.faults place).rose

-- no command was run
pub far-start : (style : Style) (start : Moment) → RanFar style start start [] []
far-start style start = record {
  ran = nothing_ran start.state;
  lines = refl;
  proper = tt;
  run = λ needs shows. refl;
  rose = λ place. inl (omega arith);
  behind = [];
  front = refl;
}

-- a run in its middle, all of which is gathered
pub far-of : {quiet : Bool} {start now : Moment} {counts : Counts} {text : List ℕ} {count : ℕ} {done : List (ℕ × Command)} → Progress quiet start now counts text count done → RanFar (style_by quiet now.armed) start now text done
far-of {quiet} {start} {now} {text = text} p = record {
  ran = p.ran;
  lines = p.lines;
  proper = p.proper;
  run = p.run;
  rose = rose-settles start now p.settles;
  behind = [];
  front = sym p.told ∙ sym (append-nil text);
}

-- the same of a text that a front of it was written of
pub far-front : {style : Style} {start now : Moment} {text : List ℕ} (front behind : List ℕ) {done : List (ℕ × Command)} → RanFar style start now text done → text ≡ front ++ behind → RanFar style start now front done
far-front front behind f is = record {
  ran = f.ran;
  lines = f.lines;
  proper = f.proper;
  run = f.run;
  rose = f.rose;
  behind = behind ++ f.behind;
  front = f.front ∙ (ap (λ xs. xs ++ f.behind) is ∙ append_assoc front behind f.behind);
}

-- of no command any style says as much
pub far-none : {style : Style} (other : Style) {start now : Moment} {text : List ℕ} → RanFar style start now text [] → RanFar other start now text []
far-none {style} other f = record {
  ran = f.ran;
  lines = f.lines;
  proper = f.proper;
  run = f.run;
  rose = f.rose;
  behind = f.behind;
  front = none-written other f.ran f.lines ∙ (sym (none-written style f.ran f.lines) ∙ f.front);
}

rose-on : (n before now after : ℕ) → now ≤ after → RoseBy n before now → RoseBy n before after
rose-on n before now after never_falls (inl more) = inl (omega (arith, never_falls, more))
rose-on n before now after never_falls (inr last) = inr (omega (arith, never_falls, last))

-- no fault less is counted later
pub far-on : {style : Style} {start now : Moment} (next : Moment) {text : List ℕ} {done : List (ℕ × Command)} → RanFar style start now text done → KeepsAccounts now.accounts next.accounts → RanFar style start next text done
far-on next f keeps = record {
  ran = f.ran;
  lines = f.lines;
  proper = f.proper;
  run = f.run;
  rose = λ place. rose-on _ _ _ _ (keeps.faults place) (f.rose place);
  behind = f.behind;
  front = f.front;
}

-- a whole run is a cut of itself
pub cut-run : {quiet second : Bool} {said : Ran → List ℕ} {before after : Moment} {commands : List (ℕ × Command)} → IsRunOf quiet second said before after commands → IsCutText (style_by quiet second) said before after commands
cut-run {commands = commands} r = record {
  written = r.written;
  behind = [];
  further = None;
  is_further = tt;
  text = sym r.text ∙ sym (append-nil r.written);
  told = r.told;
  shown = commands;
  others = [];
  split = sym (append-nil commands);
  none = tt;
  rose = λ place. (r.settles.faults place).rose;
  no_need = r.no_need;
}

-- a run at its last command, with a front of what is written behind its replies
pub cut-tail : {quiet : Bool} {start now : Moment} {counts : Counts} {text : List ℕ} {count : ℕ} {done : List (ℕ × Command)} (p : Progress quiet start now counts text count done) (said : Ran → List ℕ) (tail front behind : List ℕ) (after : Option (List ℕ)) → count < 2 ^ 64 → ((n : ℕ) → n < 2 ^ 64 → NoLine n (ended_lines tail)) → said p.ran ≡ replies_text (style_by quiet now.armed) p.ran ++ tail → tail ≡ front ++ behind → Told start.written after (text ++ front) → IsCutText (style_by quiet now.armed) said start (over_sink now after) done
cut-tail {quiet} {start} {now} {text = text} {done = done} p said tail front behind after few none says is told =
    let needs : List (ℕ × Need) = needs_by_text (style_by quiet now.armed) (lines_of done) (text ++ front) in
    let at_lines : ShowsNeeds needs p.ran.replies = shows p front few (λ n below. none-front n front behind (subst (λ xs. NoLine n (ended_lines xs)) is (none n below))) in
    let ran : run_from start.state done needs ≡ p.ran = p.run needs at_lines in
    record {
      written = text ++ front;
      behind = behind;
      further = None;
      is_further = tt;
      text = ap said ran ∙ (says ∙ (ap (λ xs. xs ++ tail) (sym p.told) ∙ (ap (λ xs. text ++ xs) is ∙ sym (append_assoc text front behind))));
      told = told;
      shown = done;
      others = [];
      split = sym (append-nil done);
      none = tt;
      rose = subst (λ r. RoseAsRefused r.refusals start now) (sym ran) (rose-settles start now p.settles);
      no_need = none-needed p needs at_lines;
    }

-- nothing was run and nothing written
pub cut-none : (style : Style) (said : Ran → List ℕ) → BeginsWithReplies style said → (start now : Moment) (commands : List (ℕ × Command)) → AreLines commands → KeepsAccounts start.accounts now.accounts → now.written ≡ start.written → IsCutText style said start now commands
cut-none style said begins start now commands lines keeps same =
    cut-of (far-on now (far-start style start) keeps) said begins commands lines now.written (subst (λ w. Told start.written w []) (sym same) (told-none start.written))

-- so of commands that were run in part
pub cut-part : {style : Style} {start now : Moment} {commands : List (ℕ × Command)} → WrotePart style start now commands → (said : Ran → List ℕ) → BeginsWithReplies style said → AreLines commands → IsCutText style said start now commands
cut-part {style} {start} {now} w said begins lines =
    subst (IsCutText style said start now) (sym w.part.split)
    (cut-of w.part.far said begins w.part.rest (subst AreLines w.part.split lines) now.written w.told)

-- the same cut at another moment, with the same accounts and over the same sink
pub cut-same : {style : Style} {said : Ran → List ℕ} {before now : Moment} (after : Moment) {commands : List (ℕ × Command)} → after.written ≡ now.written → after.accounts ≡ now.accounts → IsCutText style said before now commands → IsCutText style said before after commands
cut-same {style} {said} {before} {now} after {commands} written accounts c = record {
  written = c.written;
  behind = c.behind;
  further = c.further;
  is_further = c.is_further;
  text = c.text;
  told = subst (λ w. Told before.written w c.written) (sym written) c.told;
  shown = c.shown;
  others = c.others;
  split = c.split;
  none = c.none;
  rose = λ place. subst (λ shelf. RoseBy (count_by (λ p. p == place) (run_from before.state c.shown (needs_by_text style (lines_of commands) c.written)).refusals) (faults_of (at_number before.accounts place)) (faults_of (at_number shelf place))) (sym accounts) (c.rose place);
  no_need = λ stayed. c.no_need (stayed-same before now after accounts stayed);
}
