-- What stands behind the replies of a run, and the run with it.
use Rattle.vc_base.proofs.Common.{◌≡◌, ℕ, zero, suc, ◌+◌, ◌^◌, ◌<◌, ◌≤◌, Bool, true, false, List, [], ◌∷◌, ◌++◌, map, length, take, IfSome, slice_get, Some, None, Ok, codes, decimal, Option, sym, refl, ap, ◌∙◌, subst, append_assoc, append-nil, add-one, arith, take_all, false≢true, map-append, AllByRecursion, Discipline}
use Rattle.std.proofs.lemmas.Grind.{flat_map-append}
use Rattle.vc_commands.specs.Held.{home_of}
use Rattle.vc_commands.specs.Home.{Home}
use Rattle.vc_commands.specs.declared.region.home.HomeEntry.{HomeEntry}
use Rattle.vc_commands.specs.declared.region.labels.Labels.{Labels}
use Rattle.vc_commands.specs.Labels.{name_of_tag}
use Rattle.vc_counts.specs.declared.counts.Counts.{Counts}
use Rattle.vc_base.proofs.Quantifiers.{all-append}
use Rattle.vc_region.specs.Cells.{rest_in}
use Rattle.vc_region.specs.Parts.{region_of}
use Rattle.vc_region.specs.Stat.{stat_of}
use Rattle.vc_region.proofs.Relabel.{stat-relabelled}
use Rattle.vc_region.proofs.Rest.{rest-stat}
use Rattle.vc_script.specs.declared.command.Command.{Command}
use Rattle.vc_script.specs.declared.line_fault.LineFault.{LineFault}
use Rattle.vc_script.specs.declared.reply.Reply.TheVariants.{Stats}
use Rattle.vc_script.specs.declared.tool.Tool.{Tool}
use Rattle.vc_script.specs.Judged.{judged_lines}
use Rattle.vc_script.specs.Lines.{ended_lines}
use Rattle.vc_script.specs.Print.{printed}
use Rattle.vc_script.specs.Proper.{IsName}
use Rattle.vc_script.proofs.Newlines.{OneLine, line-printed, line-both, line-decimal, line-name}
use Rattle.vc_steps.specs.Homes.{held_all}
use Rattle.vc_steps.specs.Moment.{Moment, moment_at_end, over_sink}
use Rattle.vc_session.specs.Engine.{RunsLines, RunsScriptOn}
use Rattle.vc_session.specs.ProperState.{IsProperHome}
use Rattle.vc_session.specs.Progress.{Progress}
use Rattle.vc_session.specs.Replay.{IsReplay, IsRunOf, LeavesReplay, LeavesRun}
use Rattle.vc_base.specs.Told.{Told}
use Rattle.vc_session.specs.Run.{script}
use Rattle.vc_session.specs.SoFar.{AtEnd}
use Rattle.vc_session.specs.Streams.{Flows}
use Rattle.vc_session.specs.QuietText.{style_by}
use Rattle.vc_session.specs.Text.{replies_text, counts_of, good_lines, is_quiet, lines_text, stat_line, numbers_text, stats_by, summary, summary_by, tail_lines, text_of}
use Rattle.vc_session.proofs.Progress.{progress-end, progress-leaves, told-more}
use Rattle.vc_session.proofs.ShownNeeds.{IsUnnumbered, NoLine, none-unnumbered}
use Rattle.vc_words.specs.declared.words.Words.{Words}

labelled : (label : List ℕ) (n : ℕ) → OneLine label → OneLine (label ++ decimal n)
labelled label n first = line-both label (decimal n) first (line-decimal n)

summary-unnumbered : (t : Bool) (lines : ℕ) (c : Counts) → AllByRecursion IsUnnumbered (summary_by t lines c)
summary-unnumbered false lines c = tt
summary-unnumbered true lines c =
    let lent = line-both (codes "lent " ++ decimal c.segments) (codes " ") (labelled (codes "lent ") c.segments refl) refl in (
      (refl, labelled (codes "lines ") lines refl),
      (
        (refl, labelled (codes "done ") c.done refl),
        (
          (refl, labelled (codes "refused ") c.refused refl),
          (
            (refl, labelled (codes "lent " ++ decimal c.segments ++ codes " ") c.bytes lent),
            ((refl, labelled (codes "peak ") c.peak refl), tt),
          ),
        ),
      ),
    )

line-stat : (h : Home) → IsName h.name → OneLine (stat_line h)
line-stat h proper =
    line-both (codes "stat " ++ h.name ++ codes " ") (printed (Stats (stat_of h.region)))
    (line-both (codes "stat " ++ h.name) (codes " ") (line-both (codes "stat ") h.name refl (line-name h.name proper)) refl)
    (line-printed (Stats (stat_of h.region)) tt)

all-stats : (homes : List Home) → AllByRecursion IsProperHome homes → AllByRecursion IsUnnumbered (map stat_line homes)
all-stats [] proper = tt
all-stats (h ∷ hs) proper = ((refl, line-stat h proper.0.3), all-stats hs proper.1)

stats-unnumbered : (t : Bool) (homes : List Home) → AllByRecursion IsProperHome homes → AllByRecursion IsUnnumbered (stats_by t homes)
stats-unnumbered false homes proper = tt
stats-unnumbered true homes proper = all-stats homes proper

-- no line behind the replies has a number in front
pub tail-none : (w : Words) (lines : ℕ) (c : Counts) (homes : List Home) → AllByRecursion IsProperHome homes → (n : ℕ) → n < 2 ^ 64 → NoLine n (ended_lines (lines_text (tail_lines w lines c homes)))
tail-none w lines c homes proper n below =
    none-unnumbered n (tail_lines w lines c homes) below
    (all-append IsUnnumbered (summary_by (is_quiet w) lines c) (stats_by w.stat homes) (summary-unnumbered (is_quiet w) lines c) (stats-unnumbered w.stat homes proper))

summary-same : (t : Bool) (lines : ℕ) (c d : Counts) → (t ≡ true → c ≡ d) → summary_by t lines c ≡ summary_by t lines d
summary-same false lines c d same = refl
summary-same true lines c d same = ap (summary lines) (same refl)

module _ {start now : Moment} {counts : Counts} {text : List ℕ} {count : ℕ} {done : List (ℕ × Command)} (w : Words) (lines : ℕ) (tail : List ℕ) (p : Progress (is_quiet w) start now counts text count done) (is : tail ≡ lines_text (tail_lines w lines counts now.state.homes)) where
  -- what is said of a run at its last command: what is written of its replies, and this behind it
  pub text-says : text_of w now.armed lines p.ran ≡ replies_text (style_by (is_quiet w) now.armed) p.ran ++ tail
  text-says =
      ap (λ s. replies_text (style_by (is_quiet w) now.armed) p.ran ++ lines_text (tail_lines w lines (counts_of p.ran) s.homes)) p.state
      ∙ (ap (λ ls. replies_text (style_by (is_quiet w) now.armed) p.ran ++ lines_text (ls ++ stats_by w.stat now.state.homes)) (summary-same (is_quiet w) lines (counts_of p.ran) counts (λ quiet. sym (p.counted quiet)))
      ∙ ap (λ t. replies_text (style_by (is_quiet w) now.armed) p.ran ++ t) (sym is))

  -- no line of which has a number in front
  pub tail-unnumbered : (n : ℕ) → n < 2 ^ 64 → NoLine n (ended_lines tail)
  tail-unnumbered n below = subst (λ t. NoLine n (ended_lines t)) (sym is) (tail-none w lines counts now.state.homes p.proper_state n below)

  -- and the end of the run once this is written
  pub text-ends : (after : Option (List ℕ)) → count < 2 ^ 64 → Told start.written after (text ++ tail) → IsRunOf (is_quiet w) now.armed (text_of w now.armed lines) start (moment_at_end (over_sink now after)) done
  text-ends after few told = progress-end p (text_of w now.armed lines) tail after few tail-unnumbered text-says told

  pub text-leaves : (after : Option (List ℕ)) → count < 2 ^ 64 → Told start.written after (text ++ tail) → LeavesRun (is_quiet w) now.armed (text_of w now.armed lines) start (over_sink now after) done
  text-leaves after few told = progress-leaves p (text_of w now.armed lines) tail after few tail-unnumbered text-says told

pub good-same : (bad : Option (ℕ × LineFault)) (lines total : ℕ) → (bad ≡ None → lines ≡ total) → good_lines bad lines ≡ good_lines bad total
good-same None lines total same = same refl
good-same (Some bad) lines total same = refl

-- the lines of an input were run, and what stands behind their replies is written
script-ends : (tool : Tool) (w : Words) (start now : Moment) (counts : Counts) (lines : ℕ) (bad : Option (ℕ × LineFault)) (told left : Option (List ℕ)) (after : Option (List ℕ)) (tail : List ℕ) → tail ≡ lines_text (tail_lines w (good_lines bad lines) counts now.state.homes) → Told now.written after tail → IfSome told (λ input. AtEnd tool (is_quiet w) start now counts lines input bad left) → IfSome told (λ input. IsReplay tool w start (moment_at_end (over_sink now after)) input bad left)
script-ends tool w start now counts lines bad None left after tail is written e = tt
script-ends tool w start now counts lines bad (Some input) left after tail is written e =
    record {
      first = e.first;
      stops = e.stops;
      run =
          subst (λ second. IsRunOf (is_quiet w) second (text_of w second (good_lines bad (length (judged_lines input)))) start (moment_at_end (over_sink now after)) (script tool input)) e.armed
          (subst (λ n. IsRunOf (is_quiet w) now.armed (text_of w now.armed n) start (moment_at_end (over_sink now after)) (script tool input)) (good-same bad lines (length (judged_lines input)) e.whole)
          (text-ends w (good_lines bad lines) tail e.progress is after (omega (arith, e.few)) (told-more start.written now.written after e.text tail e.told written)));
    }

script-leaves : (tool : Tool) (w : Words) (start now : Moment) (counts : Counts) (lines : ℕ) (bad : Option (ℕ × LineFault)) (told left : Option (List ℕ)) (after : Option (List ℕ)) (tail : List ℕ) → tail ≡ lines_text (tail_lines w (good_lines bad lines) counts now.state.homes) → Told now.written after tail → IfSome told (λ input. AtEnd tool (is_quiet w) start now counts lines input bad left) → IfSome told (λ input. LeavesReplay tool w start (over_sink now after) input bad)
script-leaves tool w start now counts lines bad None left after tail is written e = tt
script-leaves tool w start now counts lines bad (Some input) left after tail is written e =
    subst (λ second. LeavesRun (is_quiet w) second (text_of w second (good_lines bad (length (judged_lines input)))) start (over_sink now after) (script tool input)) e.armed
    (subst (λ n. LeavesRun (is_quiet w) now.armed (text_of w now.armed n) start (over_sink now after) (script tool input)) (good-same bad lines (length (judged_lines input)) e.whole)
    (text-leaves w (good_lines bad lines) tail e.progress is after (omega (arith, e.few)) (told-more start.written now.written after e.text tail e.told written)))

-- what a run of a source's lines promises once what stands behind the replies is written
pub script-told : (tool : Tool) (w : Words) (quiet : Bool) (start last : Moment) (counts : Counts) (count number lines : ℕ) (bad : Option (ℕ × LineFault)) (old mid new : Flows) (none tail : List ℕ) → quiet ≡ is_quiet w → number ≡ count → lines ≡ good_lines bad number → none ≡ [] → tail ≡ none ++ lines_text (tail_lines w lines counts last.state.homes) → RunsLines tool quiet (Ok bad) start last counts count old mid → Told mid.written new.written tail → new.left ≡ mid.left → mid.reads ≤ new.reads → mid.writes ≤ new.writes → RunsScriptOn tool w (Ok bad) start last old new
script-told tool w quiet start last counts count number lines bad old mid new none tail by_words counted good empty is runs written left reads writes =
    let behind : tail ≡ lines_text (tail_lines w (good_lines bad count) counts last.state.homes) =
    is
    ∙ (ap (λ xs. xs ++ lines_text (tail_lines w lines counts last.state.homes)) empty
    ∙ ap (λ n. lines_text (tail_lines w n counts last.state.homes)) (good ∙ ap (λ n. good_lines bad n) counted)) in
    let ends : IfSome old.left (λ input. AtEnd tool (is_quiet w) (over_sink start old.written) (over_sink last mid.written) counts count input bad new.left) =
    subst (λ l. IfSome old.left (λ input. AtEnd tool (is_quiet w) (over_sink start old.written) (over_sink last mid.written) counts count input bad l)) (sym left)
    (subst (λ q. IfSome old.left (λ input. AtEnd tool q (over_sink start old.written) (over_sink last mid.written) counts count input bad mid.left)) by_words runs.at_end) in
    record {
      script = record {
        replay = script-ends tool w (over_sink start old.written) (over_sink last mid.written) counts count bad old.left new.left new.written tail behind written ends;
        cut_short = tt;
        cut = tt;
        not_ahead = tt;
        arms = runs.arms;
        read = tt;
        write = tt;
        reads = omega (arith, runs.reads, reads);
        writes = omega (arith, runs.writes, writes);
      };
      leaves = script-leaves tool w (over_sink start old.written) (over_sink last mid.written) counts count bad old.left new.left new.written tail behind written ends;
    }

-- a region's entry tells its numbers
abbrev pub entry_text : {I : Type 0} {V : I → Type 0} → List ℕ × HomeEntry I V → List ℕ
entry_text e = numbers_text e.0 (stat_of (region_of e.1.region))

stats-entries : {I : Type 0} {V : I → Type 0} (meaning : (x : I) × V x → Discipline) (es : List (List ℕ × HomeEntry I V)) (ls : List Labels) → length ls ≡ length es → map stat_line (map home_of (held_all meaning es ls)) ≡ map entry_text es
stats-entries meaning [] [] same = refl
stats-entries meaning [] (l ∷ ls) same = absurd (omega (arith, same))
stats-entries meaning (e ∷ es) [] same = absurd (omega (arith, same))
stats-entries meaning (e ∷ es) (l ∷ ls) same =
    ap (λ stat. numbers_text e.0 stat ∷ map stat_line (map home_of (held_all meaning es ls))) (stat-relabelled (name_of_tag l) (rest_in e.1.region) ∙ rest-stat (region_of e.1.region))
    ∙ ap (λ texts. entry_text e ∷ texts) (stats-entries meaning es ls (omega (arith, same)))

-- one more item
take-push : {A : Type 0} (xs : List A) (i : ℕ) (x : A) → slice_get xs i ≡ Some x → take (suc i) xs ≡ take i xs ++ x ∷ []
take-push [] i x at = absurd cc
take-push (y ∷ ys) zero x at = ap (λ z. z ∷ []) cc
take-push (y ∷ ys) (suc i) x at = ap (λ zs. y ∷ zs) (take-push ys i x at)

-- a line for each region so far, and one more
pub stats-push : {I : Type 0} {V : I → Type 0} (es : List (List ℕ × HomeEntry I V)) (i : ℕ) (e : List ℕ × HomeEntry I V) (old so_far new : List ℕ) → slice_get es i ≡ Some e → so_far ≡ old ++ lines_text (map entry_text (take i es)) → new ≡ so_far ++ (entry_text e ++ 10 ∷ []) → new ≡ old ++ lines_text (map entry_text (take (i + 1) es))
stats-push es i e old so_far new at before after =
    let front : List (List ℕ) = map entry_text (take i es) in
    after
    ∙ (ap (λ xs. xs ++ (entry_text e ++ 10 ∷ [])) before
    ∙ (append_assoc old (lines_text front) (entry_text e ++ 10 ∷ [])
    ∙ (ap (λ xs. old ++ (lines_text front ++ xs)) (sym (append-nil (entry_text e ++ 10 ∷ [])))
    ∙ (ap (λ xs. old ++ xs) (sym (flat_map-append (λ (line : List ℕ). line ++ 10 ∷ []) front (entry_text e ∷ [])))
    ∙ (ap (λ ls. old ++ lines_text ls) (sym (map-append entry_text (take i es) (e ∷ [])))
    ∙ ap (λ xs. old ++ lines_text (map entry_text xs)) (sym (ap (λ n. take n es) (add-one i) ∙ take-push es i e at)))))))

-- once all are gathered
pub stats-all-entries : {I : Type 0} {V : I → Type 0} (meaning : (x : I) × V x → Discipline) (asked : Bool) (es : List (List ℕ × HomeEntry I V)) (ls : List Labels) (i : ℕ) → asked ≡ true → length ls ≡ length es → length es ≤ i → stats_by asked (map home_of (held_all meaning es ls)) ≡ map entry_text (take i es)
stats-all-entries meaning false es ls i is_asked same all = absurd (false≢true is_asked)
stats-all-entries meaning true es ls i is_asked same all =
    stats-entries meaning es ls same ∙ ap (λ xs. map entry_text xs) (sym (take_all i es all))
