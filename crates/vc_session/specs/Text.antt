-- What a run writes, by the words that its tool was given: replies or refused segments, and what stands behind them.
use Rattle.std.specs.Prelude.{ℕ, ◌-◌, List, [], ◌∷◌, ◌++◌, Option, Some, None, Bool, true, false, codes, decimal, map, sum, count_by, not, ◌||◌}
use Rattle.std.specs.List.{flat_map}
use Rattle.std.specs.Option.{is_some}
use Rattle.vc_commands.specs.Home.{Home}
use Rattle.vc_counts.specs.Counts.{live_bytes}
use Rattle.vc_counts.specs.declared.counts.Counts.{Counts}
use Rattle.vc_region.specs.Stat.{stat_of}
use Rattle.vc_script.specs.declared.line_fault.LineFault.{LineFault}
use Rattle.vc_script.specs.declared.reply.Reply.TheVariants.{Stats}
use Rattle.vc_script.specs.Needs.{is_refusal}
use Rattle.vc_script.specs.Print.{printed}
use Rattle.vc_session.specs.QuietText.{body_by, style_by}
use Rattle.vc_session.specs.Run.{Ran}
use Rattle.vc_seg.specs.declared.stat.Stat.{Stat}
use Rattle.vc_session.specs.declared.style.Style.{Style}
use Rattle.vc_words.specs.declared.words.Words.{Words}

-- with `--quiet`, and where commands are generated, no reply is printed but one that refuses a segment
abbrev pub is_quiet : Words → Bool
is_quiet w = w.quiet || is_some w.generate

-- what a run counted
abbrev pub counts_of : Ran → Counts
counts_of r =
    record {
      done = count_by (λ x. not (is_refusal x.1)) r.replies;
      refused = count_by (λ x. is_refusal x.1) r.replies;
      segments = count_by (λ g. g.fresh) r.granted;
      bytes = sum (map (λ g. g.bytes) r.granted);
      busy = live_bytes r.state;
      peak = r.peak;
    }

-- how many of so many lines are before the first bad one, blank ones too
abbrev pub good_lines : Option (ℕ × LineFault) → ℕ → ℕ
good_lines None lines = lines
good_lines (Some bad) lines = bad.0 - 1

-- the five lines behind a quiet run of so many lines
abbrev pub summary : ℕ → Counts → List (List ℕ)
summary lines c =
    (codes "lines " ++ decimal lines)
    ∷ (codes "done " ++ decimal c.done)
    ∷ (codes "refused " ++ decimal c.refused)
    ∷ (codes "lent " ++ decimal c.segments ++ codes " " ++ decimal c.bytes)
    ∷ (codes "peak " ++ decimal c.peak)
    ∷ []

abbrev pub summary_by : Bool → ℕ → Counts → List (List ℕ)
summary_by false lines c = []
summary_by true lines c = summary lines c

-- a region's numbers, behind its name
abbrev pub numbers_text : List ℕ → Stat → List ℕ
numbers_text name stat = codes "stat " ++ name ++ codes " " ++ printed (Stats stat)

abbrev pub stat_line : Home → List ℕ
stat_line h = numbers_text h.name (stat_of h.region)

-- a line for each region, in order of opening, where they are asked for
abbrev pub stats_by : Bool → List Home → List (List ℕ)
stats_by false homes = []
stats_by true homes = map stat_line homes

-- the lines behind the replies at the end of a run of so many lines, which counted so much and left these regions
abbrev pub tail_lines : Words → ℕ → Counts → List Home → List (List ℕ)
tail_lines w lines c homes = summary_by (is_quiet w) lines c ++ stats_by w.stat homes

-- lines, each with its newline
abbrev pub lines_text : List (List ℕ) → List ℕ
lines_text lines = flat_map (λ line. line ++ 10 ∷ []) lines

-- what a run writes of its replies, and all that one writes that is cut short
abbrev pub replies_text : Style → Ran → List ℕ
replies_text style r = body_by style r.replies

-- what a run of so many lines writes, by whether its script is of version 2
abbrev pub text_of : Words → Bool → ℕ → Ran → List ℕ
text_of w second lines r = replies_text (style_by (is_quiet w) second) r ++ lines_text (tail_lines w lines (counts_of r) r.state.homes)
