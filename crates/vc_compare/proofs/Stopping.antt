-- A line at which a way stops, by what was refused.
use Rattle.vc_base.proofs.Common.{◌≡◌, ℕ, List, Option, Ok, Err, Some, None, Result, ◌==◌, inl, inr, sym, ap, ◌∙◌, subst}
use Rattle.vc_model.specs.Outcome as outcome
use Rattle.vc_script.specs.Answer.{answer}
use Rattle.vc_script.specs.Pieces.{FoundLines}
use Rattle.vc_script.specs.declared.tool.Tool.TheVariants.{Vmreplay}
use Rattle.vc_script.specs.declared.command.Command.{Command}
use Rattle.vc_script.specs.declared.line_answer.LineAnswer.TheVariants.{Is}
use Rattle.vc_seg.specs.declared.fault.RegionFault.{RegionFault}
use Rattle.vc_seg.specs.declared.fault.RegionFault.TheVariants as code
use Rattle.vc_compare.specs.Ending.{AsksIn, EndsAs, RunsTraceLine, StopsAs}
use Rattle.vc_compare.specs.declared.ending.Ending.{Ending}
use Rattle.vc_compare.specs.declared.ending.Ending.TheVariants.{Finished, Faulty, Read, Memory}
use Rattle.vc_compare.specs.declared.ending.Fault.TheVariants.{Bad, Outside, NoSegment, TooMany}
use Rattle.vc_ways.specs.Answer.{Holding}
use Rattle.vc_ways.specs.Asking.{Asking, IsUnserved, Refuses, answered_size, asking, line_size, size_asked}
use Rattle.vc_ways.specs.Compare as compared
use Rattle.vc_ways.specs.Compare.{Compared, after_answer, after_command, after_line}
use Rattle.vc_ways.specs.LineParts.{LineEnds}
use Rattle.vc_ways.specs.Regions.{WayTerms}
use Rattle.vc_ways.specs.RegionsParts.{IsStopped}
use Rattle.vc_ways.specs.Step.{Stops, TraceState, trace_step}
use Rattle.vc_ways.specs.declared.regions.Stop.{Stop}
use Rattle.vc_ways.specs.declared.way.Way.{Way}

module _ (terms : WayTerms) (s : TraceState) (n : ℕ) (line : List ℕ) (olds news : List Holding) where
  abbrev P : Asking → Type 0
  P asked = Refuses asked olds news

  -- too many segments
  many : (command : Command) (at way : Way) (why : RegionFault) → answer Vmreplay (n == 1) line ≡ Is command → IsStopped (λ w f. Stops w f) (trace_step terms s command) at why → why ≡ code.TooManySegments → at ≡ way → (behind : TraceState → Compared) → after_line terms n s (Ok line) behind ≡ compared.StoppedAt n way outcome.TooManySegments
  many command at way why is stopped e here behind =
      let stops : trace_step terms s command None ≡ Stops at outcome.TooManySegments = subst (λ (f : RegionFault). IsStopped (λ w f. Stops w f) (trace_step terms s command) at f) e stopped in
      ap (λ a. after_answer terms n s a behind) is ∙ (ap (λ o. after_command n o behind) stops ∙ ap (λ w. compared.StoppedAt n w outcome.TooManySegments) here)

  -- a segment is refused
  asks : (command : Command) (stop : Stop) (way : Way) → answer Vmreplay (n == 1) line ≡ Is command → IsStopped (λ w f. Stops w f) (trace_step terms s command) stop.way stop.fault → stop.fault ≡ code.NoSegment → stop.way ≡ way → IsUnserved terms s.regions (line_size n line) stop olds news → AsksIn terms s P n line way
  asks command stop way is stopped e here unserved =
      let stops : trace_step terms s command (Some stop.way) ≡ Stops stop.way outcome.NoSegment = subst (λ (f : RegionFault). IsStopped (λ w f. Stops w f) (trace_step terms s command) stop.way f) e stopped in
      let sized : P (asking terms s.regions stop.way (size_asked command)) = subst (λ k. P (asking terms s.regions stop.way k)) (ap answered_size is) (unserved e) in
      record {
        command = command;
        is = is;
        stops = subst (λ (w : Way). trace_step terms s command (Some w) ≡ Stops w outcome.NoSegment) here stops;
        refused = subst (λ (w : Way). P (asking terms s.regions w (size_asked command))) here sized;
      }

  pub stop-runs : (stop : Stop) (how : Ending) (new : TraceState) → StopsAs n stop how → LineEnds terms s n line (Err stop) new → IsUnserved terms s.regions (line_size n line) stop olds news → RunsTraceLine terms s P n line (Err how) new
  stop-runs stop (Finished tally) new h ends unserved = absurd h
  stop-runs stop Read new h ends unserved = absurd h
  stop-runs stop Memory new h ends unserved = tt
  stop-runs stop (Faulty m (Bad fault)) new h ends unserved = absurd h
  stop-runs stop (Faulty m Outside) new h ends unserved = absurd h
  stop-runs stop (Faulty m (TooMany way)) new h (inl memory) unserved = absurd (other (sym memory ∙ h.1.0))
    where
      other : code.OutOfMemory ≡ code.TooManySegments → ⊥
      other e = cc
  stop-runs stop (Faulty m (TooMany way)) new h (inr at) unserved = (h.0, many at.0 stop.way way stop.fault at.1 at.2 h.1.0 h.1.1)
  stop-runs stop (Faulty m (NoSegment way)) new h (inl memory) unserved = absurd (other (sym memory ∙ h.1.0))
    where
      other : code.OutOfMemory ≡ code.NoSegment → ⊥
      other e = cc
  stop-runs stop (Faulty m (NoSegment way)) new h (inr at) unserved = (h.0, asks at.0 stop way at.1 at.2 h.1.0 h.1.1 unserved)

-- what holds of what is refused may be said otherwise
module _ (P Q : Asking → Type 0) (to : (a : Asking) → P a → Q a) (terms : WayTerms) where
  asks-as : (s : TraceState) (n : ℕ) (line : List ℕ) (way : Way) → AsksIn terms s P n line way → AsksIn terms s Q n line way
  asks-as s n line way h = record { command = h.command; is = h.is; stops = h.stops; refused = to (asking terms s.regions way (size_asked h.command)) h.refused }

  pub runs-as : (s : TraceState) (n : ℕ) (line : List ℕ) (r : Result Unit Ending) (new : TraceState) → RunsTraceLine terms s P n line r new → RunsTraceLine terms s Q n line r new
  runs-as s n line (Ok done) new h = h
  runs-as s n line (Err (Finished tally)) new h = h
  runs-as s n line (Err Read) new h = h
  runs-as s n line (Err Memory) new h = h
  runs-as s n line (Err (Faulty m (Bad fault))) new h = h
  runs-as s n line (Err (Faulty m Outside)) new h = h
  runs-as s n line (Err (Faulty m (TooMany way))) new h = h
  runs-as s n line (Err (Faulty m (NoSegment way))) new h = (h.0, asks-as s n line way h.1)

  pub ends-as : (s : TraceState) (lines : FoundLines) (how : Ending) (left : Option (List ℕ)) → EndsAs terms s P lines how left → EndsAs terms s Q lines how left
  ends-as s lines (Finished tally) left h = h
  ends-as s lines Read left h = h
  ends-as s lines Memory left h = h
  ends-as s lines (Faulty n (Bad fault)) left h = h
  ends-as s lines (Faulty n Outside) left h = h
  ends-as s lines (Faulty n (TooMany way)) left h = h
  ends-as s lines (Faulty n (NoSegment way)) left h =
      record { front = h.front; line = h.line; behind = h.behind; split = h.split; at = h.at; ran = h.ran; asks = asks-as h.at n h.line way h.asks }
