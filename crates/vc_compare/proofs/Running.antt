-- A trace whose lines are run one after another.
use Rattle.vc_base.proofs.Common.{◌≡◌, ℕ, ◌+◌, List, [], ◌∷◌, ◌++◌, Option, Some, None, Ok, Err, IfSome, OnOk, Result, ap₂, refl, sym, ap, ◌∙◌, subst, append_assoc}
use Rattle.vc_model.specs.Outcome as outcome
use Rattle.vc_script.specs.Pieces.{FoundLines}
use Rattle.vc_script.specs.declared.line_fault.LineFault.{LineFault}
use Rattle.vc_compare.specs.Ending.{AsksIn, EndsAs, RanTo, RunsTraceLine, ending_of}
use Rattle.vc_compare.specs.declared.ending.Ending.{Ending}
use Rattle.vc_compare.specs.declared.ending.Ending.TheVariants.{Finished, Faulty, Read, Memory}
use Rattle.vc_compare.specs.declared.ending.Fault.TheVariants.{Bad, Outside, NoSegment, TooMany}
use Rattle.vc_compare.specs.Reading.{GivesNextLine, found_behind, lines_to_come, unread_of}
use Rattle.vc_compare.specs.declared.lines.LineReader.{LineReader}
use Rattle.vc_compare.specs.declared.lines.Next.{Next}
use Rattle.vc_compare.specs.declared.lines.Next.TheVariants as next
use Rattle.vc_ways.specs.Asking.{Asking}
use Rattle.vc_ways.specs.Compare as compared
use Rattle.vc_ways.specs.Compare.{compare_lines}
use Rattle.vc_ways.specs.Regions.{WayTerms}
use Rattle.vc_script.specs.Cutting.{new_cutting}
use Rattle.vc_script.specs.Judged.{judged_lines}
use Rattle.vc_ways.specs.LineParts.{LineEnds}
use Rattle.vc_ways.specs.Step.{TraceState}
use Rattle.vc_ways.specs.declared.line.Wrong.{Wrong}
use Rattle.vc_ways.specs.declared.line.Wrong.TheVariants as wrong

-- so far a trace is run up to what a reader still has to come
pub record SoFar (terms : WayTerms) (s : TraceState) (lines : FoundLines) (reader : LineReader) (left : Option (List ℕ)) (now : TraceState) : Type 0 where
  pub front : FoundLines
  pub rest : List ℕ
  pub has : left ≡ Some rest
  pub split : lines ≡ front ++ lines_to_come reader rest
  pub ran : RanTo terms s front now

pub so_far-start : (terms : WayTerms) (s : TraceState) (reader : LineReader) (left : Option (List ℕ)) → IfSome left (λ input. SoFar terms s (lines_to_come reader input) reader left s)
so_far-start terms s reader None = tt
so_far-start terms s reader (Some input) = record { front = []; rest = input; has = refl; split = refl; ran = λ behind. refl }

module _ (P : Asking → Type 0) {terms : WayTerms} {s : TraceState} {lines : FoundLines} {reader : LineReader} {left : Option (List ℕ)} {now : TraceState} (so : SoFar terms s lines reader left now) where
  -- what is next, of the bytes that are left
  next-of : (answer : Next) (reader' : LineReader) (left' : Option (List ℕ)) → IfSome left (λ input. GivesNextLine (Ok answer) reader reader' input left') → GivesNextLine (Ok answer) reader reader' so.rest left'
  next-of answer reader' left' gives = subst (λ o. IfSome o (λ input. GivesNextLine (Ok answer) reader reader' input left')) so.has gives

  ran-all : (found : FoundLines) → lines_to_come reader so.rest ≡ found → compare_lines terms s lines ≡ compare_lines terms now found
  ran-all found e = ap (compare_lines terms s) (so.split ∙ ap (λ ls. so.front ++ ls) e) ∙ so.ran found

  -- a line goes
  pub so_far-line : (reader' : LineReader) (left' : Option (List ℕ)) (now' : TraceState) → IfSome left (λ input. GivesNextLine (Ok next.Line) reader reader' input left') → RunsTraceLine terms now P reader'.cutter.count reader'.cutter.line (Ok tt) now' → SoFar terms s lines reader' left' now'
  so_far-line reader' left' now' gives runs =
      let g = next-of next.Line reader' left' gives in
      let line : FoundLines = (reader'.cutter.count, Ok reader'.cutter.line) ∷ [] in
      record {
        front = so.front ++ line;
        rest = g.1.1.rest;
        has = g.1.1.has;
        split = so.split ∙ (ap (λ ls. so.front ++ ls) (g.1.0 ∙ ap (λ (ls : FoundLines). (reader'.cutter.count, Ok reader'.cutter.line) ∷ ls) g.1.1.lines) ∙ sym (append_assoc so.front line (lines_to_come reader' g.1.1.rest)));
        ran = λ behind.
            ap (compare_lines terms s) (append_assoc so.front line behind)
            ∙ (so.ran ((reader'.cutter.count, Ok reader'.cutter.line) ∷ behind) ∙ runs (λ after. compare_lines terms after behind));
      }

  -- the end of the source
  pub so_far-end : (reader' : LineReader) (left' : Option (List ℕ)) → IfSome left (λ input. GivesNextLine (Ok next.End) reader reader' input left') → EndsAs terms s P lines (Finished now.tally) left'
  so_far-end reader' left' gives = let g = next-of next.End reader' left' gives in (ran-all [] g.0, g.1)

  pub so_far-last : (reader' : LineReader) (left' : Option (List ℕ)) (now' : TraceState) → IfSome left (λ input. GivesNextLine (Ok next.Last) reader reader' input left') → RunsTraceLine terms now P reader'.cutter.count reader'.cutter.line (Ok tt) now' → EndsAs terms s P lines (Finished now'.tally) left'
  so_far-last reader' left' now' gives runs =
      let g = next-of next.Last reader' left' gives in
      (ran-all ((reader'.cutter.count, Ok reader'.cutter.line) ∷ []) g.0 ∙ runs (λ after. compare_lines terms after []), g.1)

  -- a line that can't be taken
  pub so_far-bad : (fault : LineFault) (reader' : LineReader) (left' : Option (List ℕ)) → IfSome left (λ input. GivesNextLine (Ok (next.Bad fault)) reader reader' input left') → EndsAs terms s P lines (Faulty (reader'.cutter.count + 1) (Bad fault)) left'
  so_far-bad fault reader' left' gives = ran-all ((reader'.cutter.count + 1, Err fault) ∷ []) (next-of (next.Bad fault) reader' left' gives)

  -- a line at which it ends
  ends-at : (n : ℕ) (line : List ℕ) (behind : FoundLines) (how : Ending) (left' : Option (List ℕ)) (now' : TraceState) → lines_to_come reader so.rest ≡ (n, Ok line) ∷ behind → RunsTraceLine terms now P n line (Err how) now' → EndsAs terms s P lines how left'
  ends-at n line behind (Finished tally) left' now' e runs = absurd runs
  ends-at n line behind Read left' now' e runs = absurd runs
  ends-at n line behind Memory left' now' e runs = tt
  ends-at n line behind (Faulty m (Bad fault)) left' now' e runs =
      ran-all ((n, Ok line) ∷ behind) e ∙ (runs.1 (λ after. compare_lines terms after behind) ∙ ap (λ k. compared.BadLine k fault) (sym runs.0))
  ends-at n line behind (Faulty m Outside) left' now' e runs =
      ran-all ((n, Ok line) ∷ behind) e ∙ (runs.1 (λ after. compare_lines terms after behind) ∙ ap (λ k. compared.OutsideAt k) (sym runs.0))
  ends-at n line behind (Faulty m (TooMany way)) left' now' e runs =
      ran-all ((n, Ok line) ∷ behind) e ∙ (runs.1 (λ after. compare_lines terms after behind) ∙ ap (λ k. compared.StoppedAt k way outcome.TooManySegments) (sym runs.0))
  ends-at n line behind (Faulty m (NoSegment way)) left' now' e runs = record {
    front = so.front;
    line = line;
    behind = behind;
    split = so.split ∙ ap (λ ls. so.front ++ ls) (e ∙ ap (λ (k : ℕ). let found : FoundLines = (k, Ok line) ∷ behind in found) (sym runs.0));
    at = now;
    ran = so.ran;
    asks = subst (λ (k : ℕ). AsksIn terms now P k line way) (sym runs.0) runs.1;
  }

  pub so_far-stops : (how : Ending) (reader' : LineReader) (left' : Option (List ℕ)) (now' : TraceState) → IfSome left (λ input. GivesNextLine (Ok next.Line) reader reader' input left') → RunsTraceLine terms now P reader'.cutter.count reader'.cutter.line (Err how) now' → EndsAs terms s P lines how left'
  so_far-stops how reader' left' now' gives runs =
      let g = next-of next.Line reader' left' gives in
      ends-at reader'.cutter.count reader'.cutter.line g.0 how left' now' g.1.0 runs

  pub so_far-stops_last : (how : Ending) (reader' : LineReader) (left' : Option (List ℕ)) (now' : TraceState) → IfSome left (λ input. GivesNextLine (Ok next.Last) reader reader' input left') → RunsTraceLine terms now P reader'.cutter.count reader'.cutter.line (Err how) now' → EndsAs terms s P lines how left'
  so_far-stops_last how reader' left' now' gives runs =
      let g = next-of next.Last reader' left' gives in
      ends-at reader'.cutter.count reader'.cutter.line [] how left' now' g.0 runs

-- over whatever a source tells
pub if_both : (o : Option (List ℕ)) (P Q : List ℕ → Type 0) → ((x : List ℕ) → P x → Q x) → IfSome o P → IfSome o Q
if_both None P Q f p = tt
if_both (Some x) P Q f p = f x p

-- a line by what is wrong with it
pub line-runs : (terms : WayTerms) (s : TraceState) (P : Asking → Type 0) (n : ℕ) (line : List ℕ) (wrong : Option Wrong) (new : TraceState) → LineEnds terms s n line (Ok wrong) new → RunsTraceLine terms s P n line (ending_of n wrong) new
line-runs terms s P n line None new ends = ends
line-runs terms s P n line (Some (wrong.Bad fault)) new ends = (refl, ends)
line-runs terms s P n line (Some wrong.Outside) new ends = (refl, ends)

pub on_ok : {T E : Type 0} (r : Result T E) (P : Type 0) → P → OnOk r P
on_ok (Ok x) P p = p
on_ok (Err e) P p = tt

-- a reader that has read nothing has all lines to come
pub all-come : (r : LineReader) (input : List ℕ) → unread_of r ≡ [] → r.cutter ≡ new_cutting → lines_to_come r input ≡ judged_lines input
all-come r input none new = ap₂ (λ c (xs : List ℕ). found_behind c (xs ++ input)) new none
