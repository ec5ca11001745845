use Rattle.vc_base.proofs.Common.{◌∙◌, ℕ, List, Ok, Err, ap, sym, subst, Discipline}
use Rattle.vc_ways.specs.Asking.{Asking, IsUnserved, Refuses, line_size}
use Rattle.vc_ways.specs.LineParts.{LineEnds}
use Rattle.vc_ways.specs.RegionsParts.{all_holdings, terms_of}
use Rattle.vc_ways.specs.TraceParts.{StandsSoFar, trace_state}
use Rattle.vc_ways.proofs.PoolSteps.{kept-any}
use Rattle.vc_compare.specs.Ending.{RunsTraceLine, StopsAs, ending_of}
use Rattle.vc_compare.proofs.Running.{line-runs, on_ok}
use Rattle.vc_compare.proofs.Stopping.{stop-runs}
use Rattle.vc_compare.proofs.run.run_line.Given as given
use Rattle.vc_compare.proofs.run.run_line.Goals as goal

abbrev meaning : (g : given.Over) → (x : g.dyn-1.0.I) × (g.dyn-1.0.entry x).0.Denot → Discipline
meaning g p = (g.dyn-1.0.entry p.0).1.state p.1

pub returns-in-Ok-clause-runs : goal.returns-in-Ok-clause-runs
returns-in-Ok-clause-runs g c =
    let terms = terms_of (meaning g) c.args.trace.now.regions in
    let new = trace_state c.run_line.new.self in
    let P : Asking → Type 0 = λ asked. Refuses asked (all_holdings (meaning g) c.args.trace.now.regions) (all_holdings (meaning g) c.run_line.new.self.regions) in
    let ends = subst (λ (n : ℕ). LineEnds terms (trace_state c.args.trace.now) n c.args.reader.now.cutter.line (Ok c.in-Ok.wrong) new) c.number-n.ensures.value (subst (λ (xs : List ℕ). LineEnds terms (trace_state c.args.trace.now) c.number-n.result xs (Ok c.in-Ok.wrong) new) c.line.ensures c.in-Ok.ensures.answer) in
    let same = c.judged.ensures ∙ ap (λ n. ending_of n c.in-Ok.wrong) c.number-n.ensures.value in
    subst (λ r. RunsTraceLine terms (trace_state c.args.trace.now) P c.args.reader.now.cutter.count c.args.reader.now.cutter.line r new) (sym same) (line-runs terms (trace_state c.args.trace.now) P c.args.reader.now.cutter.count c.args.reader.now.cutter.line c.in-Ok.wrong new ends)

pub returns-in-Err-clause-runs : goal.returns-in-Err-clause-runs
returns-in-Err-clause-runs g c =
    let terms = terms_of (meaning g) c.args.trace.now.regions in
    let s = trace_state c.args.trace.now in
    let olds = all_holdings (meaning g) c.args.trace.now.regions in
    let news = all_holdings (meaning g) c.run_line.new.self.regions in
    let new = trace_state c.run_line.new.self in
    let k = c.args.reader.now.cutter in
    let stop = c.in-Err.stop in
    let ends = subst (λ (n : ℕ). LineEnds terms s n k.line (Err stop) new) c.number-n.ensures.value (subst (λ (xs : List ℕ). LineEnds terms s c.number-n.result xs (Err stop) new) c.line.ensures c.in-Err.ensures.answer) in
    let unserved = subst (λ (n : ℕ). IsUnserved terms s.regions (line_size n k.line) stop olds news) c.number-n.ensures.value (subst (λ (xs : List ℕ). IsUnserved terms s.regions (line_size c.number-n.result xs) stop olds news) c.line.ensures c.in-Err.ensures.leaves.refused) in
    let stops = subst (λ n. StopsAs n stop c.stopped.result) c.number-n.ensures.value c.stopped.ensures in
    stop-runs terms s k.count k.line olds news stop c.stopped.result new stops ends unserved

pub returns-in-Ok-clause-stands : goal.returns-in-Ok-clause-stands
returns-in-Ok-clause-stands g c = on_ok c.judged.result (StandsSoFar (meaning g) c.run_line.new.self) c.in-Ok.ensures.leaves.stands

pub returns-in-Ok-clause-keeps : goal.returns-in-Ok-clause-keeps
returns-in-Ok-clause-keeps g c = kept-any _ (all_holdings (meaning g) c.args.trace.now.regions) (all_holdings (meaning g) c.run_line.new.self.regions) c.in-Ok.ensures.leaves.keeps
