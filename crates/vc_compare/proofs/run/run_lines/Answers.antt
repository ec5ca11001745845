use Rattle.vc_base.proofs.Common.{Ok, Err, IfSome, subst, arith, true}
use Rattle.vc_compare.specs.Reading.{GivesNextLine}
use Rattle.vc_ways.specs.Answer.{KeepsWays}
use Rattle.vc_ways.specs.Asking.{AreRefused, Refuses}
use Rattle.vc_ways.specs.Regions.{WayTerms}
use Rattle.vc_ways.specs.RegionsParts.{all_holdings, terms_of}
use Rattle.vc_ways.specs.TraceParts.{trace_state}
use Rattle.vc_ways.proofs.PoolSteps.{kept-any, kept-same, kept-then}
use Rattle.vc_compare.specs.Ending.{RunsTraceLine}
use Rattle.vc_compare.proofs.Running.{if_both, so_far-last, so_far-line, so_far-start, so_far-stops, so_far-stops_last}
use Rattle.vc_compare.proofs.Stopping.{runs-as}
use Rattle.vc_compare.proofs.TermsOn.{regions-terms}
use Rattle.vc_compare.proofs.run.run_lines.Invariants.{meaning}
use Rattle.vc_compare.proofs.run.run_lines.Goals as goal

pub loop-next-init : goal.loop-next-init
loop-next-init g c = record {
  stands = c.requires.stands;
  can = c.requires.can;
  keeps = kept-same _ (all_holdings (meaning g) c.args.trace.now.regions);
  keeps_any = kept-same _ (all_holdings (meaning g) c.args.trace.now.regions);
  so_far = so_far-start (terms_of (meaning g) c.args.trace.now.regions) (trace_state c.args.trace.now) c.args.reader.now (g.S.Source.left c.args.source.now);
  never_falls = omega arith;
}

pub loop-next-preserved : goal.loop-next-preserved
loop-next-preserved g c =
    let mid = all_holdings (meaning g) c.loop-next.trace.regions in
    let last = all_holdings (meaning g) c.run_line.new.trace.regions in
    let gives = subst (λ k. IfSome (g.S.Source.left c.loop-next.source) (λ input. GivesNextLine (Ok k) c.loop-next.reader c.next.new.self input (g.S.Source.left c.next.new.source))) c.in-Line.is c.in-Ok.ensures.gives in
    let runs = subst (λ (t : WayTerms). RunsTraceLine t (trace_state c.loop-next.trace) (λ a. Refuses a mid last) c.next.new.self.cutter.count c.next.new.self.cutter.line (Ok tt) (trace_state c.run_line.new.trace)) (regions-terms (meaning g) _ c.args.trace.now.regions c.loop-next.trace.regions c.loop-next.invariant.keeps) c.in-Ok-run_line.ensures.runs in
    let keeps : KeepsWays true (all_holdings (meaning g) c.args.trace.now.regions) last = kept-then _ (all_holdings (meaning g) c.args.trace.now.regions) mid last c.loop-next.invariant.keeps c.in-Ok-run_line.ensures.keeps in
    record {
      stands = c.in-Ok-run_line.ensures.stands;
      can = (c.in-Ok.ensures.line c.in-Line.is).can;
      keeps = keeps;
      keeps_any = kept-any _ (all_holdings (meaning g) c.args.trace.now.regions) last keeps;
      so_far = if_both (g.S.Source.left c.args.source.now) _ _ (λ input so. so_far-line (λ a. Refuses a mid last) so c.next.new.self (g.S.Source.left c.next.new.source) (trace_state c.run_line.new.trace) gives runs) c.loop-next.invariant.so_far;
      never_falls = omega (arith, c.loop-next.invariant.never_falls, c.next.ensures.never_falls);
    }

pub returns-in-Err-run_line-clause-ends : goal.returns-in-Err-run_line-clause-ends
returns-in-Err-run_line-clause-ends g c =
    let first = all_holdings (meaning g) c.args.trace.now.regions in
    let mid = all_holdings (meaning g) c.loop-next.trace.regions in
    let last = all_holdings (meaning g) c.run_line.new.trace.regions in
    let gives = subst (λ k. IfSome (g.S.Source.left c.loop-next.source) (λ input. GivesNextLine (Ok k) c.loop-next.reader c.next.new.self input (g.S.Source.left c.next.new.source))) c.in-Line.is c.in-Ok.ensures.gives in
    let runs = subst (λ (t : WayTerms). RunsTraceLine t (trace_state c.loop-next.trace) (λ a. Refuses a mid last) c.next.new.self.cutter.count c.next.new.self.cutter.line (Err c.in-Err-run_line.ending) (trace_state c.run_line.new.trace)) (regions-terms (meaning g) _ c.args.trace.now.regions c.loop-next.trace.regions c.loop-next.invariant.keeps) c.in-Err-run_line.ensures.runs in
    let all = runs-as (λ a. Refuses a mid last) (AreRefused first last) (λ a refuses. record { before = mid; kept = c.loop-next.invariant.keeps; refuses = refuses }) (terms_of (meaning g) c.args.trace.now.regions) (trace_state c.loop-next.trace) c.next.new.self.cutter.count c.next.new.self.cutter.line (Err c.in-Err-run_line.ending) (trace_state c.run_line.new.trace) runs in
    if_both (g.S.Source.left c.args.source.now) _ _ (λ input so. so_far-stops (AreRefused first last) so c.in-Err-run_line.ending c.next.new.self (g.S.Source.left c.next.new.source) (trace_state c.run_line.new.trace) gives all) c.loop-next.invariant.so_far

pub returns-in-Err-run_line-clause-keeps : goal.returns-in-Err-run_line-clause-keeps
returns-in-Err-run_line-clause-keeps g c = kept-then _ (all_holdings (meaning g) c.args.trace.now.regions) (all_holdings (meaning g) c.loop-next.trace.regions) (all_holdings (meaning g) c.run_line.new.trace.regions) c.loop-next.invariant.keeps c.in-Err-run_line.ensures.keeps

pub returns-in-Ok-run_line-2-clause-ends : goal.returns-in-Ok-run_line-2-clause-ends
returns-in-Ok-run_line-2-clause-ends g c =
    let mid = all_holdings (meaning g) c.loop-next.trace.regions in
    let last = all_holdings (meaning g) c.run_line-in-Last.new.trace.regions in
    let gives = subst (λ k. IfSome (g.S.Source.left c.loop-next.source) (λ input. GivesNextLine (Ok k) c.loop-next.reader c.next.new.self input (g.S.Source.left c.next.new.source))) c.in-Last.is c.in-Ok.ensures.gives in
    let runs = subst (λ (t : WayTerms). RunsTraceLine t (trace_state c.loop-next.trace) (λ a. Refuses a mid last) c.next.new.self.cutter.count c.next.new.self.cutter.line (Ok tt) (trace_state c.run_line-in-Last.new.trace)) (regions-terms (meaning g) _ c.args.trace.now.regions c.loop-next.trace.regions c.loop-next.invariant.keeps) c.in-Ok-run_line-2.ensures.runs in
    if_both (g.S.Source.left c.args.source.now) _ _ (λ input so. so_far-last (λ a. Refuses a mid last) so c.next.new.self (g.S.Source.left c.next.new.source) (trace_state c.run_line-in-Last.new.trace) gives runs) c.loop-next.invariant.so_far

pub returns-in-Ok-run_line-2-clause-keeps : goal.returns-in-Ok-run_line-2-clause-keeps
returns-in-Ok-run_line-2-clause-keeps g c = kept-any _ (all_holdings (meaning g) c.args.trace.now.regions) (all_holdings (meaning g) c.run_line-in-Last.new.trace.regions) (kept-then _ (all_holdings (meaning g) c.args.trace.now.regions) (all_holdings (meaning g) c.loop-next.trace.regions) (all_holdings (meaning g) c.run_line-in-Last.new.trace.regions) c.loop-next.invariant.keeps c.in-Ok-run_line-2.ensures.keeps)

pub returns-in-Err-run_line-2-clause-ends : goal.returns-in-Err-run_line-2-clause-ends
returns-in-Err-run_line-2-clause-ends g c =
    let first = all_holdings (meaning g) c.args.trace.now.regions in
    let mid = all_holdings (meaning g) c.loop-next.trace.regions in
    let last = all_holdings (meaning g) c.run_line-in-Last.new.trace.regions in
    let gives = subst (λ k. IfSome (g.S.Source.left c.loop-next.source) (λ input. GivesNextLine (Ok k) c.loop-next.reader c.next.new.self input (g.S.Source.left c.next.new.source))) c.in-Last.is c.in-Ok.ensures.gives in
    let runs = subst (λ (t : WayTerms). RunsTraceLine t (trace_state c.loop-next.trace) (λ a. Refuses a mid last) c.next.new.self.cutter.count c.next.new.self.cutter.line (Err c.in-Err-run_line-2.ending) (trace_state c.run_line-in-Last.new.trace)) (regions-terms (meaning g) _ c.args.trace.now.regions c.loop-next.trace.regions c.loop-next.invariant.keeps) c.in-Err-run_line-2.ensures.runs in
    let all = runs-as (λ a. Refuses a mid last) (AreRefused first last) (λ a refuses. record { before = mid; kept = c.loop-next.invariant.keeps; refuses = refuses }) (terms_of (meaning g) c.args.trace.now.regions) (trace_state c.loop-next.trace) c.next.new.self.cutter.count c.next.new.self.cutter.line (Err c.in-Err-run_line-2.ending) (trace_state c.run_line-in-Last.new.trace) runs in
    if_both (g.S.Source.left c.args.source.now) _ _ (λ input so. so_far-stops_last (AreRefused first last) so c.in-Err-run_line-2.ending c.next.new.self (g.S.Source.left c.next.new.source) (trace_state c.run_line-in-Last.new.trace) gives all) c.loop-next.invariant.so_far

pub returns-in-Err-run_line-2-clause-keeps : goal.returns-in-Err-run_line-2-clause-keeps
returns-in-Err-run_line-2-clause-keeps g c = kept-then _ (all_holdings (meaning g) c.args.trace.now.regions) (all_holdings (meaning g) c.loop-next.trace.regions) (all_holdings (meaning g) c.run_line-in-Last.new.trace.regions) c.loop-next.invariant.keeps c.in-Err-run_line-2.ensures.keeps
