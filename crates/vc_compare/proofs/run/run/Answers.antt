use Rattle.vc_base.proofs.Common.{◌≡◌, ◌∙◌, List, [], Option, length, length-map, map, ap, refl, sym, subst, arith, Discipline, false}
use Rattle.vc_pool.specs.Parts.{pool_of}
use Rattle.vc_script.specs.Judged.{judged_lines}
use Rattle.vc_script.specs.Pieces.{FoundLines}
use Rattle.vc_ways.specs.Answer.{KeepsWays}
use Rattle.vc_compare.specs.Reading.{lines_to_come}
use Rattle.vc_ways.specs.Asking.{AreRefused, Asking}
use Rattle.vc_ways.specs.Lends.{HasAllBack}
use Rattle.vc_ways.specs.PoolParts.{holding_in}
use Rattle.vc_ways.specs.Regions as ways
use Rattle.vc_ways.specs.RegionsParts.{all_holdings, terms_of}
use Rattle.vc_ways.specs.Settled.{slots_on}
use Rattle.vc_ways.specs.Step.{TraceState, start}
use Rattle.vc_ways.specs.TraceParts.{trace_state}
use Rattle.vc_ways.proofs.Loans.{all-back-same, are-taken, lends-kept, lends-settled, opens-lends}
use Rattle.vc_compare.specs.Ending.{EndsAs}
use Rattle.vc_compare.specs.Refusal.{RefusesAsked}
use Rattle.vc_compare.proofs.Refusing.{refused-settled}
use Rattle.vc_compare.proofs.Running.{all-come, if_both}
use Rattle.vc_compare.proofs.Stopping.{ends-as}
use Rattle.vc_compare.proofs.TermsOn.{opened-terms}
use Rattle.vc_compare.proofs.run.run.Given as given
use Rattle.vc_compare.proofs.run.run.Goals as goal

abbrev meaning : (g : given.Over) → (x : g.dyn-1.0.I) × (g.dyn-1.0.entry x).0.Denot → Discipline
meaning g p = (g.dyn-1.0.entry p.0).1.state p.1

pub returns-in_default-clause-keeps : goal.returns-in_default-clause-keeps
returns-in_default-clause-keeps g c = all-back-same (slots_on (meaning g) c.args.shelf.now)

pub returns-in-Err-clause-keeps : goal.returns-in-Err-clause-keeps
returns-in-Err-clause-keeps g c =
    c.in-Err.ensures.lends (slots_on (meaning g) c.args.shelf.now) [] refl refl

pub close-requires-clause-taken : goal.close-requires-clause-taken
close-requires-clause-taken g c =
    let pools : length (map pool_of c.in-Ok-open.regions.pools.items) ≡ 20 = ap (λ (x : ways.Regions). length x.pools) c.in-Ok-open.ensures.none in
    let many : length (all_holdings (meaning g) c.in-Ok-open.regions) ≡ 22 = omega (arith, pools, length-map c.in-Ok-open.regions.pools.items pool_of, length-map c.in-Ok-open.regions.pools.items (holding_in (meaning g))) in
    are-taken (all_holdings (meaning g) c.in-Ok-open.regions) (slots_on (meaning g) c.args.shelf.now) (slots_on (meaning g) c.open.new.shelf) 22 many (opens-lends (all_holdings (meaning g) c.in-Ok-open.regions) (slots_on (meaning g) c.args.shelf.now) (slots_on (meaning g) c.open.new.shelf) (c.in-Ok-open.ensures.lends (slots_on (meaning g) c.args.shelf.now) [] refl refl))

pub returns-clause-keeps : goal.returns-clause-keeps
returns-clause-keeps g c =
    let before = slots_on (meaning g) c.args.shelf.now in
    let mid = slots_on (meaning g) c.open.new.shelf in
    let r = c.in-Ok-open.regions in
    let opened = c.in-Ok-open.ensures.lends before [] refl refl in
    let last = c.run_lines-ending.new.trace.regions in
    let kept = subst (λ q. KeepsWays false (all_holdings (meaning g) q) (all_holdings (meaning g) last)) c.new-trace.ensures.regions c.run_lines-ending.ensures.keeps in
    let lends = lends-kept (all_holdings (meaning g) r) (all_holdings (meaning g) last) before mid kept (opens-lends (all_holdings (meaning g) r) before mid opened) in
    subst (HasAllBack before) (sym c.close.ensures.slots) (lends-settled [] (all_holdings (meaning g) last) c.close.ensures.discs before mid lends c.close.ensures.settled)

pub returns-clause-ends : goal.returns-clause-ends
returns-clause-ends g c =
    let before = slots_on (meaning g) c.args.shelf.now in
    let mid = slots_on (meaning g) c.open.new.shelf in
    let r = c.in-Ok-open.regions in
    let opened = c.in-Ok-open.ensures.lends before [] refl refl in
    let after = slots_on (meaning g) c.close.new.shelf in
    let firsts = all_holdings (meaning g) r in
    let lasts = all_holdings (meaning g) c.run_lines-ending.new.trace.regions in
    let trace = c.new-trace.result in
    let how = c.run_lines-ending.result in
    let left = g.S.Source.left c.run_lines-ending.new.source in
    let pools : length (map pool_of r.pools.items) ≡ 20 = ap (λ (x : ways.Regions). length x.pools) c.in-Ok-open.ensures.none in
    let many : length r.pools.items ≡ 20 = sym (length-map r.pools.items pool_of) ∙ pools in
    let terms = ap (terms_of (meaning g)) c.new-trace.ensures.regions ∙ opened-terms (meaning g) r before mid many (opens-lends (all_holdings (meaning g) r) before mid opened) in
    let refused : (a : Asking) → AreRefused (all_holdings (meaning g) trace.regions) lasts a → RefusesAsked before after a =
    λ a h. subst (λ (x : List (Option Discipline)). RefusesAsked before x a) (sym c.close.ensures.slots)
    (refused-settled firsts lasts c.close.ensures.discs before mid opened c.close.ensures.settled a
    (subst (λ q. AreRefused (all_holdings (meaning g) q) lasts a) c.new-trace.ensures.regions h)) in
    let P : Asking → Type 0 = RefusesAsked before after in
    if_both (g.S.Source.left c.args.source.now) _ _ (λ input ends.
    let all = ends-as (AreRefused (all_holdings (meaning g) trace.regions) lasts) P refused (terms_of (meaning g) trace.regions) (trace_state trace) (lines_to_come c.in-Ok.reader input) how left ends in
    let first = subst (λ (ls : FoundLines). EndsAs (terms_of (meaning g) trace.regions) (trace_state trace) P ls how left) (all-come c.in-Ok.reader input c.in-Ok.ensures.nothing c.in-Ok.ensures.cutter) all in
    let second = subst (λ (s : TraceState). EndsAs (terms_of (meaning g) trace.regions) s P (judged_lines input) how left) c.new-trace.ensures.state first in
    subst (λ (t : ways.WayTerms). EndsAs t start P (judged_lines input) how left) terms second) c.run_lines-ending.ensures.ends
