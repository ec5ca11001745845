use Rattle.vc_base.proofs.Common.{◌∙◌, Some, bytes_eq, option_map, refl, sym, ap, Discipline}
use Rattle.std.proofs.lemmas.Map.Made.{lookup-map_values}
use Rattle.vc_ways.specs.RegionsParts.{all_holdings, live_of}
use Rattle.vc_ways.specs.Step.{free_found}
use Rattle.vc_ways.specs.TraceParts.{trace_state}
use Rattle.vc_ways.specs.declared.trace.Trace.{Trace}
use Rattle.vc_ways.proofs.PoolSteps.{kept-same}
use Rattle.vc_ways.proofs.TraceStands.{left-goes, left-stands}
use Rattle.vc_ways.proofs.trace.Trace.free.Given as given
use Rattle.vc_ways.proofs.trace.Trace.free.Goals as goal
use Rattle.vc_ways.proofs.trace.Trace.free.Goals.{After-with-self}

abbrev meaning : (g : given.Over) → (x : g.dyn-1.0.I) × (g.dyn-1.0.entry x).0.Denot → Discipline
meaning g p = (g.dyn-1.0.entry p.0).1.state p.1

pub returns-in-None-clause-answer : goal.returns-in-None-clause-answer
returns-in-None-clause-answer g c =
    ap (free_found (trace_state c.args.self.now) c.args.r.now c.args.x.now) (lookup-map_values live_of (bytes_eq c.args.x.now) c.args.self.now.blocks.entries ∙ ap (option_map live_of) (sym c.in-None.ensures))

pub returns-in-None-clause-keeps : goal.returns-in-None-clause-keeps
returns-in-None-clause-keeps g c = kept-same _ (all_holdings (meaning g) c.args.self.now.regions)

pub free-requires-clause-live : goal.free-requires-clause-live
free-requires-clause-live g c = c.requires.stands.live c.args.x.now c.in-Some.live (sym c.in-Some.ensures)

-- the trace without the block
abbrev after : (g : given.Over) (c : After-with-self g) → Trace g.dyn-1.0.I (λ x. (g.dyn-1.0.entry x).0.Denot)
after g c = record { region = Some c.args.r.now; blocks = c.swap_remove.new.self; regions = c.free.new.self; extents = c.args.self.now.extents; live = c.saturating_sub-self.result; tally = c.with-self.result }

pub returns-clause-answer : goal.returns-clause-answer
returns-clause-answer g c =
    ap (free_found (trace_state c.args.self.now) c.args.r.now c.args.x.now) (lookup-map_values live_of (bytes_eq c.args.x.now) c.args.self.now.blocks.entries ∙ ap (option_map live_of) (sym c.in-Some.ensures))
    ∙ left-goes (meaning g) c.args.self.now (after g (goal.at.returns-clause-answer g c).After-with-self) c.free.new.self c.requires.stands refl c.args.r.now c.args.x.now c.in-Some.live (sym c.in-Some.ensures) c.free.ensures.regions refl c.swap_remove.ensures.entries c.saturating_sub-self.ensures refl c.with-self.ensures

pub returns-clause-stands : goal.returns-clause-stands
returns-clause-stands g c =
    left-stands (meaning g) c.args.self.now (after g (goal.at.returns-clause-stands g c).After-with-self) c.free.new.self c.requires.stands refl c.args.r.now c.args.x.now c.in-Some.live (sym c.in-Some.ensures) c.free.ensures.regions refl c.swap_remove.ensures.entries c.saturating_sub-self.ensures refl c.with-self.ensures c.free.ensures.whole c.free.ensures.keeps c.free.ensures.others c.swap_remove.ensures.updates.0
