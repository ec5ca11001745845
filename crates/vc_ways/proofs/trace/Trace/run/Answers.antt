use Rattle.vc_base.proofs.Common.{Discipline, true}
use Rattle.vc_ways.specs.RegionsParts.{all_holdings, terms_of}
use Rattle.vc_ways.specs.TraceParts.{trace_state}
use Rattle.vc_ways.proofs.OtherCommands.{others-outside}
use Rattle.vc_ways.proofs.PoolSteps.{kept-same}
use Rattle.vc_ways.proofs.TraceStands.{closes}
use Rattle.vc_ways.proofs.trace.Trace.run.Given as given
use Rattle.vc_ways.proofs.trace.Trace.run.Goals as goal

abbrev meaning : (g : given.Over) → (x : g.dyn-1.0.I) × (g.dyn-1.0.entry x).0.Denot → Discipline
meaning g p = (g.dyn-1.0.entry p.0).1.state p.1

pub returns-then-is_new-clause-closes : goal.returns-then-is_new-clause-closes
returns-then-is_new-clause-closes g c = closes (meaning g) c.args.self.now c.put.new.self c.requires.stands c.put.ensures.leaves.keeps

pub returns-then-may_move-clause-closes : goal.returns-then-may_move-clause-closes
returns-then-may_move-clause-closes g c = closes (meaning g) c.args.self.now c.resize.new.self c.requires.stands c.resize.ensures.leaves.keeps

pub returns-else-is_region-clause-leaves : goal.returns-else-is_region-clause-leaves
returns-else-is_region-clause-leaves g c = record { stands = c.requires.stands; keeps = kept-same _ (all_holdings (meaning g) c.args.self.now.regions); refused = tt }

pub returns-else-is_region-2-clause-leaves : goal.returns-else-is_region-2-clause-leaves
returns-else-is_region-2-clause-leaves g c = record { stands = c.requires.stands; keeps = kept-same _ (all_holdings (meaning g) c.args.self.now.regions); refused = tt }

pub returns-else-is_region-3-clause-leaves : goal.returns-else-is_region-3-clause-leaves
returns-else-is_region-3-clause-leaves g c = record { stands = c.requires.stands; keeps = kept-same _ (all_holdings (meaning g) c.args.self.now.regions); refused = tt }

pub returns-in_default-clause-answer : goal.returns-in_default-clause-answer
returns-in_default-clause-answer g c =
    others-outside (terms_of (meaning g) c.args.self.now.regions) (trace_state c.args.self.now) c.args.command.now c.in_default.not-Alloc c.in_default.not-Resize c.in_default.not-Free

pub returns-in_default-clause-leaves : goal.returns-in_default-clause-leaves
returns-in_default-clause-leaves g c = record { stands = c.requires.stands; keeps = kept-same _ (all_holdings (meaning g) c.args.self.now.regions); refused = tt }

pub returns-in_default-clause-closes : goal.returns-in_default-clause-closes
returns-in_default-clause-closes g c = closes {went = true} (meaning g) c.args.self.now c.args.self.now c.requires.stands (kept-same _ (all_holdings (meaning g) c.args.self.now.regions))
