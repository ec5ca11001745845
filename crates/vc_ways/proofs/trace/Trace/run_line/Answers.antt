use Rattle.vc_base.proofs.Common.{rules, Discipline}
use Rattle.vc_ways.specs.RegionsParts.{all_holdings}
use Rattle.vc_ways.proofs.PoolSteps.{kept-same}
use Rattle.vc_ways.proofs.trace.Trace.run_line.Given as given
use Rattle.vc_ways.proofs.trace.Trace.run_line.Goals as goal

abbrev meaning : (g : given.Over) → (x : g.dyn-1.0.I) × (g.dyn-1.0.entry x).0.Denot → Discipline
meaning g p = (g.dyn-1.0.entry p.0).1.state p.1

pub returns-in-Blank-clause-leaves : goal.returns-in-Blank-clause-leaves
returns-in-Blank-clause-leaves g c = record { stands = c.requires.stands; keeps = kept-same _ (all_holdings (meaning g) c.args.self.now.regions); refused = tt }

pub returns-in-Bad-clause-leaves : goal.returns-in-Bad-clause-leaves
returns-in-Bad-clause-leaves g c = record { stands = c.requires.stands; keeps = kept-same _ (all_holdings (meaning g) c.args.self.now.regions); refused = tt }

pub returns-clause-leaves : goal.returns-clause-leaves
returns-clause-leaves g c = record { stands = tt; keeps = kept-same _ (all_holdings (meaning g) c.args.self.now.regions); refused = search rules }

pub returns-in-Version-clause-leaves : goal.returns-in-Version-clause-leaves
returns-in-Version-clause-leaves g c = record { stands = c.requires.stands; keeps = kept-same _ (all_holdings (meaning g) c.args.self.now.regions); refused = tt }
