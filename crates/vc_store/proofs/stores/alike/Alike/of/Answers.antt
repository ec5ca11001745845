use Rattle.vc_base.proofs.Common.{Discipline}
use Rattle.vc_store.specs.Stores.Stores.{disc_of}
use Rattle.vc_store.proofs.stores.alike.Alike.of.Given.{Over}
use Rattle.vc_store.proofs.stores.alike.Alike.of.Goals as goal

-- what a region's boxed discipline means
abbrev meaning : (g : Over) → (x : g.dyn-1.0.I) × (g.dyn-1.0.entry x).0.Denot → Discipline
meaning g p = (goal.SegDisc-dyn g p).state p.1

pub returns-clause-layers : goal.returns-clause-layers
returns-clause-layers g c = λ d there same. record { disc = disc_of c.args.store (meaning g); is_open = c.requires.open; there = there; rules = same }
