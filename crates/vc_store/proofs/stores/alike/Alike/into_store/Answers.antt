use Rattle.vc_base.proofs.Common.{Discipline}
use Rattle.vc_store.proofs.Looked.{all-stay, stays-open}
use Rattle.vc_store.proofs.stores.alike.Alike.into_store.Given.{Over}
use Rattle.vc_store.proofs.stores.alike.Alike.into_store.Goals as goal

-- what a region's boxed discipline means
abbrev meaning : (g : Over) → (x : g.dyn-1.0.I) × (g.dyn-1.0.entry x).0.Denot → Discipline
meaning g p = (goal.SegDisc-dyn g p).state p.1

pub returns-clause-same : goal.returns-clause-same
returns-clause-same g c = λ old keeps. all-stay keeps

pub returns-clause-stays : goal.returns-clause-stays
returns-clause-stays g c = λ old keeps is. stays-open keeps (meaning g) is
