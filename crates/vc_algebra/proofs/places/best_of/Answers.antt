use Rattle.vc_base.proofs.Common.{sym, ap}
use Rattle.vc_region.specs.Cells.{cells_in}
use Rattle.vc_algebra.proofs.ToldLemmas.{no-other}
use Rattle.vc_algebra.proofs.places.best_of.Goals as goal

pub unreachable-requires : goal.unreachable-requires
unreachable-requires g c = no-other c.args.region.now c.requires c.in_default.not-Best

pub returns : goal.returns
returns g c = sym (ap cells_in c.in-Best.is)
