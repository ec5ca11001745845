use Rattle.vc_base.proofs.Common.{[], arith, Discipline}
use Rattle.vc_seg.specs.Boxed.{disc_in_box}
use Rattle.vc_ways.specs.RegionsParts.{best_holding}
use Rattle.vc_ways.specs.Settled.{slots_on}
use Rattle.vc_ways.proofs.Loans.{give-at, has-taken}
use Rattle.vc_ways.proofs.open.close_best.Given as given
use Rattle.vc_ways.proofs.open.close_best.Goals as goal

abbrev meaning : (g : given.Over) → (x : g.dyn-1.0.I) × (g.dyn-1.0.entry x).0.Denot → Discipline
meaning g p = (g.dyn-1.0.entry p.0).1.state p.1

pub give_back-requires : goal.give_back-requires
give_back-requires g c = has-taken 1 (slots_on (meaning g) c.args.shelf.now) c.requires.taken 1 (omega arith) (omega arith)

pub returns : goal.returns
returns g c = λ old lends.
    give-at [] (best_holding (meaning g) c.args.best) old (slots_on (meaning g) c.args.shelf.now) (slots_on (meaning g) c.give_back.new.self) 1 (disc_in_box (meaning g) c.close-disc.result.0) (omega arith) lends c.give_back.ensures.filled c.close-disc.ensures.disc
