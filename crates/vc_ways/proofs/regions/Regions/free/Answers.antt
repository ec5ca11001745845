use Rattle.vc_base.proofs.Common.{◌∙◌, ℕ, Layout, HasBlock, ap, get_or, subst, sym, true}
use Rattle.vc_ways.specs.LastParts.{way_of}
use Rattle.vc_ways.specs.LastWay.{LastWay}
use Rattle.vc_ways.specs.PoolWay.{class_of}
use Rattle.vc_ways.proofs.Apart.{other-has}
use Rattle.vc_ways.proofs.Flags.{alive-within, dead-alive, drop-alive}
use Rattle.vc_ways.proofs.regions.Regions.free.Goals as goal

pub mark_dead-requires-clause-block : goal.mark_dead-requires-clause-block
mark_dead-requires-clause-block g c = alive-within (way_of c.args.self.now.last) c.args.live.now.last c.requires.live.last

pub returns-clause-others : goal.returns-clause-others
returns-clause-others g c =
    λ k live apart.
    let alive : LastWay → _ = λ w. get_or w.dead k.last true in
    record {
      size = live.size;
      best = subst (λ (r : Layout ℕ). HasBlock r.blocks k.best.0) (sym c.free.ensures.layout) (other-has c.args.live.now.best.0 k.best.0 _ live.best apart.best);
      last =
          ap alive c.drop_dead.ensures.way
          ∙ drop-alive (way_of c.mark_dead.new.self) k.last (ap alive c.mark_dead.ensures.way ∙ dead-alive (way_of c.args.self.now.last) c.args.live.now.last k.last live.last apart.last);
      cell = c.free_cell.ensures.others (class_of k.size) k.cell.0 live.cell apart.cell;
    }
