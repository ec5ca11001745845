use Rattle.vc_base.proofs.Common.{rules, ◌∙◌, ℕ, suc, ◌∷◌, Discipline, Ok, Err, ap, arith, get_or, refl, true}
use Rattle.vc_best.specs.Parts.{layout_of}
use Rattle.vc_ways.specs.LastParts.{holding_of, way_of}
use Rattle.vc_ways.specs.LastWay.{LastWay}
use Rattle.vc_ways.specs.PoolParts.{holdings}
use Rattle.vc_ways.specs.PoolWay.{class_of}
use Rattle.vc_ways.specs.RegionsParts.{best_holding}
use Rattle.vc_ways.proofs.Apart.{put-apart, put-has, put-stays}
use Rattle.vc_ways.proofs.BestKept.{put-keeps}
use Rattle.vc_ways.proofs.Flags.{drop-alive, put-alive, put-other, put-stays-alive}
use Rattle.vc_ways.proofs.Kept.{refused-unserved}
use Rattle.vc_ways.proofs.PoolSteps.{keeps-any, keeps-then, kept-same}
use Rattle.vc_ways.proofs.regions.Regions.put.Given as given
use Rattle.vc_ways.proofs.regions.Regions.put.Goals as goal

abbrev meaning : (g : given.Over) → (x : g.dyn-1.0.I) × (g.dyn-1.0.entry x).0.Denot → Discipline
meaning g p = (g.dyn-1.0.entry p.0).1.state p.1

pub alloc-requires-clause-lent : goal.alloc-requires-clause-lent
alloc-requires-clause-lent g c = c.requires.can.lent 0 (best_holding (meaning g) c.args.self.now.best) (omega arith)

pub put-requires : goal.put-requires
put-requires g c = record { can = record { fits = c.requires.can.fits; lent = c.requires.can.lent 1 (best_holding (meaning g) c.args.self.now.best) (omega arith); paired = c.requires.can.whole.paired } }

pub put_cell-requires : goal.put_cell-requires
put_cell-requires g c = record { can = record { fits = c.requires.can.fits; classes = c.requires.can.whole.classes; lent = λ i d lt. c.requires.can.lent (suc (suc i)) d (omega (arith, lt)) } }

pub returns-in-Err-clause-leaves : goal.returns-in-Err-clause-leaves
returns-in-Err-clause-leaves g c =
    record {
      whole = tt;
      keeps = (put-keeps (meaning g) c.args.self.now.best c.alloc.new.self c.args.size (Err c.in-Err.fault) c.in-Err.ensures.disc c.in-Err.ensures.answer, kept-same _ (holding_of (meaning g) c.args.self.now.last ∷ holdings (meaning g) c.args.self.now.pools.items));
      refused = λ e. (refl, refused-unserved c.in-Err.fault _ _ _ _ _ c.in-Err.ensures.disc e);
    }

pub returns-in-Err-put-clause-leaves : goal.returns-in-Err-put-clause-leaves
returns-in-Err-put-clause-leaves g c =
    record {
      whole = tt;
      keeps = (keeps-any _ _ (put-keeps (meaning g) c.args.self.now.best c.alloc.new.self c.args.size (Ok c.in-Ok.best) c.in-Ok.ensures.disc c.in-Ok.ensures.answer), (c.in-Err-put.ensures.leaves.keeps, kept-same _ _));
      refused = λ e. (refl, c.in-Err-put.ensures.leaves.refused (ap Err e));
    }

pub returns-in-Err-put_cell-clause-leaves : goal.returns-in-Err-put_cell-clause-leaves
returns-in-Err-put_cell-clause-leaves g c =
    record {
      whole = tt;
      keeps = (keeps-any _ _ (put-keeps (meaning g) c.args.self.now.best c.alloc.new.self c.args.size (Ok c.in-Ok.best) c.in-Ok.ensures.disc c.in-Ok.ensures.answer), (keeps-any _ _ c.in-Ok-put.ensures.leaves.keeps, c.in-Err-put_cell.ensures.leaves.keeps));
      refused = λ e. c.in-Err-put_cell.ensures.leaves.refused (ap Err e);
    }

pub returns-clause-leaves : goal.returns-clause-leaves
returns-clause-leaves g c =
    record {
      whole = search rules;
      keeps = (put-keeps (meaning g) c.args.self.now.best c.alloc.new.self c.args.size (Ok c.in-Ok.best) c.in-Ok.ensures.disc c.in-Ok.ensures.answer, (keeps-then _ _ _ c.in-Ok-put.ensures.leaves.keeps c.drop_dead.ensures.keeps, c.in-Ok-put_cell.ensures.leaves.keeps));
      refused = tt;
    }

pub returns-clause-comes : goal.returns-clause-comes
returns-clause-comes g c =
    let size = c.args.size in
    let a = c.in-Ok.best.0 in
    let old = (layout_of c.args.self.now.best).blocks in
    let new = (layout_of c.alloc.new.self).blocks in
    let terms = (holding_of (meaning g) c.args.self.now.last).disc.terms in
    let way = way_of c.args.self.now.last in
    let mid = way_of c.put.new.self in
    let put = c.in-Ok-put.ensures.answer in
    let cells = c.in-Ok-put_cell.ensures.comes in
    let flag : ℕ → LastWay → _ = λ k w. get_or w.dead k true in
    record {
      there =
          record {
            size = c.requires.can.fits;
            best = put-has 0 size a old new c.in-Ok.ensures.put;
            last = ap (flag c.in-Ok-put.last) c.drop_dead.ensures.way ∙ drop-alive mid c.in-Ok-put.last (put-alive terms way size c.in-Ok-put.last mid put);
            cell = cells.there;
          };
      others =
          λ k live _. (
            record {
              size = live.size;
              best = put-stays 0 size a old new c.in-Ok.ensures.put k.best.0 live.best;
              last = ap (flag k.last) c.drop_dead.ensures.way ∙ drop-alive mid k.last (put-stays-alive terms way size c.in-Ok-put.last mid put k.last live.last);
              cell = (cells.others (class_of k.size) k.cell.0 live.cell tt).0;
            },
            record {
              best = put-apart 0 size a old new c.in-Ok.ensures.put k.best.0 live.best;
              last = put-other terms way size c.in-Ok-put.last mid put k.last live.last;
              cell = (cells.others (class_of k.size) k.cell.0 live.cell tt).1;
            },
          );
    }
