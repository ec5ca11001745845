use Rattle.vc_base.proofs.Common.{rules, ◌∙◌, ℕ, suc, ◌∷◌, true, Discipline, Ok, Err, ap, arith, get_or, place_of, refl}
use Rattle.vc_best.specs.Parts.{layout_of}
use Rattle.vc_ways.specs.LastParts.{holding_of, way_of}
use Rattle.vc_ways.specs.LastWay.{LastWay}
use Rattle.vc_ways.specs.PoolParts.{holdings}
use Rattle.vc_ways.specs.PoolWay.{class_of}
use Rattle.vc_ways.specs.RegionsParts.{best_holding}
use Rattle.vc_ways.proofs.Apart.{kept-apart, kept-stays}
use Rattle.vc_ways.proofs.BestKept.{sized-keeps}
use Rattle.vc_ways.proofs.Blocks.{kept-has, own}
use Rattle.vc_ways.proofs.Flags.{alive-within, drop-alive, sized-alive}
use Rattle.vc_ways.proofs.Kept.{refused-unserved}
use Rattle.vc_ways.proofs.PoolSteps.{keeps-any, keeps-then, kept-same}
use Rattle.vc_ways.proofs.regions.Regions.resize.Given as given
use Rattle.vc_ways.proofs.regions.Regions.resize.Goals as goal

abbrev meaning : (g : given.Over) → (x : g.dyn-1.0.I) × (g.dyn-1.0.entry x).0.Denot → Discipline
meaning g p = (g.dyn-1.0.entry p.0).1.state p.1

pub resize-requires-clause-lent : goal.resize-requires-clause-lent
resize-requires-clause-lent g c = c.requires.can.lent 0 (best_holding (meaning g) c.args.self.now.best) (omega arith)

pub resize-requires-2-clause-can : goal.resize-requires-2-clause-can
resize-requires-2-clause-can g c = record { fits = c.requires.can.fits; lent = c.requires.can.lent 1 (best_holding (meaning g) c.args.self.now.best) (omega arith); paired = c.requires.can.whole.paired }

pub resize_cell-requires-clause-can : goal.resize_cell-requires-clause-can
resize_cell-requires-clause-can g c = record { fits = c.requires.can.fits; classes = c.requires.can.whole.classes; lent = λ i d lt. c.requires.can.lent (suc (suc i)) d (omega (arith, lt)) }

pub returns-in-Err-clause-leaves : goal.returns-in-Err-clause-leaves
returns-in-Err-clause-leaves g c =
    record {
      whole = tt;
      keeps = (sized-keeps (meaning g) c.args.self.now.best c.resize.new.self c.args.size (Err c.in-Err.fault) c.in-Err.ensures.disc (place_of c.args.live.now.best.0) c.in-Err.ensures.answer, kept-same _ (holding_of (meaning g) c.args.self.now.last ∷ holdings (meaning g) c.args.self.now.pools.items));
      refused = λ e. (refl, refused-unserved c.in-Err.fault _ _ _ _ _ c.in-Err.ensures.disc e);
    }

pub returns-in-Err-resize-clause-leaves : goal.returns-in-Err-resize-clause-leaves
returns-in-Err-resize-clause-leaves g c =
    record {
      whole = tt;
      keeps = (keeps-any _ _ (sized-keeps (meaning g) c.args.self.now.best c.resize.new.self c.args.size (Ok c.in-Ok.best) c.in-Ok.ensures.disc (place_of c.args.live.now.best.0) c.in-Ok.ensures.answer), (c.in-Err-resize.ensures.leaves.keeps, kept-same _ _));
      refused = λ e. (refl, c.in-Err-resize.ensures.leaves.refused (ap Err e));
    }

pub returns-in-Err-resize_cell-clause-leaves : goal.returns-in-Err-resize_cell-clause-leaves
returns-in-Err-resize_cell-clause-leaves g c =
    record {
      whole = tt;
      keeps = (keeps-any _ _ (sized-keeps (meaning g) c.args.self.now.best c.resize.new.self c.args.size (Ok c.in-Ok.best) c.in-Ok.ensures.disc (place_of c.args.live.now.best.0) c.in-Ok.ensures.answer), (keeps-any _ _ c.in-Ok-resize.ensures.leaves.keeps, c.in-Err-resize_cell.ensures.leaves.keeps));
      refused = λ e. c.in-Err-resize_cell.ensures.leaves.refused (ap Err e);
    }

pub returns-clause-leaves : goal.returns-clause-leaves
returns-clause-leaves g c =
    record {
      whole = search rules;
      keeps = (sized-keeps (meaning g) c.args.self.now.best c.resize.new.self c.args.size (Ok c.in-Ok.best) c.in-Ok.ensures.disc (place_of c.args.live.now.best.0) c.in-Ok.ensures.answer, (keeps-then _ _ _ c.in-Ok-resize.ensures.leaves.keeps c.drop_dead.ensures.keeps, c.in-Ok-resize_cell.ensures.leaves.keeps));
      refused = tt;
    }

pub resize-requires-2-clause-block : goal.resize-requires-2-clause-block
resize-requires-2-clause-block g c = alive-within (way_of c.args.self.now.last) c.args.live.now.last c.requires.live.last

pub returns-clause-comes : goal.returns-clause-comes
returns-clause-comes g c =
    let a = c.args.live.now.best.0 in
    let to = c.in-Ok.best.0 in
    let old = layout_of c.args.self.now.best in
    let new = layout_of c.resize.new.self in
    let owned = own new c.resize.new.self.sound in
    let mid = way_of c.resize-2.new.self in
    let flags = sized-alive (holding_of (meaning g) c.args.self.now.last).disc.terms (way_of c.args.self.now.last) c.args.live.now.last c.args.size c.in-Ok-resize.last mid c.requires.live.last c.in-Ok-resize.ensures.answer in
    let cells = c.in-Ok-resize_cell.ensures.comes in
    let flag : ℕ → LastWay → _ = λ k w. get_or w.dead k true in
    record {
      there =
          record {
            size = c.requires.can.fits;
            best = kept-has a to old.blocks new.blocks (own old c.args.self.now.best.sound).exact c.requires.live.best c.in-Ok.ensures.kept;
            last = ap (flag c.in-Ok-resize.last) c.drop_dead.ensures.way ∙ drop-alive mid c.in-Ok-resize.last flags.0;
            cell = cells.there;
          };
      others =
          λ k live apart.
          let still = flags.1 k.last live.last apart.last in
          let cell = cells.others (class_of k.size) k.cell.0 live.cell apart.cell in (
            record {
              size = live.size;
              best = kept-stays a to old.blocks new.blocks owned c.in-Ok.ensures.kept k.best.0 live.best apart.best;
              last = ap (flag k.last) c.drop_dead.ensures.way ∙ drop-alive mid k.last still.0;
              cell = cell.0;
            },
            record { best = kept-apart a to old.blocks new.blocks owned c.in-Ok.ensures.kept k.best.0 live.best apart.best; last = still.1; cell = cell.1 },
          );
    }
