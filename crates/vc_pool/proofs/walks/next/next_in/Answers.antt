use Rattle.vc_base.proofs.Common.{arith}
use Rattle.vc_pool.specs.Cells.Place.{cells_in}
use Rattle.vc_pool.proofs.NextBlock.{next-unset, value-above, value-first}
use Rattle.vc_pool.proofs.walks.next.next_in.Goals as goal

pub returns-then-element-eq0 : goal.returns-then-element-eq0
returns-then-element-eq0 c = record { value = next-unset c.args.element c.args.after.0 (cells_in c.args.segs.now) c.requires.kept c.if-element-eq0.true; live = tt }

pub returns-in-Some : goal.returns-in-Some
returns-in-Some c =
    record {
      value = value-first c.args.element c.args.after.0 (cells_in c.args.segs.now) c.requires.kept (omega arith) c.index_behind-from.result c.seg-number.result c.off.result c.rounded_up.result c.seg-number.ensures c.off.ensures c.rounded_up.ensures
          c.index_behind-from.ensures.before c.index_behind-from.ensures.behind c.in-Some.a.0 c.in-Some.ensures.found c.in-Some.ensures.live;
      live = c.in-Some.ensures.live;
    }

pub returns-in-None : goal.returns-in-None
returns-in-None c =
    record {
      value = value-above c.args.element c.args.after.0 (cells_in c.args.segs.now) c.requires.kept (omega arith) c.index_behind-from.result c.seg-number.result c.off.result c.rounded_up.result c.seg-number.ensures c.off.ensures c.rounded_up.ensures
          c.index_behind-from.ensures.before c.index_behind-from.ensures.behind c.in-None.ensures.none c.first_above.result c.first_above.ensures.found c.first_above.ensures.live c.first_above.ensures.none;
      live = c.first_above.ensures.live;
    }
