use Rattle.vc_base.proofs.Common.{option_map, sym}
use Rattle.vc_best.proofs.Firsts.{next_block-first}
use Rattle.vc_best.proofs.Starts.{some-busy, some-live, started}
use Rattle.vc_best.proofs.walk.next_block.Goals as goal

pub busy_above-requires : goal.busy_above-requires
busy_above-requires c = started c.args.extents.now.segs.items c.args.extents.now.index.items c.args.after.0 c.args.extents.now.kept c.requires

pub returns : goal.returns
returns c =
    let e = c.args.extents.now in
    record {
      value = sym (next_block-first e.segs.items e.index.items e.kept c.args.after.0 (option_map (λ r. r.0) c.busy_above.result) c.busy_above.ensures.first (some-busy e.segs.items c.busy_above.result c.busy_above.ensures.busy));
      live = some-live e.segs.items e.index.items e.kept c.busy_above.result c.busy_above.ensures.busy;
    }
