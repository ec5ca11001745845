use Rattle.vc_gaps.proofs.Common.{tiling}
use Rattle.vc_gaps.proofs.Costs.{unlinked-cost}
use Rattle.vc_gaps.proofs.GapTrees.{is_in, unlinked-gap}
use Rattle.vc_gaps.proofs.linking.unlink_in.Goals as goal

pub unlink-requires : goal.unlink-requires
unlink-requires c =
    let r = c.requires in
    is_in (tiling c.args.gaps.now.extents.now.segs.items) c.args.root r.names r.tree c.args.a r.within

pub returns-clause-unlinked : goal.returns-clause-unlinked
returns-clause-unlinked c =
    unlinked-gap c.args.gaps.now.extents.now.segs.items c.unlink.new.nodes.extents.now.segs.items c.args.gaps.now.extents.now.index.items c.args.gaps.now.extents.now.kept c.unlink.ensures.rest.1
    c.args.root c.unlink.result c.args.a c.unlink.ensures.tree

pub returns-clause-cost : goal.returns-clause-cost
returns-clause-cost c =
    let e = c.args.gaps.now.extents.now in
    let l = c.unlink in
    unlinked-cost e.segs.items l.new.nodes.extents.now.segs.items e.index.items e.kept l.ensures.rest.1 c.args.root l.result c.args.a l.ensures.law l.ensures.tree
