use Rattle.vc_gaps.proofs.Common.{tiling}
use Rattle.vc_gaps.proofs.Costs.{linked-cost}
use Rattle.vc_gaps.proofs.GapTrees.{can_link, free-bool, linked-gap}
use Rattle.vc_gaps.proofs.linking.link_in.Goals as goal

pub link_after_equals-requires : goal.link_after_equals-requires
link_after_equals-requires g c =
    let t = tiling c.args.gaps.now.extents.now.segs.items in
    let r = c.requires in
    can_link t c.args.root r.names r.tree _ c.args.a (free-bool t c.args.a r.free) r.apart

pub returns-clause-linked : goal.returns-clause-linked
returns-clause-linked g c =
    let e = c.args.gaps.now.extents.now in
    let l = c.link_after_equals in
    linked-gap e.segs.items l.new.nodes.extents.now.segs.items e.index.items e.kept l.ensures.rest.1 c.args.root l.result c.args.a c.span_at-span.result c.span_at-span.ensures.value c.requires l.ensures.tree

pub returns-clause-cost : goal.returns-clause-cost
returns-clause-cost g c =
    let e = c.args.gaps.now.extents.now in
    let l = c.link_after_equals in
    linked-cost e.segs.items l.new.nodes.extents.now.segs.items e.index.items e.kept l.ensures.rest.1 c.args.root l.result c.args.a c.span_at-span.result c.args.steps.now c.span_at-span.new.steps l.new.steps c.span_at-span.ensures.counter l.ensures.law l.ensures.tree
