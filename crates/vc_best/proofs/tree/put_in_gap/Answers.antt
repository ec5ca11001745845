use Rattle.vc_base.proofs.Common.{ℕ, [], sym, refl, subst, Layout, span}
use Rattle.vc_best.proofs.Common.{IsPutInGap, layout_by, tiling}
use Rattle.vc_best.proofs.Bests.{best-free, least-stays}
use Rattle.vc_best.proofs.Costs.{cost_from, then_cost}
use Rattle.vc_best.proofs.Held.{AreMost}
use Rattle.vc_best.proofs.Linking.{in-tree}
use Rattle.vc_best.proofs.Plain.{layout-stays, merged-stays}
use Rattle.vc_best.proofs.tree.put_in_gap.Goals as goal

pub unlink_gap-requires : goal.unlink_gap-requires
unlink_gap-requires g c =
    let e = c.args.extents.now in
    let f = best-free e.segs.items e.index.items e.kept (span c.args.size) c.args.align c.args.a.0 c.requires.least in
    in-tree (tiling e.segs.items) c.args.root.now.0 [] c.args.a.0 c.requires.whole.kept.gaps f.named f.free refl

pub put_in_out-requires : goal.put_in_out-requires
put_in_out-requires g c =
    let old = c.args.extents.now.segs.items in
    let new = c.unlink_gap.new.extents.segs.items in
    record {
      allowed = c.requires.allowed;
      least = least-stays (tiling old) (tiling new) c.unlink_gap.ensures.rest.extents (span c.args.size) c.args.align c.args.a.0 c.requires.least;
      merged = merged-stays (tiling old) (tiling new) c.unlink_gap.ensures.rest.extents c.requires.whole.kept.merged;
      gaps = c.unlink_gap.ensures.unlinked.gaps [] c.requires.whole.kept.gaps;
      sizes = subst (λ (r : Layout ℕ). AreMost r.blocks) (sym (layout-stays old new c.unlink_gap.ensures.rest)) c.requires.whole.sizes;
    }

pub returns-clause-put : goal.returns-clause-put
returns-clause-put g c =
    subst (λ (r : Layout ℕ). IsPutInGap r (layout_by c.put_in_out.new.extents.segs.items) c.args.tag c.args.size c.args.align c.put_in_out.result.0)
    (layout-stays c.args.extents.now.segs.items c.unlink_gap.new.extents.segs.items c.unlink_gap.ensures.rest) c.put_in_out.ensures.put

pub returns-clause-cost : goal.returns-clause-cost
returns-clause-cost g c = then_cost (c.unlink_gap.ensures.unlinked.gaps [] c.requires.whole.kept.gaps) (cost_from c.args.steps.now c.unlink_gap.ensures.cost) c.put_in_out.ensures.cost
