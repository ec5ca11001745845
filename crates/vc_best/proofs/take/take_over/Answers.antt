use Rattle.vc_base.proofs.Common.{◌≡◌, ◌≤◌, ◌⊎◌, [], take, sym, ◌∙◌, inl, inr, arith, place_of}
use Rattle.vc_best.proofs.Common.{GapsChange, extent_of, layout_by, tiling}
use Rattle.vc_best.proofs.Moves.{body-long, copied-busy, copied-layout, copied-merged, take-both, taken-over}
use Rattle.vc_best.proofs.BlockCounts.{freed-count, written-count}
use Rattle.vc_best.proofs.Costs.{changed_cost, then_cost}
use Rattle.vc_best.proofs.Found.{has-of}
use Rattle.vc_best.proofs.Held.{most-written}
use Rattle.vc_best.proofs.Linking.{gaps-changed}
use Rattle.vc_best.proofs.Outs.{gaps-written}
use Rattle.vc_best.proofs.take.take_over.Goals as goal
use Rattle.vc_best.proofs.take.take_over.Given.{Over}
use Rattle.vc_best.proofs.take.take_over.Goals.{After-copy, then-own-size, else-own-size}

pub free_block-requires-clause-busy : goal.free_block-requires-clause-busy
free_block-requires-clause-busy g c = copied-busy c.args.extents.now.segs.items c.copy.new.self.segs.items c.args.extents.now.index.items c.copy.new.self.index.items c.args.a.0 c.args.to.0 (take c.if-own-size.len (extent_of (tiling c.args.extents.now.segs.items) c.args.a.0).body) c.args.extents.now.kept c.copy.new.self.kept c.requires.busy c.requires.to c.copy.ensures.tiling c.copy.ensures.pairs

-- the tree stays where the bytes are put
written : (g : Over) (c : After-copy g) → GapsChange (tiling c.args.extents.now.segs.items) (tiling c.copy.new.self.segs.items) [] []
written g c =
    let t = tiling c.args.extents.now.segs.items in
    gaps-written t (tiling c.copy.new.self.segs.items) c.args.to.0 0 (take c.if-own-size.len (extent_of t c.args.a.0).body) c.copy.ensures.tiling c.requires.to

pub free_block-requires-clause-kept : goal.free_block-requires-clause-kept
free_block-requires-clause-kept g c =
    let t = tiling c.args.extents.now.segs.items in
    let src = take c.if-own-size.len (extent_of t c.args.a.0).body in
    record {
      merged = copied-merged _ _ _ _ c.args.a.0 c.args.to.0 src c.args.extents.now.kept c.copy.new.self.kept c.requires.busy c.requires.to c.copy.ensures.tiling c.copy.ensures.pairs c.requires.whole.kept.merged;
      gaps = gaps-changed t (tiling c.copy.new.self.segs.items) c.args.root.now.0 [] [] (written g (goal.at.free_block-requires-clause-kept g c).After-copy) c.requires.whole.kept.gaps;
    }

pub returns-clause-moved : goal.returns-clause-moved
returns-clause-moved g c =
    let own = c.size_at-own.result in
    let len : ((c.if-own-size.len ≡ own) × (own ≤ c.args.size)) ⊎ (c.if-own-size.len ≡ c.args.size) =
    elim c.if-own-size.branch [ then-own-size w ↦ inl (w.len-is, let lt = w.if-own-size in omega arith) | else-own-size w ↦ inr w.len-is ] in
    let r = layout_by c.args.extents.now.segs.items in
    let m = layout_by c.copy.new.self.segs.items in
    let last = layout_by c.free_block.new.extents.segs.items in
    let body = (extent_of (tiling c.args.extents.now.segs.items) c.args.a.0).body in
    let src = take c.if-own-size.len body in
    let long = body-long _ _ c.args.a.0 c.args.extents.now.kept c.requires.busy ∙ sym c.size_at-own.ensures in
    let copied = copied-layout _ _ _ _ c.args.a.0 c.args.to.0 src c.args.extents.now.kept c.copy.new.self.kept c.requires.busy c.requires.to c.copy.ensures.tiling c.copy.ensures.pairs in
    let busy = copied-busy _ _ _ _ c.args.a.0 c.args.to.0 src c.args.extents.now.kept c.copy.new.self.kept c.requires.busy c.requires.to c.copy.ensures.tiling c.copy.ensures.pairs in
    record {
      moved = taken-over _ _ _ _ c.args.a.0 c.args.to.0 src c.args.extents.now.kept c.copy.new.self.kept c.requires.busy c.requires.to c.copy.ensures.tiling c.copy.ensures.pairs last c.args.size c.free_block.ensures.layout (take-both c.if-own-size.len own c.args.size body long len);
      count =
          freed-count _ _ c.copy.new.self.kept c.args.a.0 last (has-of _ _ c.args.a.0 c.copy.new.self.kept busy)
          (most-written r m (place_of c.args.to.0) 0 src copied c.requires.whole.sizes) c.free_block.ensures.layout
          ∙ written-count r m (place_of c.args.to.0) 0 src copied;
    }

pub returns-clause-cost : goal.returns-clause-cost
returns-clause-cost g c =
    let w = written g (goal.at.returns-clause-cost g c).After-copy in
    let root = c.args.root.now.0 in
    let n = c.args.steps.now in
    then_cost (gaps-changed _ _ root [] [] w c.requires.whole.kept.gaps)
    (changed_cost _ _ _ _ c.args.extents.now.kept c.copy.new.self.kept root n n 0 [] [] w c.requires.whole.kept.gaps (omega arith)) c.free_block.ensures.cost
