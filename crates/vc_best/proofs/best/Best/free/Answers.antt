use Rattle.vc_base.proofs.Common.{◌≡◌, ℕ, ◌+◌, length, sym, subst, arith, place_of, Layout}
use Rattle.vc_best.proofs.Common.{layout_by}
use Rattle.vc_seg.specs.OneBlock.{IsBlockFreed}
use Rattle.vc_best.proofs.BlockCounts.{freed-count}
use Rattle.vc_best.proofs.Calls.{call_costs}
use Rattle.vc_best.proofs.Found.{busy-of}
use Rattle.vc_best.proofs.Held.{held, kept-of, most-of, most-without}
use Rattle.vc_best.proofs.HeldHeads.{held-heads}
use Rattle.vc_best.proofs.Stands.{none-there, one-less, stands-removed}
use Rattle.vc_best.proofs.best.Best.free.Given.{Over}
use Rattle.vc_best.proofs.best.Best.free.Goals as goal
use Rattle.vc_best.proofs.best.Best.free.Goals.{After-free_block}

pub free_block-requires-clause-busy : goal.free_block-requires-clause-busy
free_block-requires-clause-busy g c = busy-of c.args.self.now.extents.segs.items c.args.self.now.extents.index.items c.args.a.0 c.args.self.now.extents.kept c.requires.block

pub free_block-requires-clause-kept : goal.free_block-requires-clause-kept
free_block-requires-clause-kept g c = kept-of c.args.self.now.extents.segs.items c.args.self.now.extents.index.items c.args.self.now.root.0 c.args.self.now.extents.kept c.args.self.now.merged c.args.self.now.gaps

freed : (g : Over) (c : After-free_block g) → length (layout_by c.free_block.new.extents.segs.items).blocks + 1 ≡ length (layout_by c.args.self.now.extents.segs.items).blocks
freed g c =
    freed-count _ _ c.args.self.now.extents.kept c.args.a.0 (layout_by c.free_block.new.extents.segs.items) c.requires.block (most-of (layout_by c.args.self.now.extents.segs.items) c.args.self.now.whole) c.free_block.ensures.layout

pub overflow_sub-self : goal.overflow_sub-self
overflow_sub-self g c = let less = freed g (goal.at.overflow_sub-self g c).After-free_block in let all = c.args.self.now.counted in omega (arith, less, all)

pub invariant_of-self : goal.invariant_of-self
invariant_of-self g c =
    let h = held c.free_block.new.extents.segs.items c.free_block.new.extents.index.items c.free_block.new.extents.kept (most-without (layout_by c.args.self.now.extents.segs.items) (layout_by c.free_block.new.extents.segs.items) (place_of c.args.a.0) c.free_block.ensures.layout (most-of (layout_by c.args.self.now.extents.segs.items) c.args.self.now.whole)) c.free_block.ensures.kept.merged in
    record { sound = h.sound; whole = h.whole; merged = h.merged; gaps = ∣ c.free_block.ensures.kept.gaps ∣₁; counted = let less = freed g (goal.at.invariant_of-self g c).After-free_block in let all = c.args.self.now.counted in omega (arith, less, all) }

pub returns-clause-freed : goal.returns-clause-freed
returns-clause-freed g c =
    let r = layout_by c.args.self.now.extents.segs.items in
    let heads = held-heads _ _ c.args.self.now.extents.kept (most-of r c.args.self.now.whole) in
    subst (λ (l : Layout ℕ). IsBlockFreed c.args.a.0 r.blocks l.blocks) (sym c.free_block.ensures.layout)
    (record { one_less = one-less r c.args.a.0 heads c.requires.block; freed = stands-removed r c.args.a.0 heads; none_left = none-there r c.args.a.0 heads })

pub returns-clause-call : goal.returns-clause-call
returns-clause-call g c = call_costs c.args.self.now _ 1 c.args.steps.now _ 32 1 1 (omega arith) (omega arith) c.free_block.ensures.cost
