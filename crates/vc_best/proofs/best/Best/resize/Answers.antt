use Rattle.vc_base.proofs.Common.{◌≡◌, ℕ, ◌+◌, ◌≤◌, min, false, [], Some, option_map, sym, refl, ap, ◌∙◌, subst, arith, eq-eqb, ne_eqb, place_of, Layout, without_block, can_stay, HasBlock, find_block}
use Rattle.vc_best.proofs.Common.{HasGaps, layout_by, tiling}
use Rattle.vc_model.specs.Numbers.{gap_count}
use Rattle.vc_gaps.specs.Cost.{GapsCost}
use Rattle.vc_seg.proofs.Resizes.{others-sized}
use Rattle.vc_seg.proofs.Segments.{Served-later, Served-unasked}
use Rattle.vc_best.proofs.Others.{others-moved}
use Rattle.vc_best.proofs.ResizeAnswers.{resize-stays, resize-fixed, resize-moves, resize-refused, new-among, new-room, old-among, old-found, none-stays}
use Rattle.vc_best.proofs.BlockCounts.{sized-count}
use Rattle.vc_best.proofs.Calls.{call_costs}
use Rattle.vc_best.proofs.Costs.{still_cost, then_cost}
use Rattle.vc_best.proofs.Found.{busy-of}
use Rattle.vc_best.proofs.Held.{held, kept-of, merged-of, most-of, tree-of}
use Rattle.vc_best.proofs.Stays.{label-by, most-sized, moved-most, moved-segments, size-by, stays-by}
use Rattle.vc_best.proofs.There.{size-moved, size-sized, there-moved, there-sized}
use Rattle.vc_best.proofs.best.Best.resize.Given.{Over}
use Rattle.vc_best.proofs.best.Best.resize.Goals as goal
use Rattle.vc_best.proofs.best.Best.resize.Goals.{After-has_room, After-tag_at-tag, After-take_over}

-- whether the block can stay, and its tag
stays : (g : Over) (c : After-has_room g) → option_map (can_stay (layout_by c.args.self.now.extents.segs.items) c.args.size) (find_block (place_of c.args.a.0) (layout_by c.args.self.now.extents.segs.items).blocks) ≡ Some c.has_room.result
stays g c =
    let b = c.args.self.now in
    stays-by b.extents.segs.items b.extents.index.items c.args.a.0 b.extents.kept c.requires.block c.args.size c.has_room.result (merged-of (tiling b.extents.segs.items) b.merged) c.requires.size.some c.has_room.ensures.fits.0 c.has_room.ensures.fits.1

tag : (g : Over) (c : After-tag_at-tag g) → option_map (λ b. b.label) (find_block (place_of c.args.a.0) (layout_by c.args.self.now.extents.segs.items).blocks) ≡ Some c.tag_at-tag.result
tag g c =
    let e = c.args.self.now.extents in
    label-by e.segs.items e.index.items c.args.a.0 e.kept c.requires.block c.tag_at-tag.result c.tag_at-tag.ensures

-- beside the new block it stands where it did
was : (g : Over) (c : After-take_over g) → find_block (place_of c.args.a.0) (layout_by c.alloc.new.self.extents.segs.items).blocks ≡ find_block (place_of c.args.a.0) (layout_by c.args.self.now.extents.segs.items).blocks
was g c = old-found _ (layout_by c.args.self.now.extents.segs.items) c.tag_at-tag.result c.args.size 32 c.in-Ok.to.0 false (layout_by c.alloc.new.self.extents.segs.items) c.in-Ok.ensures.answer c.in-Ok.ensures.put.fresh c.args.a.0 c.requires.block

still : (g : Over) (c : After-take_over g) → HasBlock (layout_by c.alloc.new.self.extents.segs.items).blocks c.args.a.0
still g c = old-among _ (layout_by c.args.self.now.extents.segs.items) c.tag_at-tag.result c.args.size 32 c.in-Ok.to.0 false (layout_by c.alloc.new.self.extents.segs.items) c.in-Ok.ensures.answer c.in-Ok.ensures.put.fresh c.args.a.0 c.requires.block

pub returns-then-has_room-clause-answer : goal.returns-then-has_room-clause-answer
returns-then-has_room-clause-answer g c =
    resize-stays _ (layout_by c.args.self.now.extents.segs.items) c.args.a.0 c.args.size c.args.may_move false (layout_by c.resize_block.new.extents.segs.items) (stays g (goal.at.returns-then-has_room-clause-answer g c).After-has_room ∙ ap Some c.if-has_room.true) c.resize_block.ensures.layout

pub returns-then-not-may_move-clause-answer : goal.returns-then-not-may_move-clause-answer
returns-then-not-may_move-clause-answer g c =
    (resize-fixed _ (layout_by c.args.self.now.extents.segs.items) (place_of c.args.a.0) c.args.size c.args.may_move false (stays g (goal.at.returns-then-not-may_move-clause-answer g c).After-has_room ∙ ap Some c.if-has_room.false) c.if-not-may_move.true, refl)

pub has_room-requires-clause-busy : goal.has_room-requires-clause-busy
has_room-requires-clause-busy g c = busy-of c.args.self.now.extents.segs.items c.args.self.now.extents.index.items c.args.a.0 c.args.self.now.extents.kept c.requires.block

pub resize_block-requires-clause-busy : goal.resize_block-requires-clause-busy
resize_block-requires-clause-busy g c = busy-of c.args.self.now.extents.segs.items c.args.self.now.extents.index.items c.args.a.0 c.args.self.now.extents.kept c.requires.block

pub resize_block-requires-clause-room : goal.resize_block-requires-clause-room
resize_block-requires-clause-room g c = c.has_room.ensures.fits.0 c.if-has_room.true

pub resize_block-requires-clause-kept : goal.resize_block-requires-clause-kept
resize_block-requires-clause-kept g c = kept-of c.args.self.now.extents.segs.items c.args.self.now.extents.index.items c.args.self.now.root.0 c.args.self.now.extents.kept c.args.self.now.merged c.args.self.now.gaps

pub take_over-requires-clause-whole : goal.take_over-requires-clause-whole
take_over-requires-clause-whole g c =
    let b = c.alloc.new.self in
    record {
      kept = kept-of b.extents.segs.items b.extents.index.items b.root.0 b.extents.kept b.merged b.gaps;
      sizes = most-of (layout_by b.extents.segs.items) b.whole;
    }

pub overflow_sub-self : goal.overflow_sub-self
overflow_sub-self g c = let less = c.take_over.ensures.moved.count in let all = c.alloc.new.self.counted in omega (arith, less, all)

pub tag_at-tag-requires : goal.tag_at-tag-requires
tag_at-tag-requires g c = (busy-of c.args.self.now.extents.segs.items c.args.self.now.extents.index.items c.args.a.0 c.args.self.now.extents.kept c.requires.block).named

pub invariant_of-self : goal.invariant_of-self
invariant_of-self g c =
    let h = held c.resize_block.new.extents.segs.items c.resize_block.new.extents.index.items c.resize_block.new.extents.kept (most-sized (layout_by c.args.self.now.extents.segs.items) (layout_by c.resize_block.new.extents.segs.items) (place_of c.args.a.0) c.args.size c.resize_block.ensures.layout c.requires.size.most (most-of (layout_by c.args.self.now.extents.segs.items) c.args.self.now.whole)) c.resize_block.ensures.kept.merged in
    record { sound = h.sound; whole = h.whole; merged = h.merged; gaps = ∣ c.resize_block.ensures.kept.gaps ∣₁; counted = c.args.self.now.counted ∙ sym (sized-count (layout_by c.args.self.now.extents.segs.items) (layout_by c.resize_block.new.extents.segs.items) (place_of c.args.a.0) c.args.size c.resize_block.ensures.layout) }

pub take_over-requires-clause-busy : goal.take_over-requires-clause-busy
take_over-requires-clause-busy g c = busy-of c.alloc.new.self.extents.segs.items c.alloc.new.self.extents.index.items c.args.a.0 c.alloc.new.self.extents.kept (old-among _ (layout_by c.args.self.now.extents.segs.items) c.tag_at-tag.result c.args.size 32 c.in-Ok.to.0 false (layout_by c.alloc.new.self.extents.segs.items) c.in-Ok.ensures.answer c.in-Ok.ensures.put.fresh c.args.a.0 c.requires.block)

pub take_over-requires-clause-to : goal.take_over-requires-clause-to
take_over-requires-clause-to g c = busy-of c.alloc.new.self.extents.segs.items c.alloc.new.self.extents.index.items c.in-Ok.to.0 c.alloc.new.self.extents.kept (new-among _ (layout_by c.args.self.now.extents.segs.items) c.tag_at-tag.result c.args.size 32 c.in-Ok.to.0 false (layout_by c.alloc.new.self.extents.segs.items) c.in-Ok.ensures.answer c.in-Ok.ensures.put.fresh)

pub take_over-requires-clause-room : goal.take_over-requires-clause-room
take_over-requires-clause-room g c = size-by c.alloc.new.self.extents.segs.items c.alloc.new.self.extents.index.items c.in-Ok.to.0 c.alloc.new.self.extents.kept (new-among _ (layout_by c.args.self.now.extents.segs.items) c.tag_at-tag.result c.args.size 32 c.in-Ok.to.0 false (layout_by c.alloc.new.self.extents.segs.items) c.in-Ok.ensures.answer c.in-Ok.ensures.put.fresh) c.args.size (new-room _ (layout_by c.args.self.now.extents.segs.items) c.tag_at-tag.result c.args.size 32 c.in-Ok.to.0 false (layout_by c.alloc.new.self.extents.segs.items) c.in-Ok.ensures.answer c.in-Ok.ensures.put.fresh)

pub invariant_of-self-in-Ok : goal.invariant_of-self-in-Ok
invariant_of-self-in-Ok g c =
    let h = held c.take_over.new.extents.segs.items c.take_over.new.extents.index.items c.take_over.new.extents.kept (moved-most c.alloc.new.self.extents.segs.items c.alloc.new.self.extents.index.items c.args.a.0 c.alloc.new.self.extents.kept (still g (goal.at.invariant_of-self-in-Ok g c).After-take_over) (layout_by c.take_over.new.extents.segs.items) (place_of c.in-Ok.to.0) c.args.size c.take_over.ensures.moved.moved (most-of (layout_by c.alloc.new.self.extents.segs.items) c.alloc.new.self.whole)) c.take_over.ensures.kept.merged in
    record { sound = h.sound; whole = h.whole; merged = h.merged; gaps = ∣ c.take_over.ensures.kept.gaps ∣₁; counted = let less = c.take_over.ensures.moved.count in let all = c.alloc.new.self.counted in omega (arith, less, all) }

pub returns-in-Ok-clause-answer : goal.returns-in-Ok-clause-answer
returns-in-Ok-clause-answer g c =
    let same = was g (goal.at.returns-in-Ok-clause-answer g c).After-take_over in
    let can = stays g (goal.at.returns-in-Ok-clause-answer g c).After-has_room ∙ ap Some c.if-has_room.false in
    resize-moves _ (layout_by c.args.self.now.extents.segs.items) c.args.a.0 c.args.size c.tag_at-tag.result c.args.may_move c.if-not-may_move.false c.in-Ok.to.0 (layout_by c.alloc.new.self.extents.segs.items) (layout_by c.take_over.new.extents.segs.items) same can (tag g (goal.at.returns-in-Ok-clause-answer g c).After-tag_at-tag) c.in-Ok.ensures.answer c.take_over.ensures.moved.moved

pub returns-in-Err-clause-answer : goal.returns-in-Err-clause-answer
returns-in-Err-clause-answer g c =
    let can = stays g (goal.at.returns-in-Err-clause-answer g c).After-has_room ∙ ap Some c.if-has_room.false in
    (resize-refused _ (layout_by c.args.self.now.extents.segs.items) c.args.a.0 c.args.size c.tag_at-tag.result c.args.may_move c.if-not-may_move.false c.in-Err.fault can (tag g (goal.at.returns-in-Err-clause-answer g c).After-tag_at-tag) c.in-Err.ensures.answer.0, c.in-Err.ensures.answer.1)

pub returns-then-has_room-clause-disc : goal.returns-then-has_room-clause-disc
returns-then-has_room-clause-disc g c = Served-unasked _ _ _ _ (ap (λ (r : Layout ℕ). r.segments) c.resize_block.ensures.layout)

pub returns-in-Ok-clause-disc : goal.returns-in-Ok-clause-disc
returns-in-Ok-clause-disc g c = Served-later _ _ _ _ _ _ (moved-segments c.alloc.new.self.extents.segs.items c.alloc.new.self.extents.index.items c.args.a.0 c.alloc.new.self.extents.kept (still g (goal.at.returns-in-Ok-clause-disc g c).After-take_over) (layout_by c.take_over.new.extents.segs.items) (place_of c.in-Ok.to.0) c.args.size c.take_over.ensures.moved.moved) c.in-Ok.ensures.disc

pub returns-in-Err-clause-no_memory : goal.returns-in-Err-clause-no_memory
returns-in-Err-clause-no_memory g c = λ e. record {
  stays = none-stays (layout_by c.args.self.now.extents.segs.items) c.args.size _ (stays g (goal.at.returns-in-Err-clause-no_memory g c).After-has_room ∙ ap Some c.if-has_room.false);
  may = c.if-not-may_move.false;
  asks = c.in-Err.ensures.no_memory e;
}

pub returns-then-has_room-clause-kept : goal.returns-then-has_room-clause-kept
returns-then-has_room-clause-kept g c = record {
  label =
      ap (λ (r : Layout ℕ). option_map (λ b. b.label) (find_block (place_of c.args.a.0) r.blocks)) c.resize_block.ensures.layout
      ∙ there-sized c.args.size (place_of c.args.a.0) (layout_by c.args.self.now.extents.segs.items).blocks;
  others =
      ap (λ (r : Layout ℕ). without_block (place_of c.args.a.0) r.blocks) c.resize_block.ensures.layout
      ∙ others-sized c.args.size (place_of c.args.a.0) (layout_by c.args.self.now.extents.segs.items).blocks;
}

pub returns-in-Ok-clause-kept : goal.returns-in-Ok-clause-kept
returns-in-Ok-clause-kept g c =
    let at = goal.at.returns-in-Ok-clause-kept g c in
    let same = was g at.After-take_over in
    let own = tag g at.After-tag_at-tag in
    record {
      label =
          there-moved (layout_by c.alloc.new.self.extents.segs.items) (layout_by c.take_over.new.extents.segs.items) (layout_by c.args.self.now.extents.segs.items) c.args.a.0 c.in-Ok.to.0 c.args.size c.tag_at-tag.result c.requires.block c.in-Ok.ensures.put.fresh same own
          c.take_over.ensures.moved.moved c.in-Ok.ensures.put.there;
      others =
          others-moved (layout_by c.alloc.new.self.extents.segs.items) (layout_by c.take_over.new.extents.segs.items) (layout_by c.args.self.now.extents.segs.items) (place_of c.args.a.0) (place_of c.in-Ok.to.0) c.args.size c.tag_at-tag.result same own
          c.take_over.ensures.moved.moved c.in-Ok.ensures.put.others;
    }

pub returns-then-has_room-clause-sized : goal.returns-then-has_room-clause-sized
returns-then-has_room-clause-sized g c =
    ap (λ (r : Layout ℕ). option_map (λ b. b.size) (find_block (place_of c.args.a.0) r.blocks)) c.resize_block.ensures.layout
    ∙ size-sized _ _ c.args.size (place_of c.args.a.0) (layout_by c.args.self.now.extents.segs.items).blocks (stays g (goal.at.returns-then-has_room-clause-sized g c).After-has_room)

pub returns-in-Ok-clause-sized : goal.returns-in-Ok-clause-sized
returns-in-Ok-clause-sized g c =
    let same = was g (goal.at.returns-in-Ok-clause-sized g c).After-take_over in
    size-moved (layout_by c.alloc.new.self.extents.segs.items) (layout_by c.take_over.new.extents.segs.items) (layout_by c.args.self.now.extents.segs.items) c.args.a.0 c.in-Ok.to.0 c.args.size c.tag_at-tag.result c.requires.block c.in-Ok.ensures.put.fresh same (tag g (goal.at.returns-in-Ok-clause-sized g c).After-tag_at-tag) c.take_over.ensures.moved.moved c.in-Ok.ensures.put.there

-- what is read costs at most two steps
before : (g : Over) (c : After-has_room g) → HasGaps (tiling c.args.self.now.extents.segs.items) c.args.self.now.root.0 []
before g c = let b = c.args.self.now in tree-of b.extents.segs.items b.extents.index.items b.root.0 b.extents.kept b.gaps

read : (g : Over) (c : After-has_room g) → GapsCost (tiling c.args.self.now.extents.segs.items) (tiling c.args.self.now.extents.segs.items) c.args.self.now.root.0 c.args.self.now.root.0 c.args.steps.now c.has_room.new.steps 0 2 0
read g c = let b = c.args.self.now in still_cost _ _ b.extents.kept b.root.0 c.args.steps.now c.has_room.new.steps 0 2 0 c.has_room.ensures.most_steps

pub returns-then-has_room-clause-call : goal.returns-then-has_room-clause-call
returns-then-has_room-clause-call g c =
    let h = (goal.at.returns-then-has_room-clause-call g c).After-has_room in
    call_costs c.args.self.now _ 1 c.args.steps.now _ 20 5 1 (omega arith) (omega arith) (then_cost (before g h) (read g h) c.resize_block.ensures.cost)

pub returns-then-not-may_move-clause-call : goal.returns-then-not-may_move-clause-call
returns-then-not-may_move-clause-call g c =
    call_costs c.args.self.now _ 1 c.args.steps.now _ 0 2 0 (omega arith) (omega arith) (read g (goal.at.returns-then-not-may_move-clause-call g c).After-has_room)

pub returns-in-Ok-clause-call : goal.returns-in-Ok-clause-call
returns-in-Ok-clause-call g c =
    let h = (goal.at.returns-in-Ok-clause-call g c).After-has_room in
    let b = c.alloc.new.self in
    call_costs c.args.self.now _ 1 c.args.steps.now _ 72 6 3 (omega arith) (omega arith)
    (then_cost (before g h) (read g h) (then_cost (tree-of b.extents.segs.items b.extents.index.items b.root.0 b.extents.kept b.gaps) (c.alloc.ensures.cost refl) c.take_over.ensures.cost))

pub returns-in-Err-clause-call : goal.returns-in-Err-clause-call
returns-in-Err-clause-call g c =
    let h = (goal.at.returns-in-Err-clause-call g c).After-has_room in
    call_costs c.args.self.now _ 1 c.args.steps.now _ 40 5 2 (omega arith) (omega arith) (then_cost (before g h) (read g h) (c.alloc.ensures.cost refl))

pub returns-then-has_room-clause-least_steps : goal.returns-then-has_room-clause-least_steps
returns-then-has_room-clause-least_steps g c =
    let first = c.has_room.ensures.least_steps in
    let then = c.resize_block.ensures.least_steps in
    let most : c.args.steps.now + 3 ≤ c.resize_block.new.steps = omega arith in
    rw (eq-eqb c.args.a.0 c.args.a.0 refl) most

-- where it moves the new block is another one
pub returns-in-Ok-clause-least_steps : goal.returns-in-Ok-clause-least_steps
returns-in-Ok-clause-least_steps g c =
    let blocks = (layout_by c.args.self.now.extents.segs.items).blocks in
    let other = ne_eqb c.in-Ok.to.0 c.args.a.0 (λ e. c.in-Ok.ensures.put.fresh (subst (λ z. HasBlock blocks z) (sym e) c.requires.block)) in
    let first = c.has_room.ensures.least_steps in
    let then = c.in-Ok.ensures.least_steps in
    let last = c.take_over.ensures.least_steps in
    let most : c.args.steps.now + (min 1 (gap_count (layout_by c.args.self.now.extents.segs.items)) + 3) ≤ c.take_over.new.steps = omega arith in
    rw other most
