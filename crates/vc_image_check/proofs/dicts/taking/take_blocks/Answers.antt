use Rattle.vc_base.proofs.Common.{◌==◌, ◌&&◌, if◌then◌else◌, get_or, sym, refl, ap, ◌∙◌, true≢false}
use Rattle.vc_image_check.specs.Marks.Mark.{lists, mark_at}
use Rattle.vc_image_check.proofs.Once.{taking-next, taking-not}
use Rattle.vc_image_check.proofs.dicts.taking.take_blocks.Goals as goal

pub returns-then-not-take_block-clause-taken : goal.returns-then-not-take_block-clause-taken
returns-then-not-take_block-clause-taken c = (
  λ yes. absurd (true≢false (sym yes)),
  λ all. absurd (taking-not _ c.args.blocks.now c.requires _ c.loop-block.block-index (get_or c.args.blocks.now c.loop-block.block-index 0) c.loop-block-test.true refl
      (λ e. true≢false (sym (c.take_block.ensures.taken.1 e) ∙ c.if-not-take_block.true)) c.loop-block.invariant.taking all),
)

pub loop-block-preserved : goal.loop-block-preserved
loop-block-preserved c =
    let xs = c.args.blocks.now in
    let i = c.loop-block.block-index in
    let x = get_or xs i 0 in
    let mid = lists c.loop-block.marks.rows.items in
    record {
      taking = taking-next (lists c.args.marks.now.rows.items) xs c.requires mid (lists c.take_block.new.marks.rows.items) i x c.loop-block-test.true refl
          (c.take_block.ensures.taken.0 c.if-not-take_block.false)
          (λ b. c.take_block.ensures.changed.marks b ∙ ap (λ t. if t && (b == x) then 4 else mark_at mid b) c.if-not-take_block.false) c.loop-block.invariant.taking;
      places = c.take_block.ensures.changed.places ∙ c.loop-block.invariant.places;
      known = λ image k. c.take_block.ensures.blocks image (c.loop-block.invariant.known image k);
    }
