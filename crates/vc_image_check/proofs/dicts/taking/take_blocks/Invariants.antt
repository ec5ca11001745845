use Rattle.vc_base.proofs.Common.{◌≡◌, ℕ, List}
use Rattle.vc_image_check.specs.Blocks.Blocks.{AreBlockMarks}
use Rattle.vc_image_check.specs.Marks.Mark.{lists}
use Rattle.vc_image_check.proofs.Once.{Taking}
use Rattle.vc_image_check.proofs.dicts.taking.take_blocks.Given as goal

abbrev pub invariant-loop-block : goal.invariant-loop-block
invariant-loop-block l = record {
  taking : Taking (lists l.fn.marks.rows.items) l.blocks (lists l.marks.rows.items) l.block-index;
  places : l.marks.places.items ≡ l.fn.marks.places.items;
  known : (image : List ℕ) → AreBlockMarks image l.fn.marks → AreBlockMarks image l.marks;
}
