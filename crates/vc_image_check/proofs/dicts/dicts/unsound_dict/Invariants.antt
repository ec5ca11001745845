use Rattle.vc_base.proofs.Common.{map}
use Rattle.vc_image_check.specs.Blocks.Blocks.{AreBlockMarks, image_blocks}
use Rattle.vc_image_check.specs.Bytes.Contents.{rows_of_image}
use Rattle.vc_image_check.specs.Marks.Mark.{lists}
use Rattle.vc_image_check.proofs.Passing.{Passed}
use Rattle.vc_image_check.proofs.dicts.dicts.unsound_dict.Given as goal

abbrev pub invariant-loop-i : goal.invariant-loop-i
invariant-loop-i g l = record {
  passed : Passed (map g.D.DictDisc.rules l.kinds.items) (image_blocks l.image) (rows_of_image l.image) (lists l.marks.rows.items) l.i;
  known : AreBlockMarks l.image l.marks;
}
