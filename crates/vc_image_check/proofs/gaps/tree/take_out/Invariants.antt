use Rattle.vc_base.proofs.Common.{◌≡◌, take}
use Rattle.vc_image_check.specs.Marks.Mark.{lists}
use Rattle.vc_image_check.proofs.Sorted.{TakenOut}
use Rattle.vc_image_check.proofs.gaps.tree.take_out.Given as goal

abbrev pub invariant-loop-name : goal.invariant-loop-name
invariant-loop-name l = record {
  marks : TakenOut (lists l.fn.marks.rows.items) (lists l.marks.rows.items) (take l.name-index l.names);
  places : l.marks.places.items ≡ l.fn.marks.places.items;
}
