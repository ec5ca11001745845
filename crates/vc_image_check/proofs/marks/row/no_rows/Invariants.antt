use Rattle.vc_base.proofs.Common.{◌≡◌, [], replicate}
use Rattle.vc_image_check.specs.Marks.Mark.{lists}
use Rattle.vc_image_check.proofs.marks.row.no_rows.Given as goal

abbrev pub invariant-loop : goal.invariant-loop
invariant-loop l = lists l.rows.items ≡ replicate l.counter []
