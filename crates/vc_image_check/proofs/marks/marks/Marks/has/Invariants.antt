use Rattle.vc_base.proofs.Common.{ℕ, ◌<◌, [], get_or}
use Rattle.vc_image_check.specs.Marks.Mark.{HasMarkIn, lists}
use Rattle.vc_image_check.proofs.marks.marks.Marks.has.Given as goal

abbrev pub invariant-loop-n : goal.invariant-loop-n
invariant-loop-n l = (n : ℕ) → n < l.n → HasMarkIn (get_or (lists l.self.rows.items) n []) l.mark → ⊥
