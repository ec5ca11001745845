use Rattle.vc_base.proofs.Common.{arith}
use Rattle.vc_image_check.proofs.marks.seek.has_in.Goals as goal

pub returns-then-k-ge1048576-clause-none : goal.returns-then-k-ge1048576-clause-none
returns-then-k-ge1048576-clause-none c = λ _ h. let far = c.if-k-ge1048576.true in let low = h.low in c.loop-k.invariant h.place (omega (arith, far, low)) h.is
