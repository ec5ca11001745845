use Rattle.vc_base.proofs.Common.{refl, arith}
use Rattle.vc_last.specs.Chain.{IsLast}
use Rattle.vc_last.proofs.Types.{have-sound}
use Rattle.vc_last.proofs.Marks.{empty-is, empty-kept}
use Rattle.vc_last.proofs.last.Last.open.Goals as goal

pub invariant_of-result : goal.invariant_of-result
invariant_of-result g c = let kept : ∥ IsLast c.in-Ok.segs.items 0 ∥₁ = ∣ empty-kept c.in-Ok.segs.items c.in-Ok.ensures.items ∣₁ in record { kept = kept; reserved = omega (arith, c.in-Ok.ensures.exact); sound = have-sound c.in-Ok.segs.items 0 kept }

pub returns-clause-ok : goal.returns-clause-ok
returns-clause-ok g c = (empty-is c.in-Ok.segs.items c.in-Ok.ensures.items, refl)
