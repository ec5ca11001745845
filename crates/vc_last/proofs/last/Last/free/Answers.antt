use Rattle.vc_base.proofs.Common.{List, subst, ∥∥₁_map}
use Rattle.vc_seg.specs.Segment.{Bytes}
use Rattle.vc_last.specs.Chain.{IsLast}
use Rattle.vc_last.proofs.Types.{have, have-sound}
use Rattle.vc_last.proofs.last.Last.free.Goals as goal

pub free_in-requires-clause-kept : goal.free_in-requires-clause-kept
free_in-requires-clause-kept g c = rw c.deref.ensures.value (have c.args.self.now.segs.items c.args.self.now.latest.0 c.args.self.now.kept)

pub invariant_of-self : goal.invariant_of-self
invariant_of-self g c =
    let kept = ∥∥₁_map c.args.self.now.kept (λ (k : IsLast c.args.self.now.segs.items c.args.self.now.latest.0). subst (λ (xs : List Bytes). IsLast xs c.free_in.new.latest.0) c.deref.ensures.value c.free_in.ensures.kept) in
    record { kept = kept; reserved = c.args.self.now.reserved; sound = have-sound c.args.self.now.segs.items c.free_in.new.latest.0 kept }
