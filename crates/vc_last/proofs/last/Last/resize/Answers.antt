use Rattle.vc_base.proofs.Common.{∥∥₁_map}
use Rattle.vc_last.specs.Chain.{IsLast}
use Rattle.vc_last.proofs.Types.{have, have-sound}
use Rattle.vc_last.proofs.last.Last.resize.Goals as goal

pub resize_in-requires-clause-kept : goal.resize_in-requires-clause-kept
resize_in-requires-clause-kept g c = record { last = have c.args.self.now.segs.items c.args.self.now.latest.0 c.args.self.now.kept; room = c.args.self.now.reserved }

pub invariant_of-self : goal.invariant_of-self
invariant_of-self g c =
    let kept = ∥∥₁_map c.args.self.now.kept (λ (k : IsLast c.args.self.now.segs.items c.args.self.now.latest.0). c.resize_in.ensures.kept.last) in
    record { kept = kept; reserved = c.resize_in.ensures.kept.room; sound = have-sound c.resize_in.new.segs.items c.resize_in.new.at.0 kept }
