use Rattle.vc_base.proofs.Common.{∥∥₁_map}
use Rattle.vc_last.specs.Chain.{IsLast}
use Rattle.vc_last.specs.Read.{layout_by}
use Rattle.vc_last.proofs.Types.{have, have-sound}
use Rattle.vc_last.proofs.last.Last.alloc.Goals as goal
use Rattle.vc_last.proofs.Allocs.{put-alloc}

pub alloc_in-requires-clause-kept : goal.alloc_in-requires-clause-kept
alloc_in-requires-clause-kept g c = record { last = have c.args.self.now.segs.items c.args.self.now.latest.0 c.args.self.now.kept; room = c.args.self.now.reserved }

pub invariant_of-self : goal.invariant_of-self
invariant_of-self g c =
    let kept = ∥∥₁_map c.args.self.now.kept (λ (k : IsLast c.args.self.now.segs.items c.args.self.now.latest.0). c.alloc_in.ensures.kept.last) in
    record { kept = kept; reserved = c.alloc_in.ensures.kept.room; sound = have-sound c.alloc_in.new.segs.items c.alloc_in.new.latest.0 kept }

pub returns-clause-put : goal.returns-clause-put
returns-clause-put g c = put-alloc _ (layout_by c.args.self.now.segs.items c.args.self.now.latest.0) (layout_by c.alloc_in.new.segs.items c.alloc_in.new.latest.0) c.args.tag c.args.size c.alloc_in.result c.alloc_in.ensures.alloc.answer c.alloc_in.ensures.alloc.fresh
