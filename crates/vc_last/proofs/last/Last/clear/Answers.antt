use Rattle.vc_base.proofs.Common.{[], sym, ap, ◌∙◌, ∥∥₁_map, cleared_layout}
use Rattle.vc_last.specs.Chain.{IsLast}
use Rattle.vc_last.proofs.Kept.{layout-from}
use Rattle.vc_last.proofs.Types.{have, have-sound}
use Rattle.vc_last.proofs.last.Last.clear.Goals as goal
use Rattle.vc_last.proofs.Chains.{last-cleared, last-from}
use Rattle.vc_last.proofs.Kept.{layout-is}

pub invariant_of-self : goal.invariant_of-self
invariant_of-self g c =
    let kept = ∥∥₁_map c.args.self.now.kept (λ (k : IsLast c.args.self.now.segs.items c.args.self.now.latest.0). last-from c.args.self.now.segs.items 0 [] (last-cleared c.args.self.now.segs.items k.segments)) in
    record { kept = kept; reserved = c.args.self.now.reserved; sound = have-sound c.args.self.now.segs.items 0 kept }

pub returns-clause-layout : goal.returns-clause-layout
returns-clause-layout g c = layout-is c.args.self.now.segs.items 0 [] (last-cleared c.args.self.now.segs.items (have c.args.self.now.segs.items c.args.self.now.latest.0 c.args.self.now.kept).segments) ∙ ap cleared_layout (sym (layout-from c.args.self.now.segs.items c.args.self.now.latest.0))
