use Rattle.vc_base.proofs.Common.{ap, ◌∙◌, arith, with_bytes}
use Rattle.vc_seg.specs.Segment.{Bytes}
use Rattle.vc_seg.proofs.Rooms.{size-within, written-front, written-kept}
use Rattle.vc_seg.proofs.segment.Segment.put.Goals as goal

pub invariant_of-self : goal.invariant_of-self
invariant_of-self c =
    let size = size-within c.self.invariant (ap (λ (s : Bytes). s.bytes) c.self.view_is) in
    written-kept c.self.inside.size c.self.inside.room c.self.inside.at c.self.inside.alloc c.self.inside.block c.self.invariant c.args.off c.args.src.now c.put_in.new.bytes (omega (arith, size, c.requires)) (c.put_in.ensures ∙ ap (with_bytes c.args.off c.args.src.now) c.all_mut.ensures.value)

pub returns-clause-bytes : goal.returns-clause-bytes
returns-clause-bytes c =
    let size = size-within c.self.invariant (ap (λ (s : Bytes). s.bytes) c.self.view_is) in
    written-front c.self.inside.size c.self.inside.room c.self.inside.at c.self.inside.alloc c.self.inside.block c.self.invariant c.args.off c.args.src.now c.put_in.new.bytes (omega (arith, size, c.requires)) (c.put_in.ensures ∙ ap (with_bytes c.args.off c.args.src.now) c.all_mut.ensures.value)
    ∙ ap (λ (s : Bytes). with_bytes c.args.off c.args.src.now s.bytes) c.self.view_is
