use Rattle.vc_base.proofs.Common.{take, drop, ap, ◌∙◌, arith, with_bytes}
use Rattle.vc_seg.specs.Segment.{Bytes}
use Rattle.vc_seg.proofs.Rooms.{part-length, part-same, size-within, written-front, written-kept}
use Rattle.vc_seg.proofs.segment.Segment.shift.Goals as goal

pub invariant_of-self : goal.invariant_of-self
invariant_of-self c =
    let size = size-within c.self.invariant (ap (λ (s : Bytes). s.bytes) c.self.view_is) in
    let long = part-length c.args.from c.args.len c.self.inside.block.bytes in
    written-kept c.self.inside.size c.self.inside.room c.self.inside.at c.self.inside.alloc c.self.inside.block c.self.invariant c.args.to (take c.args.len (drop c.args.from c.self.inside.block.bytes)) c.shift_in.new.bytes (omega (arith, size, c.requires.to, long))
    (c.shift_in.ensures ∙ ap (λ xs. with_bytes c.args.to (take c.args.len (drop c.args.from xs)) xs) c.all_mut.ensures.value)

pub returns-clause-bytes : goal.returns-clause-bytes
returns-clause-bytes c =
    let n = c.self.inside.size in
    let old = c.self.inside.block.bytes in
    let size = size-within c.self.invariant (ap (λ (s : Bytes). s.bytes) c.self.view_is) in
    let long = part-length c.args.from c.args.len c.self.inside.block.bytes in
    written-front c.self.inside.size c.self.inside.room c.self.inside.at c.self.inside.alloc c.self.inside.block c.self.invariant c.args.to (take c.args.len (drop c.args.from c.self.inside.block.bytes)) c.shift_in.new.bytes (omega (arith, size, c.requires.to, long))
    (c.shift_in.ensures ∙ ap (λ xs. with_bytes c.args.to (take c.args.len (drop c.args.from xs)) xs) c.all_mut.ensures.value)
    ∙ (ap (λ src. with_bytes c.args.to src (take n old)) (part-same n c.args.from c.args.len old (omega (arith, size, c.requires.from)))
    ∙ ap (λ (s : Bytes). with_bytes c.args.to (take c.args.len (drop c.args.from s.bytes)) s.bytes) c.self.view_is)
