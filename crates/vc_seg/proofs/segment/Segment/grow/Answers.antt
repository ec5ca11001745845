use Rattle.vc_base.proofs.Common.{◌≡◌, ℕ, ◌+◌, ◌≤◌, List, ◌++◌, length, replicate, take, drop, sym, ap, ◌∙◌, subst, arith, length-take-le, IsSegmentSize, with_bytes}
use Rattle.vc_seg.specs.Segment.{Bytes, grown_segment}
use Rattle.vc_seg.proofs.Rooms.{back-shorter, front-longer, put-roomy, roomy-front, roomy-zeros}
use Rattle.vc_seg.proofs.segment.Segment.grow.Goals as goal

-- a segment by its parts
abbrev by : ℕ → List ℕ → Bytes
by number bytes = record { number = number; bytes = bytes }

pub returns-then-size-self-clause-grown : goal.returns-then-size-self-clause-grown
returns-then-size-self-clause-grown c =
    let n = c.self.inside.size in
    let old = c.self.inside.block.bytes in
    let room = c.min-room.result in
    let zeros = rw c.self.invariant.long at c.self.invariant.zeros in
    let within : n ≤ length old = omega arith in
    let size : length c.args.self.now.bytes ≡ n = ap (λ (b : Bytes). length b.bytes) (sym c.self.view_is) ∙ length-take-le n old (omega arith) in
    let fits : length old ≤ room = omega arith in
    let b = c.in-Some.block in
    let put : c.put_in.new.bytes ≡ with_bytes 0 old b.bytes = c.put_in.ensures ∙ (ap (λ (xs : List ℕ). with_bytes 0 xs c.all_mut.result.now) c.all.ensures ∙ ap (with_bytes 0 old) c.all_mut.ensures.value) in
    let new = put-roomy old b.bytes c.put_in.new.bytes room c.in-Some.ensures.2 fits put in
    let longer = front-longer n c.args.more room (old ++ drop (length old) (replicate room 0)) (roomy-zeros n room old zeros within fits) (omega arith) in
    ap (λ xs. by c.self.inside.number (take (n + c.args.more) xs)) new
    ∙ (ap (by c.self.inside.number) (longer ∙ ap (λ xs. xs ++ replicate c.args.more 0) (roomy-front n room old zeros within fits)) ∙ ap (grown_segment c.args.more) c.self.view_is)

pub invariant_of-self-2 : goal.invariant_of-self-2
invariant_of-self-2 c =
    let n = c.self.inside.size in
    let old = c.self.inside.block.bytes in
    let size : length c.args.self.now.bytes ≡ n = ap (λ (b : Bytes). length b.bytes) (sym c.self.view_is) ∙ length-take-le n old (omega arith) in
    record {
      legal = subst (λ k. IsSegmentSize (k + c.args.more)) size c.requires;
      roomy = c.self.invariant.roomy;
      within = c.if-size-self.false;
      long = c.self.invariant.long;
      zeros = back-shorter n c.args.more c.self.inside.room old c.self.invariant.zeros c.if-size-self.false;
      place = c.self.invariant.place;
      heap = c.self.invariant.heap;
    }

pub returns-clause-grown : goal.returns-clause-grown
returns-clause-grown c =
    ap (by c.self.inside.number) (front-longer c.self.inside.size c.args.more c.self.inside.room c.self.inside.block.bytes c.self.invariant.zeros c.if-size-self.false) ∙ ap (grown_segment c.args.more) c.self.view_is
