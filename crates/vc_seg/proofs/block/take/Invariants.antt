use Rattle.vc_base.proofs.Common.{◌≡◌, replicate}
use Rattle.vc_seg.proofs.block.take.Given as goal

-- as many zeros as steps, in the room that was taken
abbrev pub invariant-loop : goal.invariant-loop
invariant-loop l =
    (l.row.items ≡ replicate l.counter 0) × (l.row.len ≡ l.counter) × (l.row.cap ≡ l.size)
    × (l.row.ptr ≡ l.lease.ptr) × (l.lease.size ≡ l.size) × (l.lease.alloc ≡ l.alloc)
