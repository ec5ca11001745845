-- What is true of blocks with heads.
use Rattle.vc_base.proofs.Common.{ℕ, get_or, inl, Layout, IsSound}
use Rattle.vc_seg.proofs.Blocks.{place_of-address}
use Rattle.vc_best.proofs.HaveHeads.{HaveHeads}

-- they don't overlap, and lie in the usable parts of segments
pub IsSound-heads : (r : Layout ℕ) → HaveHeads r → IsSound r
IsSound-heads r h =
    record {
      apart = λ i j d lt within. inl (h.apart i j d lt within);
      usable = λ k d lt. (h.blocks k d lt).usable;
      exact = λ k d lt. let slot = (h.blocks k d lt).slot in place_of-address (get_or r.blocks k d).seg (get_or r.blocks k d).off slot.last slot.multiple;
      numbered = h.numbered;
      short = λ k d lt. (h.sizes k d lt).most;
    }
