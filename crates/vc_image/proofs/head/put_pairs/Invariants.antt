use Rattle.vc_base.proofs.Common.{◌≡◌, ◌++◌, take, flat_map}
use Rattle.vc_image_check.specs.Bytes.Image.{pair_bytes}
use Rattle.vc_seg.specs.Segment.{pair_of}
use Rattle.vc_image.proofs.head.put_pairs.Given as goal

-- those so far are put
abbrev pub invariant-loop-seg : goal.invariant-loop-seg
invariant-loop-seg l = l.head.items ≡ l.fn.head.items ++ flat_map (λ s. pair_bytes (pair_of s)) (take l.seg-index l.segs)
