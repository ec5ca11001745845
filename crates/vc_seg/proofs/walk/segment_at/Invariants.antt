use Rattle.vc_base.proofs.Common.{◌≡◌, map, drop, segment_at}
use Rattle.vc_seg.proofs.walk.segment_at.Given as goal

-- none of the segments so far has a byte at the place
abbrev pub invariant-loop-segment : goal.invariant-loop-segment
invariant-loop-segment g l = segment_at (l.seg, l.off) (map g.T.Numbered.pair (drop l.segment-index l.segs)) ≡ segment_at (l.seg, l.off) (map g.T.Numbered.pair l.segs)
