use Rattle.vc_base.proofs.Common.{◌≡◌, ltb, map, drop, fold, filter, lesser_by, next_segment}
use Rattle.vc_seg.proofs.walk.next_segment.Given as goal

-- the least segment so far, taken on over the segments that are left, is the result
abbrev pub invariant-loop-segment : goal.invariant-loop-segment
invariant-loop-segment g l =
    fold (lesser_by (λ s. s.0)) l.least (filter (λ s. ltb l.after s.0) (map g.T.Numbered.pair (drop l.segment-index l.segs))) ≡ next_segment l.after (map g.T.Numbered.pair l.segs)
