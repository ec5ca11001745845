use Rattle.vc_base.proofs.Common.{◌≢◌, take, All}
use Rattle.vc_seg.proofs.number.search_number.Given as goal

-- none of the segments so far has the number
abbrev pub invariant-loop-i : goal.invariant-loop-i
invariant-loop-i g l = All (λ s. (g.T.Numbered.pair s).0 ≢ l.number) (take l.i l.segs)
