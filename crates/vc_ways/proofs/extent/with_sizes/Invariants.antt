use Rattle.vc_base.proofs.Common.{◌≡◌, ◌+◌, ◌-◌, length, map}
use Rattle.vc_ways.specs.Extents.{bytes_behind}
use Rattle.vc_ways.proofs.extent.with_sizes.Given as goal

-- the sum with what is left to add is that of all
abbrev pub invariant-loop-i : goal.invariant-loop-i
invariant-loop-i g l =
    l.sum + bytes_behind l.i (map g.T.Numbered.pair l.segs) ≡ l.fn.before + bytes_behind l.fn.first (map g.T.Numbered.pair l.fn.segs)

abbrev pub decreases-loop-i : goal.decreases-loop-i
decreases-loop-i g l = length l.segs - l.i
