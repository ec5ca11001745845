use Rattle.vc_base.proofs.Common.{◌^◌}
use Rattle.vc_splay.specs.Walks.{run}
use Rattle.vc_addrmap.proofs.Descending.{Descending, goes_to}
use Rattle.vc_addrmap.proofs.addr_map.AddrMap.peek.Given as goal

-- the walk is at the top of a part, in which the address stands if it stands anywhere
abbrev pub invariant-loop-at : goal.invariant-loop-at
invariant-loop-at l = Descending l.self.entries.slab l.a.0 l.self.kept.tree l.at

abbrev pub decreases-loop-at : goal.decreases-loop-at
decreases-loop-at l = run (2 ^ 32) (goes_to l.self.entries.slab l.a.0) l.at
