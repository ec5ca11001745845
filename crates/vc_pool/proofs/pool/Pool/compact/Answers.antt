use Rattle.vc_pool.proofs.PoolParts.{sound-kept}
use Rattle.vc_pool.proofs.PoolAfterCalls.{compacted-pool}
use Rattle.vc_pool.proofs.Sound.{kept-of}
use Rattle.vc_pool.proofs.pool.Pool.compact.Goals as goal

pub compact_in-requires-clause-kept : goal.compact_in-requires-clause-kept
compact_in-requires-clause-kept g c = kept-of c.args.self.now

pub invariant_of-self : goal.invariant_of-self
invariant_of-self g c =
    record { kept = ∣ c.compact_in.ensures.compacted.kept ∣₁; sound = sound-kept c.compact_in.new.segs.items c.args.self.now.element c.compact_in.new.freed.0 c.compact_in.ensures.compacted.kept }

pub returns-clause-pool : goal.returns-clause-pool
returns-clause-pool g c = compacted-pool c.args.self.now.segs.items c.compact_in.new.segs.items c.args.self.now.element c.compact_in.new.freed.0 c.args.self.now.freed.0 c.compact_in.ensures.compacted
