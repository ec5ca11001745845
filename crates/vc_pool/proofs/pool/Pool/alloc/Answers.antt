use Rattle.vc_base.proofs.Common.{◌++◌, ap, ◌∙◌}
use Rattle.vc_pool.specs.Read.{pool_by}
use Rattle.vc_pool.proofs.PoolAfterCalls.{pairs-of}
use Rattle.vc_pool.proofs.PutBlocks.{alloc-put}
use Rattle.vc_pool.proofs.PoolParts.{sound-kept, sound-of}
use Rattle.vc_pool.proofs.Sound.{kept-of}
use Rattle.vc_pool.proofs.pool.Pool.alloc.Goals as goal

pub alloc_in-requires-clause-kept : goal.alloc_in-requires-clause-kept
alloc_in-requires-clause-kept g c = kept-of c.args.self.now

pub alloc_in-requires-clause-lent : goal.alloc_in-requires-clause-lent
alloc_in-requires-clause-lent g c =
    (c.requires.lent.0, c.requires.lent.1 ∙ ap (λ ss. c.requires.lent.0 ++ ss) (pairs-of c.args.self.now.segs.items c.args.self.now.element c.args.self.now.freed.0))

pub invariant_of-self : goal.invariant_of-self
invariant_of-self g c = record { kept = ∣ c.alloc_in.ensures.kept ∣₁; sound = sound-kept c.alloc_in.new.segs.items c.alloc_in.new.element c.alloc_in.new.freed.0 c.alloc_in.ensures.kept }

pub returns-clause-put : goal.returns-clause-put
returns-clause-put g c =
    alloc-put c.alloc_in.result (pool_by c.args.self.now.segs.items c.args.self.now.element c.args.self.now.freed.0) (pool_by c.alloc_in.new.segs.items c.alloc_in.new.element c.alloc_in.new.freed.0) _ c.args.tag c.args.size c.alloc_in.ensures.answer
    (sound-of c.alloc_in.new.segs.items c.alloc_in.new.element c.alloc_in.new.freed.0 c.alloc_in.ensures.kept.cells)
