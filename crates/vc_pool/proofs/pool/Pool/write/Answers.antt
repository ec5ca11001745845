use Rattle.vc_base.proofs.Common.{◌≡◌, ℕ, ◌++◌, length, take, drop, ap, ◌∙◌, arith, with_items_is, place_of, without_block, Pool, with_bytes_at}
use Rattle.vc_pool.specs.Read.{pool_by}
use Rattle.vc_model.proofs.Owned.{write-others}
use Rattle.vc_pool.proofs.PoolParts.{sound-kept}
use Rattle.vc_pool.proofs.PoolAfterCalls.{became-kept, became-pool}
use Rattle.vc_pool.proofs.Sound.{kept-of}
use Rattle.vc_pool.proofs.pool.Pool.write.Goals as goal
use Rattle.vc_pool.proofs.pool.Pool.write.Goals.{After-write_at}
use Rattle.vc_pool.proofs.pool.Pool.write.Given.{Over}

items : (g : Over) (c : After-write_at g) → take c.args.self.now.segs.len (c.write_at.new.segs ++ drop (length c.write_at.new.segs) c.args.self.now.segs.items) ≡ c.write_at.new.segs
items g c = with_items_is c.args.self.now.segs c.write_at.new.segs (omega (arith, c.write_at.auto.segs, c.deref_mut.ensures.len))

pool : (g : Over) (c : After-write_at g) → pool_by (take c.args.self.now.segs.len (c.write_at.new.segs ++ drop (length c.write_at.new.segs) c.args.self.now.segs.items)) c.args.self.now.element c.args.self.now.freed.0
    ≡ record (pool_by c.args.self.now.segs.items c.args.self.now.element c.args.self.now.freed.0) { layout = with_bytes_at (pool_by c.args.self.now.segs.items c.args.self.now.element c.args.self.now.freed.0).layout (place_of c.args.a.0) c.args.off c.args.src.now }
pool g c =
    became-pool c.args.self.now.element c.args.self.now.freed.0 c.args.self.now.segs.items _ c.write_at.new.segs _ (λ l. with_bytes_at l (place_of c.args.a.0) c.args.off c.args.src.now) c.deref_mut.ensures.value (items g c) (kept-of c.args.self.now) c.write_at.ensures

pub write_at-requires-clause-kept : goal.write_at-requires-clause-kept
write_at-requires-clause-kept g c = rw c.deref_mut.ensures.value (kept-of c.args.self.now).cells

pub invariant_of-self : goal.invariant_of-self
invariant_of-self g c =
    let at = (goal.at.invariant_of-self g c).After-write_at in
    let now = became-kept c.args.self.now.element c.args.self.now.freed.0 c.args.self.now.segs.items _ c.write_at.new.segs _ (λ l. with_bytes_at l (place_of c.args.a.0) c.args.off c.args.src.now) c.deref_mut.ensures.value (items g at) (kept-of c.args.self.now) c.write_at.ensures in
    record { kept = ∣ now ∣₁; sound = sound-kept _ c.args.self.now.element c.args.self.now.freed.0 now }

pub returns-clause-pool : goal.returns-clause-pool
returns-clause-pool g c = pool g (goal.at.returns-clause-pool g c).After-write_at

pub returns-clause-others : goal.returns-clause-others
returns-clause-others g c =
    ap (λ (p : Pool ℕ). without_block (place_of c.args.a.0) p.layout.blocks) (pool g (goal.at.returns-clause-others g c).After-write_at)
    ∙ write-others c.args.off c.args.src.now (place_of c.args.a.0) (pool_by c.args.self.now.segs.items c.args.self.now.element c.args.self.now.freed.0).layout.blocks
