use Rattle.vc_base.proofs.Common.{◌≡◌, ℕ, ◌≤◌, ◌++◌, length, take, drop, None, sym, ap, ◌∙◌, arith, with_items_is, place_of, Done, Pool, resize_there}
use Rattle.vc_pool.specs.Read.{pool_by}
use Rattle.vc_pool.proofs.PutOutcome.{resize-greater, resize-stays}
use Rattle.vc_pool.proofs.PutBlocks.{resize-kept}
use Rattle.vc_pool.proofs.PoolCalls.{with-set}
use Rattle.vc_pool.proofs.PoolParts.{sound-kept, with-block}
use Rattle.vc_pool.proofs.PoolAfterCalls.{became-kept, became-pool}
use Rattle.vc_pool.proofs.Sound.{kept-of}
use Rattle.vc_pool.proofs.pool.Pool.resize.Goals as goal
use Rattle.vc_pool.proofs.pool.Pool.resize.Goals.{After-resize_at}
use Rattle.vc_pool.proofs.pool.Pool.resize.Given.{Over}

items : (g : Over) (c : After-resize_at g) → take c.args.self.now.segs.len (c.resize_at.new.segs ++ drop (length c.resize_at.new.segs) c.args.self.now.segs.items) ≡ c.resize_at.new.segs
items g c = with_items_is c.args.self.now.segs c.resize_at.new.segs (omega (arith, c.resize_at.auto.segs, c.deref_mut.ensures.len))

pool : (g : Over) (c : After-resize_at g) → pool_by (take c.args.self.now.segs.len (c.resize_at.new.segs ++ drop (length c.resize_at.new.segs) c.args.self.now.segs.items)) c.args.self.now.element c.args.self.now.freed.0
    ≡ record (pool_by c.args.self.now.segs.items c.args.self.now.element c.args.self.now.freed.0) { layout = resize_there (pool_by c.args.self.now.segs.items c.args.self.now.element c.args.self.now.freed.0).layout (place_of c.args.a.0) c.args.size }
pool g c =
    became-pool c.args.self.now.element c.args.self.now.freed.0 c.args.self.now.segs.items _ c.resize_at.new.segs _ (λ l. resize_there l (place_of c.args.a.0) c.args.size) c.deref_mut.ensures.value (items g c) (kept-of c.args.self.now) c.resize_at.ensures

pub resize_at-requires-clause-kept : goal.resize_at-requires-clause-kept
resize_at-requires-clause-kept g c = rw c.deref_mut.ensures.value (kept-of c.args.self.now).cells

pub invariant_of-self : goal.invariant_of-self
invariant_of-self g c =
    let at = (goal.at.invariant_of-self g c).After-resize_at in
    let now = became-kept c.args.self.now.element c.args.self.now.freed.0 c.args.self.now.segs.items _ c.resize_at.new.segs _ (λ l. resize_there l (place_of c.args.a.0) c.args.size) c.deref_mut.ensures.value (items g at) (kept-of c.args.self.now) c.resize_at.ensures in
    record { kept = ∣ now ∣₁; sound = sound-kept _ c.args.self.now.element c.args.self.now.freed.0 now }

pub returns-clause-ok : goal.returns-clause-ok
returns-clause-ok g c =
    let at = (goal.at.returns-clause-ok g c).After-resize_at in
    let some : 1 ≤ c.args.self.now.element = let low = c.if-size-self.false in let least = c.requires.size.some in omega (arith, low, least) in
    let with = with-set c.args.self.now.segs.items c.args.self.now.element c.args.self.now.freed.0 c.args.size some in
    resize-stays (pool_by c.args.self.now.segs.items c.args.self.now.element c.args.self.now.freed.0) (place_of c.args.a.0) c.args.size (omega (arith, with))
    ∙ ap (λ (p : Pool ℕ). Done (record { at = place_of c.args.a.0; region = p; granted = None })) (sym (pool g at))

pub returns-clause-kept : goal.returns-clause-kept
returns-clause-kept g c =
    resize-kept c.args.a.0 c.args.size (pool_by c.args.self.now.segs.items c.args.self.now.element c.args.self.now.freed.0).layout _ (ap (λ (p : Pool ℕ). p.layout) (pool g (goal.at.returns-clause-kept g c).After-resize_at))

pub returns-then-size-self-clause-err : goal.returns-then-size-self-clause-err
returns-then-size-self-clause-err g c =
    let h = kept-of c.args.self.now in
    let some = with-block c.args.self.now.segs.items c.args.self.now.element c.args.self.now.freed.0 c.args.a.0 h.cells c.requires.block in
    let with = with-set c.args.self.now.segs.items c.args.self.now.element c.args.self.now.freed.0 c.args.size some in
    resize-greater (pool_by c.args.self.now.segs.items c.args.self.now.element c.args.self.now.freed.0) (place_of c.args.a.0) c.args.size (omega (arith, with))
