use Rattle.vc_base.proofs.Common.{◌≡◌, ℕ, List, ◌++◌, length, take, drop, sym, ap, ◌∙◌, subst, arith, with_items_is, place_of, Pool, pool_free}
use Rattle.vc_model.proofs.Owned.{free-freed, free-none_left, free-one_less}
use Rattle.vc_pool.specs.Cells.Call.{IsPutBack}
use Rattle.vc_pool.specs.Cells.Kept.{IsPool}
use Rattle.vc_pool.specs.Cells.Place.{cells_in}
use Rattle.vc_pool.specs.declared.cells.segment.PoolSegment.{PoolSegment}
use Rattle.vc_pool.specs.Read.{pool_by}
use Rattle.vc_pool.proofs.PoolParts.{sound-kept, sound-of}
use Rattle.vc_pool.proofs.PoolAfterCalls.{freed-pool}
use Rattle.vc_pool.proofs.Sound.{kept-of}
use Rattle.vc_pool.proofs.pool.Pool.free.Goals as goal
use Rattle.vc_pool.proofs.pool.Pool.free.Goals.{After-put_back}
use Rattle.vc_pool.proofs.pool.Pool.free.Given.{Over}

items : (g : Over) (c : After-put_back g) → take c.args.self.now.segs.len (c.put_back.new.segs ++ drop (length c.put_back.new.segs) c.args.self.now.segs.items) ≡ c.put_back.new.segs
items g c = with_items_is c.args.self.now.segs c.put_back.new.segs (omega (arith, c.put_back.auto.segs, c.deref_mut.ensures.len))

back : (g : Over) (c : After-put_back g) → IsPutBack c.args.self.now.element c.args.a.0 (cells_in c.args.self.now.segs.items) (cells_in c.put_back.new.segs) c.args.self.now.freed.0
back g c = subst (λ (ss : List PoolSegment). IsPutBack c.args.self.now.element c.args.a.0 (cells_in ss) (cells_in c.put_back.new.segs) c.args.self.now.freed.0) c.deref_mut.ensures.value c.put_back.ensures.back

pool : (g : Over) (c : After-put_back g) → pool_by (take c.args.self.now.segs.len (c.put_back.new.segs ++ drop (length c.put_back.new.segs) c.args.self.now.segs.items)) c.args.self.now.element c.put_back.new.freed.0
    ≡ pool_free (pool_by c.args.self.now.segs.items c.args.self.now.element c.args.self.now.freed.0) (place_of c.args.a.0)
pool g c =
    ap (λ (ss : List PoolSegment). pool_by ss c.args.self.now.element c.put_back.new.freed.0) (items g c)
    ∙ (ap (pool_by c.put_back.new.segs c.args.self.now.element) c.put_back.ensures.last
    ∙ freed-pool c.args.self.now.segs.items c.put_back.new.segs c.args.self.now.element c.args.a.0 c.args.self.now.freed.0 (back g c))

pub put_back-requires-clause-kept : goal.put_back-requires-clause-kept
put_back-requires-clause-kept g c = rw c.deref_mut.ensures.value (kept-of c.args.self.now)

pub invariant_of-self : goal.invariant_of-self
invariant_of-self g c =
    let at = (goal.at.invariant_of-self g c).After-put_back in
    let now : IsPool c.args.self.now.element (cells_in (take c.args.self.now.segs.len (c.put_back.new.segs ++ drop (length c.put_back.new.segs) c.args.self.now.segs.items))) c.put_back.new.freed.0 =
    subst (λ a. IsPool c.args.self.now.element (cells_in (take c.args.self.now.segs.len (c.put_back.new.segs ++ drop (length c.put_back.new.segs) c.args.self.now.segs.items))) a) (sym c.put_back.ensures.last)
    (subst (λ (ss : List PoolSegment). IsPool c.args.self.now.element (cells_in ss) c.args.a.0) (sym (items g at)) (back g at).kept) in
    record { kept = ∣ now ∣₁; sound = sound-kept _ c.args.self.now.element c.put_back.new.freed.0 now }

pub returns-clause-freed : goal.returns-clause-freed
returns-clause-freed g c =
    let is = ap (λ (p : Pool ℕ). p.layout.blocks) (pool g (goal.at.returns-clause-freed g c).After-put_back) in
    let places = (sound-of c.args.self.now.segs.items c.args.self.now.element c.args.self.now.freed.0 (kept-of c.args.self.now).cells).places in
    record { one_less = free-one_less c.args.a.0 _ _ is places c.requires; freed = free-freed c.args.a.0 _ _ is places; none_left = free-none_left c.args.a.0 _ _ is places }
