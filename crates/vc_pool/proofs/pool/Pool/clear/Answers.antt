use Rattle.vc_base.proofs.Common.{◌≡◌, ℕ, List, ◌++◌, length, take, drop, sym, ap, ◌∙◌, subst, arith, with_items_is}
use Rattle.vc_pool.specs.Cells.Kept.{AreCellular, IsPool}
use Rattle.vc_pool.specs.Cells.Place.{cells_in}
use Rattle.vc_pool.specs.declared.cells.segment.PoolSegment.{PoolSegment}
use Rattle.vc_pool.specs.Cells.Carve.{IsUncarved}
use Rattle.vc_pool.specs.Read.{pool_by}
use Rattle.vc_pool.proofs.PoolParts.{sound-kept}
use Rattle.vc_pool.proofs.PoolAfterCalls.{cleared-pool}
use Rattle.vc_pool.proofs.Sound.{kept-of}
use Rattle.vc_pool.proofs.pool.Pool.clear.Goals as goal
use Rattle.vc_pool.proofs.pool.Pool.clear.Goals.{After-clear_all}
use Rattle.vc_pool.proofs.pool.Pool.clear.Given.{Over}

items : (g : Over) (c : After-clear_all g) → take c.args.self.now.segs.len (c.clear_all.new.segs ++ drop (length c.clear_all.new.segs) c.args.self.now.segs.items) ≡ c.clear_all.new.segs
items g c = with_items_is c.args.self.now.segs c.clear_all.new.segs (omega (arith, c.clear_all.auto.segs, c.deref_mut.ensures.len))

cleared : (g : Over) (c : After-clear_all g) → IsUncarved c.args.self.now.element (cells_in c.args.self.now.segs.items) (cells_in c.clear_all.new.segs)
cleared g c =
    subst (λ (ss : List PoolSegment). (element : ℕ) → AreCellular element (cells_in ss) → IsUncarved element (cells_in ss) (cells_in c.clear_all.new.segs)) c.deref_mut.ensures.value c.clear_all.ensures c.args.self.now.element
    (kept-of c.args.self.now).cells

now : (g : Over) (c : After-clear_all g) → IsPool c.args.self.now.element (cells_in (take c.args.self.now.segs.len (c.clear_all.new.segs ++ drop (length c.clear_all.new.segs) c.args.self.now.segs.items))) 0
now g c = subst (λ (ss : List PoolSegment). IsPool c.args.self.now.element (cells_in ss) 0) (sym (items g c)) (cleared g c).kept

pub invariant_of-self : goal.invariant_of-self
invariant_of-self g c =
    let own = now g (goal.at.invariant_of-self g c).After-clear_all in
    record { kept = ∣ own ∣₁; sound = sound-kept _ c.args.self.now.element 0 own }

pub returns-clause-pool : goal.returns-clause-pool
returns-clause-pool g c =
    let at = (goal.at.returns-clause-pool g c).After-clear_all in
    ap (λ (ss : List PoolSegment). pool_by ss c.args.self.now.element 0) (items g at)
    ∙ cleared-pool c.args.self.now.segs.items c.clear_all.new.segs c.args.self.now.element c.args.self.now.freed.0 (cleared g at)
