use Rattle.vc_base.proofs.Common.{refl}
use Rattle.vc_pool.proofs.PoolParts.{sound-kept}
use Rattle.vc_pool.proofs.PoolAfterCalls.{empty-is, empty-kept}
use Rattle.vc_pool.proofs.pool.Pool.open.Goals as goal

pub invariant_of-result : goal.invariant_of-result
invariant_of-result g c =
    let none = empty-kept c.new.result.items c.new.ensures.items in
    record { kept = ∣ none ∣₁; sound = sound-kept c.new.result.items 0 0 none }

pub returns-clause-ok : goal.returns-clause-ok
returns-clause-ok g c = (empty-is c.new.result.items c.new.ensures.items, refl)
