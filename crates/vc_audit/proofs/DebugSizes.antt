-- The user's sizes in sum and the greatest of them.
use Rattle.vc_base.proofs.Common.{◌≡◌, ℕ, ◌+◌, ◌-◌, ◌*◌, ◌≤◌, max, List, [], ◌∷◌, map, length, fold, sum, sym, refl, ap, ◌∙◌, arith, sum_by-cons, AllByRecursion, Block, greatest}
use Rattle.vc_model.proofs.Pairs.{all-recursion}
use Rattle.vc_seg.specs.Stat.{layout_stat}
use Rattle.vc_seg.specs.declared.stat.Stat.{Stat}
use Rattle.vc_audit.specs.Debug.{Debug, user_block}
use Rattle.vc_audit.specs.DebugStat.{debug_stat}
use Rattle.vc_audit.specs.DebugGuard.{HasGuards}

abbrev sizes : List (Block ℕ) → List ℕ
sizes bs = map (λ b. b.size) bs

sum-all : (bs : List (Block ℕ)) → AllByRecursion (λ b. 49 ≤ b.size) bs → sum (sizes (map user_block bs)) + 48 * length bs ≡ sum (sizes bs)
sum-all [] all = refl
sum-all (b ∷ bs) all =
    let rest = sum-all bs all.1 in
    let some : 49 ≤ b.size = all.0 in
    let one = sum_by-cons (λ (m : ℕ). m) (b.size - 48) (sizes (map user_block bs)) in
    let two = sum_by-cons (λ (m : ℕ). m) b.size (sizes bs) in
    omega (arith, rest, some, one, two)

pub sum-user : (bs : List (Block ℕ)) → HasGuards bs → sum (map (λ b. b.size) (map user_block bs)) + 48 * length bs ≡ sum (map (λ b. b.size) bs)
sum-user bs guards = sum-all bs (all-recursion (λ (b : Block ℕ). 49 ≤ b.size) bs guards.some)

greatest-from : (m : ℕ) (bs : List (Block ℕ)) → fold max (m - 48) (sizes (map user_block bs)) ≡ fold max m (sizes bs) - 48
greatest-from m [] = refl
greatest-from m (b ∷ bs) =
    let most : max (m - 48) (b.size - 48) ≡ max m b.size - 48 = omega arith in
    ap (λ n. fold max n (sizes (map user_block bs))) most ∙ greatest-from (max m b.size) bs

pub greatest-user : (bs : List (Block ℕ)) → greatest (map (λ b. b.size) (map user_block bs)) ≡ greatest (map (λ b. b.size) bs) - 48
greatest-user bs = greatest-from 0 bs

-- the numbers of a debug region are those of its best region but for the sizes of the blocks
pub stat-user : (d : Debug ℕ) → HasGuards d.best.blocks → record (layout_stat d.best) { sbusy = (layout_stat d.best).sbusy - 48 * (layout_stat d.best).busy; mbusy = (layout_stat d.best).mbusy - 48 } ≡ debug_stat d
stat-user d guards =
    let bs = d.best.blocks in
    let sums = sum-user bs guards in
    let sum_is : sum (sizes bs) - 48 * length bs ≡ sum (sizes (map user_block bs)) = omega (arith, sums) in
    let with : ℕ → ℕ → Stat = λ s m. record (layout_stat d.best) { sbusy = s; mbusy = m } in
    ap (λ s. with s (greatest (sizes bs) - 48)) sum_is ∙ ap (with (sum (sizes (map user_block bs)))) (sym (greatest-user bs))

pub room-user : (d : Debug ℕ) → HasGuards d.best.blocks → 48 * (layout_stat d.best).busy ≤ (layout_stat d.best).sbusy
room-user d guards = let sums = sum-user d.best.blocks guards in omega (arith, sums)
