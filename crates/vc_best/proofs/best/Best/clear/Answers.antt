use Rattle.vc_base.proofs.Common.{ℕ, ◌≤◌, List, length, arith, sym, ap, subst, All-nil, Block, Layout}
use Rattle.vc_best.proofs.Calls.{made_costs}
use Rattle.vc_best.proofs.Held.{AreMost, held}
use Rattle.vc_best.proofs.Lends.{segments-by}
use Rattle.vc_best.proofs.best.Best.clear.Goals as goal

pub invariant_of-self : goal.invariant_of-self
invariant_of-self g c =
    let h = held c.clear.new.extents.segs.items c.clear.new.extents.index.items c.clear.new.extents.kept (subst (λ (r : Layout ℕ). AreMost r.blocks) (sym c.clear.ensures.layout) (All-nil (λ (b : Block ℕ). b.size ≤ 16777264))) c.clear.ensures.kept.merged in
    record { sound = h.sound; whole = h.whole; merged = h.merged; gaps = ∣ c.clear.ensures.kept.gaps ∣₁; counted = sym (ap (λ (r : Layout ℕ). length r.blocks) c.clear.ensures.layout) }

pub returns-clause-call : goal.returns-clause-call
returns-clause-call g c =
    let e = c.clear.new.extents in
    let all = ap (λ (ss : List (ℕ × ℕ)). length ss) (segments-by c.args.self.now.extents.segs.items) in
    made_costs c.args.self.now _ _ c.args.steps.now _ e.index.items e.kept c.clear.ensures.kept.merged _ (omega arith) c.clear.ensures.cost

pub returns-clause-least_steps : goal.returns-clause-least_steps
returns-clause-least_steps g c = record { least = c.clear.ensures.cost.least }
