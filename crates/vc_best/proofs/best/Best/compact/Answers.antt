use Rattle.vc_base.proofs.Common.{ℕ, ◌*◌, List, map, length, arith, sym, ap, ◌∙◌, subst, Layout}
use Rattle.vc_best.proofs.Common.{layout_by, pair_of}
use Rattle.vc_best.proofs.Calls.{call_costs}
use Rattle.vc_best.proofs.Held.{AreMost, held, kept-of, most-of}
use Rattle.vc_best.proofs.Lends.{segments-by}
use Rattle.vc_best.proofs.best.Best.compact.Goals as goal

pub compact-requires-clause-kept : goal.compact-requires-clause-kept
compact-requires-clause-kept g c = kept-of c.args.self.now.extents.segs.items c.args.self.now.extents.index.items c.args.self.now.root.0 c.args.self.now.extents.kept c.args.self.now.merged c.args.self.now.gaps

pub invariant_of-self : goal.invariant_of-self
invariant_of-self g c =
    let h = held c.compact.new.extents.segs.items c.compact.new.extents.index.items c.compact.new.extents.kept (subst (λ (r : Layout ℕ). AreMost r.blocks) (sym c.compact.ensures.layout) (most-of (layout_by c.args.self.now.extents.segs.items) c.args.self.now.whole)) c.compact.ensures.kept.merged in
    record { sound = h.sound; whole = h.whole; merged = h.merged; gaps = ∣ c.compact.ensures.kept.gaps ∣₁; counted = c.args.self.now.counted ∙ sym (ap (λ (r : Layout ℕ). length r.blocks) c.compact.ensures.layout) }

pub returns-clause-call : goal.returns-clause-call
returns-clause-call g c =
    let all = ap (λ (ss : List (ℕ × ℕ)). length ss) (segments-by c.args.self.now.extents.segs.items) in
    let few = c.compact.ensures.few in
    call_costs c.args.self.now _ _ c.args.steps.now _ (12 * c.compact.result) (length (map pair_of c.args.self.now.extents.segs.items)) 0 (omega arith) (omega arith) c.compact.ensures.cost
