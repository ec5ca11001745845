use Rattle.vc_base.proofs.Common.{◌≡◌, ℕ, map, true, false, eqb, sym, ap, ◌∙◌, subst, ⊎_elim, arith, length-set, get_or-set_other, eqb-true, le_prop, ∥∥₁_elim, cases_Bool, eqb-false, is_occupied}
use Rattle.vc_best.proofs.Common.{IsThere, layout_by, pair_of}
use Rattle.vc_best.proofs.Made.{count-all}
use Rattle.std.proofs.lemmas.Grind.{get_or-set_at}
use Rattle.vc_extent.proofs.Places.{there-first, there-last}
use Rattle.vc_best.proofs.compact.mark_occupied.Goals as goal

pub loop-number-preserved : goal.loop-number-preserved
loop-number-preserved g c =
    record {
      long = length-set c.loop-number.marks c.loop-number.number c.has_block.result ∙ c.loop-number.invariant.long;
      marks = λ n first lt there.
          let m = c.loop-number.number in
          ⊎_elim
          (λ (t : eqb n m ≡ true).
          let is = eqb-true n m t in
          let within = c.loop-number.invariant.long in
          get_or-set_at c.loop-number.marks m n c.has_block.result false is (omega arith)
          ∙ c.has_block.ensures.value (subst (λ (k : ℕ). IsThere k c.args.extents.now.segs.items) is there) ∙ ap (is_occupied (layout_by c.args.extents.now.segs.items).blocks) (sym is))
          (λ (t : eqb n m ≡ false).
          let other = eqb-false n m t in
          get_or-set_other c.loop-number.marks m n c.has_block.result false other ∙ c.loop-number.invariant.marks n first (omega arith) there)
          (cases_Bool (eqb n m));
      steps = let more = c.has_block.ensures.most_steps in let before = c.loop-number.invariant.steps in omega arith;
    }

pub returns-clause-marks : goal.returns-clause-marks
returns-clause-marks g c = λ n there.
    let first = ∥∥₁_elim c.args.extents.now.kept le_prop (λ k. there-first n c.args.extents.now.segs.items k.segments.legal there) in
    let last = ∥∥₁_elim c.args.extents.now.kept le_prop (λ k. there-last n c.args.extents.now.segs.items k.segments.legal there) in
    c.loop-number.invariant.marks n first (omega arith) there

pub returns-clause-most_steps : goal.returns-clause-most_steps
returns-clause-most_steps g c =
    let all = count-all c.loop-number.number (map pair_of c.args.extents.now.segs.items) in
    let steps = c.loop-number.invariant.steps in
    omega arith
