use Rattle.vc_base.proofs.Common.{◌≡◌, ◌+◌, ◌*◌, ◌^◌, sym, ◌∙◌, arith}
use native.Mathlib.Numerals.{unary_clauses}
use Rattle.vc_dthash.proofs.SlotLemmas.{doubled-step, few_slots}
use Rattle.vc_dthash.proofs.dt_hash.slots_for.Goals as goal

pub overflow_mul-slots-in-loop-doubled : goal.overflow_mul-slots-in-loop-doubled
overflow_mul-slots-in-loop-doubled c =
    let h = few_slots c.loop-doubled._doubled c.loop-doubled.slots (omega (arith, c.loop-doubled-test.true)) c.loop-doubled.invariant.0 in
    omega (arith, h)

pub loop-doubled-preserved : goal.loop-doubled-preserved
loop-doubled-preserved c =
    let power : c.loop-doubled.slots * 2 ≡ 16 * 2 ^ (c.loop-doubled._doubled + 1) = simp unary_clauses (omega (arith, c.loop-doubled.invariant.0)) in (
      power,
      sym (doubled-step c.loop-doubled._doubled c.loop-doubled.slots c.args.objects c.loop-doubled-test.true c.if-objects-slots.false) ∙ c.loop-doubled.invariant.1,
    )
