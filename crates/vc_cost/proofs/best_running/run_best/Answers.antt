use Rattle.vc_base.proofs.Common.{◌≡◌, length, max, false, get_or_default, refl, sym, ap, ◌∙◌, arith}
use Rattle.vc_cost.specs.declared.best_call.BestCall.TheVariants.{Alloc, Compact}
use Rattle.std.specs.Result.{is_err}
use Rattle.vc_seg.specs.declared.stat.Stat.{Stat}
use Rattle.vc_cost.proofs.BestRunLemmas.{bests_first, bests_lent, bests_step, ok-holds, run_made}
use Rattle.vc_cost.proofs.best_running.run_best.Goals as goal

-- src/best_running.rt:54:5
pub loop-call-init : goal.loop-call-init
loop-call-init g c =
    let got : is_err c.reserve.result ≡ false = sym c.is_err.ensures.value ∙ c.if-is_err.false in
    let room = ok-holds c.reserve.result _ got c.reserve.ensures.ok in
    let same : length c.as_slice-call-items.result.now ≡ length c.as_slice.result.now = ap (λ z. length z) (c.as_slice-call-items.ensures ∙ sym c.as_slice.ensures) in
    record {
      made = bests_first _ c.args.best.now c.reserve.new.self.items c.args.steps.now (c.reserve.ensures.items ∙ c.new-live.ensures.items) c.requires.empty;
      counted = refl;
      few = omega (arith, c.reserve.ensures.len, c.new-live.ensures.len);
      room = omega (arith, room, same);
    }

-- src/best_running.rt:55:29
pub make_best-requires-clause-lent : goal.make_best-requires-clause-lent
make_best-requires-clause-lent g c = bests_lent _ _ _ _ _ _ _ _ c.requires.empty c.loop-call.invariant.made

-- src/best_running.rt:54:5
pub loop-call-preserved : goal.loop-call-preserved
loop-call-preserved g c =
    let items = c.as_slice-call-items.result.now in
    let gaps = c.max-greatest.ensures ∙ ap (λ z. max c.loop-call.greatest z) (c.from.ensures ∙ ap (λ (s : Stat). s.free) c.stat.ensures) in
    record {
      made =
          bests_step _ items c.loop-call.call-index c.args.best.now c.loop-call.best c.make_best.new.best c.loop-call.live.items c.make_best.new.live.items c.loop-call.greatest c.max-greatest.result c.args.steps.now c.loop-call.steps
          c.make_best.new.steps _ c.loop-call-test.true c.loop-call.invariant.made c.in_default.ensures.made gaps
          (get_or_default items c.loop-call.call-index (Alloc 0) Compact c.loop-call-test.true);
      counted = omega (arith, c.loop-call.invariant.counted);
      few = omega (arith, c.loop-call.invariant.few, c.make_best.ensures.few);
      room = omega (arith, c.loop-call.invariant.room, c.make_best.ensures.capacity);
    }

-- src/best_running.rt:23:1
pub returns-clause-made : goal.returns-clause-made
returns-clause-made g c = run_made _ _ _ _ _ _ _ _ _ _ c.as_slice-call-items.ensures c.loop-call-test.false c.loop-call.invariant.made
