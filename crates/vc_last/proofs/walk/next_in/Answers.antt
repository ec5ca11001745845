use Rattle.vc_base.proofs.Common.{Some, None, option_map, sym, ap, ◌∙◌}
use Rattle.vc_base.specs.declared.addr.Addr.{Addr}
use Rattle.vc_last.proofs.Chains.{latest-head}
use Rattle.vc_last.proofs.Walks.{addresses, least-end, least-step, least_on, next-among, next-is, shorter, rest-kept}
use Rattle.vc_last.proofs.walk.next_in.Goals as goal

pub before_at-at-requires : goal.before_at-at-requires
before_at-at-requires c = latest-head c.args.segs.now c.loop-at.at.0 c.loop-at-test.true c.loop-at.invariant.kept

pub loop-at-preserved : goal.loop-at-preserved
loop-at-preserved c =
    record {
      kept = rest-kept c.args.segs.now c.loop-at.at.0 c.before_at-at.result.0 c.loop-at.invariant.kept c.loop-at-test.true c.before_at-at.ensures;
      rest = ap (λ a. least_on c.consider-least.result c.args.after.0 (addresses c.args.segs.now a)) c.before_at-at.ensures
          ∙ (least-step c.args.segs.now c.loop-at.at.0 c.args.after.0 c.loop-at.least c.consider-least.result c.loop-at.invariant.kept c.loop-at-test.true c.consider-least.ensures ∙ c.loop-at.invariant.rest);
    }

pub loop-at-smaller : goal.loop-at-smaller
loop-at-smaller c = shorter c.args.segs.now c.loop-at.at.0 c.before_at-at.result.0 c.loop-at.invariant.kept c.loop-at-test.true c.before_at-at.ensures

pub returns-in_err-address-clause-value : goal.returns-in_err-address-clause-value
returns-in_err-address-clause-value c =
    ap (option_map (λ (a : Addr). a.0)) c.from_residual.ensures ∙ sym (next-is c.args.segs.now c.args.latest.0 c.args.after.0 None (sym c.in_err-address.was ∙ (sym (least-end c.args.segs.now c.loop-at.at.0 c.args.after.0 c.loop-at.least c.loop-at-test.false) ∙ c.loop-at.invariant.rest)))

pub returns-clause-value : goal.returns-clause-value
returns-clause-value c = sym (next-is c.args.segs.now c.args.latest.0 c.args.after.0 (Some c.in_ok-address.address) (sym c.in_ok-address.was ∙ (sym (least-end c.args.segs.now c.loop-at.at.0 c.args.after.0 c.loop-at.least c.loop-at-test.false) ∙ c.loop-at.invariant.rest)))

pub returns-clause-live : goal.returns-clause-live
returns-clause-live c = next-among c.args.segs.now c.args.latest.0 c.args.after.0 c.in_ok-address.address (sym c.in_ok-address.was ∙ (sym (least-end c.args.segs.now c.loop-at.at.0 c.args.after.0 c.loop-at.least c.loop-at-test.false) ∙ c.loop-at.invariant.rest))
