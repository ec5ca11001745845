use Rattle.vc_base.proofs.Common.{sym, ◌∙◌, true≢false}
use Rattle.vc_store.proofs.Placed.{not-own-next, placed-next}
use Rattle.vc_store.proofs.stores.placing.place.Goals as goal

pub returns-then-is_some-clause-own : goal.returns-then-is_some-clause-own
returns-then-is_some-clause-own c = (
  λ h. absurd (true≢false (sym h)),
  λ own. absurd (not-own-next c.args.dicts.now _ c.loop-left.left c.loop-left.places.items _ c.loop-left.invariant c.loop-left-test.true c.requires.fit c.index.result.now c.index.ensures (sym c.is_some.ensures ∙ c.if-is_some.true) own),
)

pub loop-left-preserved : goal.loop-left-preserved
loop-left-preserved c =
    placed-next c.args.dicts.now _ c.loop-left.left c.loop-left.places.items _ c.loop-left.invariant c.loop-left-test.true c.requires.fit c.index.result.now c.copy.result c.index.ensures (sym c.is_some.ensures ∙ c.if-is_some.false) c.copy.ensures
