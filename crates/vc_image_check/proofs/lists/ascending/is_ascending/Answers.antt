use Rattle.vc_base.proofs.Common.{◌≡◌, ◌-◌, length, get_or, sym, refl, ap, ap₂, ◌∙◌, arith, true≢false, eqb-false, drop_all}
use Rattle.vc_image_check.specs.Lists.Ascending.{is_against, stand}
use Rattle.vc_image_check.proofs.Rising.{walked-end, walked-next, walked-not, walked-start}
use Rattle.vc_image_check.proofs.lists.ascending.is_ascending.Given.{Over}
use Rattle.vc_image_check.proofs.lists.ascending.is_ascending.Goals as goal
use Rattle.vc_image_check.proofs.lists.ascending.is_ascending.Goals.{After-goes_against}

-- what was told of the two is true of them
against : (g : Over) (c : After-goes_against g)
    → is_against c.args.alone (stand (g.D.DictDisc.rules c.args.kind.now) (g.N.Holders.blocks c.args.nodes.now) (get_or c.args.names.now (c.loop-i.i - 1) 0) (get_or c.args.names.now c.loop-i.i 0))
    ≡ c.goes_against.result
against g c =
    let rules = g.D.DictDisc.rules c.args.kind.now in
    let answer = c.compare.ensures.value ∙ ap₂ rules.compare (c.key-before.ensures ∙ ap rules.key c.object.ensures) (c.key-here.ensures ∙ ap rules.key c.object-in-loop-i.ensures) in
    ap (is_against c.args.alone) (sym answer) ∙ sym c.goes_against.ensures

pub loop-i-init : goal.loop-i-init
loop-i-init g c =
    let some = eqb-false (length c.args.names.now) 0 (sym c.is_empty.ensures ∙ c.if-is_empty.false) in
    record { order = walked-start _ (g.met.D.DictDisc.lawful c.args.kind.now).order _ c.args.alone c.args.names.now (omega (arith, some)); steps = omega arith }

pub returns-then-goes_against-clause-order : goal.returns-then-goes_against-clause-order
returns-then-goes_against-clause-order g c = (
  λ yes. absurd (true≢false (sym yes)),
  λ h. absurd (walked-not _ (g.met.D.DictDisc.lawful c.args.kind.now).order _ c.args.alone c.args.names.now c.loop-i.i c.loop-i-test.true
      (against g (goal.at.returns-then-goes_against-clause-order g c).After-goes_against ∙ c.if-goes_against.true) c.loop-i.invariant.order h),
)

pub loop-i-preserved : goal.loop-i-preserved
loop-i-preserved g c = record {
  order = walked-next _ (g.met.D.DictDisc.lawful c.args.kind.now).order _ c.args.alone c.args.names.now c.loop-i.i c.loop-i-test.true
      (against g (goal.at.loop-i-preserved g c).After-goes_against ∙ c.if-goes_against.false) c.loop-i.invariant.order;
  steps = omega (arith, c.compare.ensures.step, c.loop-i.invariant.steps);
}

pub returns-clause-order : goal.returns-clause-order
returns-clause-order g c =
    let all = walked-end _ (g.met.D.DictDisc.lawful c.args.kind.now).order _ c.args.alone c.args.names.now c.loop-i.i (drop_all c.loop-i.i c.args.names.now (omega (arith, c.loop-i-test.false))) c.loop-i.invariant.order in
    (λ _. all, λ _. refl)
