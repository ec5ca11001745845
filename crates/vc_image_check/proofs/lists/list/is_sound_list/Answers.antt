use Rattle.vc_base.proofs.Common.{◌-◌, sym, arith, eq-eqb, eqb-true, true≢false}
use Rattle.vc_image_check.proofs.Linking.{walking-end, walking-next, walking-not, walking-start}
use Rattle.vc_image_check.proofs.lists.list.is_sound_list.Goals as goal

pub loop-left-init : goal.loop-left-init
loop-left-init g c = walking-start (g.N.Holders.blocks c.args.nodes.now) c.args.count c.args.first c.args.last

pub returns-in-None : goal.returns-in-None
returns-in-None g c = (
  λ yes. absurd (true≢false (sym yes)),
  λ h. absurd (walking-not (g.N.Holders.blocks c.args.nodes.now) c.args.count c.args.first c.args.last c.loop-left.before c.loop-left.at c.loop-left.left (c.loop-left.left - 1)
      (omega (arith, c.loop-left-test.true)) c.in-None.ensures.none c.loop-left.invariant h),
)

pub loop-left-preserved : goal.loop-left-preserved
loop-left-preserved g c =
    walking-next (g.N.Holders.blocks c.args.nodes.now) c.args.count c.args.first c.args.last c.loop-left.before c.loop-left.at c.loop-left.left (c.loop-left.left - 1) c.in-Some.next
    (omega (arith, c.loop-left-test.true)) c.in-Some.ensures.some.0 c.in-Some.ensures.some.1 c.loop-left.invariant

pub returns-then-at-eq0 : goal.returns-then-at-eq0
returns-then-at-eq0 g c =
    let w = walking-end (g.N.Holders.blocks c.args.nodes.now) c.args.count c.args.first c.args.last c.loop-left.before c.loop-left.at c.loop-left.left (omega (arith, c.loop-left-test.false)) c.loop-left.invariant in (
      λ yes. w.1 c.if-at-eq0.true (eqb-true c.loop-left.before c.args.last.0 yes),
      λ h. eq-eqb c.loop-left.before c.args.last.0 (w.0 h).1,
    )

pub returns-else-at-eq0 : goal.returns-else-at-eq0
returns-else-at-eq0 g c = (
  λ yes. absurd (c.if-at-eq0.false (eqb-true c.loop-left.at 0 yes)),
  λ h. absurd (c.if-at-eq0.false
      ((walking-end (g.N.Holders.blocks c.args.nodes.now) c.args.count c.args.first c.args.last c.loop-left.before c.loop-left.at c.loop-left.left (omega (arith, c.loop-left-test.false)) c.loop-left.invariant).0 h).0),
)
