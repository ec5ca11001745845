use Rattle.vc_base.proofs.Common.{sym, ◌∙◌}
use Rattle.vc_splay.proofs.CaseLemmas.{Read, double_other, double_same, single, turned}
use Rattle.vc_splay.proofs.rising.step.Given.{Over}
use Rattle.vc_splay.proofs.rising.step.Goals as goal
use Rattle.vc_splay.proofs.rising.step.Goals.{After-up-next}

-- what was read on both sides of the one above
read : (g : Over) (c : After-up-next g) → Read (g.N.Nodes.store c.args.nodes.now) c.args.hand.below c.args.hand.above c.up-top.result c.up-next.result c.side_of-side.result c.side_of-outer.result
read g c = record {
  some = c.requires.some;
  side_is = c.side_of-side.ensures;
  top_is = c.up-top.ensures;
  top_some = c.if-top-eq0.false;
  outer_is = c.side_of-outer.ensures;
  next_is = c.up-next.ensures;
}

pub hang-requires : goal.hang-requires
hang-requires g c =
    (single (g.N.Nodes.store c.args.nodes.now) c.args.at _ _ _ _ _ _ _ _ c.requires.can_rise.context c.requires.can_rise.tree _ (g.met.N.Nodes.none c.args.nodes.now) c.requires.some c.turned-near.ensures (turned c.side_of-side.result c.turned-near.result.0 c.args.hand.above) c.requires.can_rise.rising
    c.side_of-side.ensures (sym c.up-top.ensures ∙ c.if-top-eq0.true)).can

pub returns-then-top-eq0-clause-step : goal.returns-then-top-eq0-clause-step
returns-then-top-eq0-clause-step g c = λ context tree r.
    rw (c.hang.ensures.store, c.risen.ensures.below, c.risen.ensures.above)
    (single (g.N.Nodes.store c.args.nodes.now) c.args.at _ _ _ _ _ _ _ _ context tree _ (g.met.N.Nodes.none c.args.nodes.now) c.requires.some c.turned-near.ensures c.risen.ensures.hand r
    c.side_of-side.ensures (sym c.up-top.ensures ∙ c.if-top-eq0.true)).step

pub zig_zig-requires : goal.zig_zig-requires
zig_zig-requires g c =
    (double_same (g.N.Nodes.store c.args.nodes.now) c.args.at _ _ _ _ _ _ _ _ c.requires.can_rise.context c.requires.can_rise.tree _ _ _ _ (g.met.N.Nodes.none c.args.nodes.now) (read g (goal.at.zig_zig-requires g c).After-up-next) c.if-outer-side.true c.turned-near.ensures (turned c.side_of-side.result c.turned-near.result.0 c.args.hand.above) c.requires.can_rise.rising).can

pub returns-then-outer-side-clause-step : goal.returns-then-outer-side-clause-step
returns-then-outer-side-clause-step g c = λ context tree r.
    rw (c.zig_zig.ensures.store, c.risen-then-outer-side.ensures.below, c.risen-then-outer-side.ensures.above)
    (double_same (g.N.Nodes.store c.args.nodes.now) c.args.at _ _ _ _ _ _ _ _ context tree _ _ _ _ (g.met.N.Nodes.none c.args.nodes.now) (read g (goal.at.returns-then-outer-side-clause-step g c).After-up-next) c.if-outer-side.true c.turned-near.ensures c.risen-then-outer-side.ensures.hand r).step

pub zig_zag-requires : goal.zig_zag-requires
zig_zag-requires g c =
    (double_other (g.N.Nodes.store c.args.nodes.now) c.args.at _ _ _ _ _ _ _ _ c.requires.can_rise.context c.requires.can_rise.tree _ _ _ _ (g.met.N.Nodes.none c.args.nodes.now) (read g (goal.at.zig_zag-requires g c).After-up-next) c.if-outer-side.false c.turned-near.ensures (turned c.side_of-side.result c.up-top.result c.args.hand.above) c.requires.can_rise.rising).can

pub returns-clause-step : goal.returns-clause-step
returns-clause-step g c = λ context tree r.
    rw (c.zig_zag.ensures.store, c.risen-2.ensures.below, c.risen-2.ensures.above)
    (double_other (g.N.Nodes.store c.args.nodes.now) c.args.at _ _ _ _ _ _ _ _ context tree _ _ _ _ (g.met.N.Nodes.none c.args.nodes.now) (read g (goal.at.returns-clause-step g c).After-up-next) c.if-outer-side.false c.turned-near.ensures c.risen-2.ensures.hand r).step
