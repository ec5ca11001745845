use Rattle.vc_splay.proofs.SplayLemmas.{climb_end, climb_less, climb_on, climb_start}
use Rattle.vc_splay.proofs.rising.climb.Goals as goal

pub loop-hand-init : goal.loop-hand-init
loop-hand-init g c = record {
  rest = g.met.N.Nodes.reflexive c.args.nodes.now;
  climb = λ context t r. climb_start (g.N.Nodes.store c.args.nodes.now) c.args.at c.args.from.below c.args.from.above c.args.from.left c.args.from.right context t r;
}

pub step-hand-requires : goal.step-hand-requires
step-hand-requires g c =
    let k = c.loop-hand.invariant.climb c.requires.context c.requires.tree c.requires.rising in
    record { can_rise = record { context = k.context; tree = k.part; rising = k.rising }; some = c.loop-hand-test.true }

pub loop-hand-preserved : goal.loop-hand-preserved
loop-hand-preserved g c = record {
  rest = g.met.N.Nodes.transitive c.args.nodes.now c.loop-hand.nodes c.step-hand.new.nodes c.loop-hand.invariant.rest c.step-hand.ensures.rest;
  climb = λ context t r.
      let k = c.loop-hand.invariant.climb context t r in
      climb_on (g.N.Nodes.store c.args.nodes.now) (g.N.Nodes.store c.loop-hand.nodes) (g.N.Nodes.store c.step-hand.new.nodes) _ _ _ _ _ _ _ _ _ _ _ k (c.step-hand.ensures.step k.context k.part k.rising);
}

pub loop-hand-smaller : goal.loop-hand-smaller
loop-hand-smaller g c =
    let k = c.loop-hand.invariant.climb c.requires.context c.requires.tree c.requires.rising in
    climb_less (g.N.Nodes.store c.args.nodes.now) (g.N.Nodes.store c.loop-hand.nodes) (g.N.Nodes.store c.step-hand.new.nodes) _ _ _ _ _ _ _ _ _ _ _ k
    (g.met.N.Nodes.none c.loop-hand.nodes) (g.met.N.Nodes.fits c.loop-hand.nodes) (g.met.N.Nodes.names c.loop-hand.nodes c.step-hand.new.nodes c.step-hand.ensures.rest) (c.step-hand.ensures.step k.context k.part k.rising)

pub returns-clause-top : goal.returns-clause-top
returns-clause-top g c = λ context t r.
    let h = c.loop-hand.hand in
    climb_end (g.N.Nodes.store c.args.nodes.now) (g.N.Nodes.store c.loop-hand.nodes) c.args.at h.below h.above h.left h.right _ _
    (g.met.N.Nodes.none c.loop-hand.nodes) c.loop-hand-test.false (c.loop-hand.invariant.climb context t r)
