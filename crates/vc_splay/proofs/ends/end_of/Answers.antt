use Rattle.vc_base.proofs.Common.{sym, subst}
use Rattle.vc_splay.proofs.WalkLemmas.{Descent, descent_end, descent_next, descent_start, part_fits}
use Rattle.vc_splay.proofs.ends.end_of.Goals as goal

pub loop-next-init : goal.loop-next-init
loop-next-init g c = λ context tree p e. descent_start (g.N.Links.store c.args.nodes.now) c.args.side context tree c.args.top p e

pub kid-next-requires : goal.kid-next-requires
kid-next-requires g c =
    let s = g.N.Links.store c.args.nodes.now in
    (descent_next s c.args.side c.args.top c.loop-next.at c.loop-next.next c.requires.tree (g.met.N.Links.none c.args.nodes.now) (c.loop-next.invariant c.requires.context c.requires.tree c.requires.part c.requires.top) c.loop-next-test.true).held

pub loop-next-preserved : goal.loop-next-preserved
loop-next-preserved g c = λ context tree p e.
    let s = g.N.Links.store c.args.nodes.now in
    subst (λ z. Descent s c.args.side c.args.top c.loop-next.next z tree) (sym c.kid-next.ensures)
    (descent_next s c.args.side c.args.top c.loop-next.at c.loop-next.next tree (g.met.N.Links.none c.args.nodes.now) (c.loop-next.invariant context tree p e) c.loop-next-test.true).on

pub loop-next-smaller : goal.loop-next-smaller
loop-next-smaller g c =
    let s = g.N.Links.store c.args.nodes.now in
    rw c.kid-next.ensures
    ((descent_next s c.args.side c.args.top c.loop-next.at c.loop-next.next c.requires.tree (g.met.N.Links.none c.args.nodes.now) (c.loop-next.invariant c.requires.context c.requires.tree c.requires.part c.requires.top) c.loop-next-test.true).less
    (part_fits s c.requires.context c.requires.tree (g.met.N.Links.fits c.args.nodes.now) c.requires.part))

pub returns : goal.returns
returns g c = λ context tree p e.
    descent_end (g.N.Links.store c.args.nodes.now) c.args.side c.args.top c.loop-next.at c.loop-next.next tree (g.met.N.Links.none c.args.nodes.now) (c.loop-next.invariant context tree p e) c.loop-next-test.false
