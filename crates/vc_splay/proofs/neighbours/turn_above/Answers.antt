use Rattle.vc_base.proofs.Common.{sym, ◌∙◌, subst}
use Rattle.vc_splay.proofs.WalkLemmas.{Ascent, ascent_end, ascent_next, ascent_start, top_held}
use Rattle.vc_splay.proofs.neighbours.turn_above.Goals as goal

pub up-above-requires : goal.up-above-requires
up-above-requires g c = top_held (g.N.Links.store c.args.nodes.now) c.args.top c.requires.part c.requires.some

pub loop-above-init : goal.loop-above-init
loop-above-init g c = λ context tree p e.
    ascent_start (g.N.Links.store c.args.nodes.now) c.args.side context tree c.args.top c.up-above.result (g.met.N.Links.none c.args.nodes.now) c.requires.some p e c.up-above.ensures

pub kid-requires : goal.kid-requires
kid-requires g c =
    (ascent_next (g.N.Links.store c.args.nodes.now) c.args.side c.requires.part.context c.loop-above.below c.loop-above.above (g.met.N.Links.none c.args.nodes.now) (g.met.N.Links.fits c.args.nodes.now) (c.loop-above.invariant c.requires.part.context c.requires.part.tree c.requires.part.part c.requires.part.top) c.loop-above-test.true).held

pub returns-then-kid-below : goal.returns-then-kid-below
returns-then-kid-below g c = λ context tree p e.
    (ascent_next (g.N.Links.store c.args.nodes.now) c.args.side context c.loop-above.below c.loop-above.above (g.met.N.Links.none c.args.nodes.now) (g.met.N.Links.fits c.args.nodes.now) (c.loop-above.invariant context tree p e) c.loop-above-test.true).there
    (λ z. c.if-kid-below.true (c.kid.ensures ∙ z))

pub up-above-requires-in-loop-above : goal.up-above-requires-in-loop-above
up-above-requires-in-loop-above g c =
    (ascent_next (g.N.Links.store c.args.nodes.now) c.args.side c.requires.part.context c.loop-above.below c.loop-above.above (g.met.N.Links.none c.args.nodes.now) (g.met.N.Links.fits c.args.nodes.now) (c.loop-above.invariant c.requires.part.context c.requires.part.tree c.requires.part.part c.requires.part.top) c.loop-above-test.true).held

pub loop-above-preserved : goal.loop-above-preserved
loop-above-preserved g c = λ context tree p e.
    let s = g.N.Links.store c.args.nodes.now in
    subst (λ z. Ascent s c.args.side context c.loop-above.above z) (sym c.up-above-in-loop-above.ensures)
    ((ascent_next s c.args.side context c.loop-above.below c.loop-above.above (g.met.N.Links.none c.args.nodes.now) (g.met.N.Links.fits c.args.nodes.now) (c.loop-above.invariant context tree p e) c.loop-above-test.true).on
    (sym c.kid.ensures ∙ c.if-kid-below.false))

pub loop-above-smaller : goal.loop-above-smaller
loop-above-smaller g c =
    let s = g.N.Links.store c.args.nodes.now in
    rw c.up-above-in-loop-above.ensures
    (ascent_next s c.args.side c.requires.part.context c.loop-above.below c.loop-above.above (g.met.N.Links.none c.args.nodes.now) (g.met.N.Links.fits c.args.nodes.now) (c.loop-above.invariant c.requires.part.context c.requires.part.tree c.requires.part.part c.requires.part.top) c.loop-above-test.true).less

pub returns : goal.returns
returns g c = λ context tree p e.
    ascent_end (g.N.Links.store c.args.nodes.now) c.args.side context c.loop-above.below c.loop-above.above (g.met.N.Links.none c.args.nodes.now) (c.loop-above.invariant context tree p e) c.loop-above-test.false
