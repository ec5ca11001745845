use Rattle.vc_base.proofs.Common.{◌++◌, sym, ◌∙◌, eqb-true, eqb-false, word_at}
use Rattle.vc_dthash.proofs.ChainLemmas.{Leads-fits}
use Rattle.vc_dthash.proofs.WalkLemmas.{Passing-further, Passing-met, Passing-over, Passing-start}
use Rattle.vc_dthash.proofs.chains.seek_before.Goals as goal

pub head-at-requires-clause-place : goal.head-at-requires-clause-place
head-at-requires-clause-place g c = c.requires.place.chain.place

pub head-at-requires-clause-fits : goal.head-at-requires-clause-fits
head-at-requires-clause-fits g c =
    let b = g.C.Cells.blocks c.args.cells.now in
    let chain = c.requires.place.chain in
    Leads-fits b (word_at b c.args.table.0 c.args.k) (c.requires.front ++ c.requires.rest) chain.addresses chain.leads

pub loop-passed-init : goal.loop-passed-init
loop-passed-init g c = λ front rest p.
    Passing-start (g.C.Cells.blocks c.args.cells.now) c.args.table.0 c.args.k c.args.count c.args.stop.0 front rest c.head-at.result.0 p c.head-at.ensures

pub returns-then-eq : goal.returns-then-eq
returns-then-eq g c = λ front rest p.
    Passing-met (g.C.Cells.blocks c.args.cells.now) c.args.table.0 c.args.k c.args.count c.args.stop.0 front rest c.loop-passed._passed c.loop-passed.at.0 c.loop-passed.behind.0
    p (c.loop-passed.invariant front rest p) (eqb-true c.loop-passed.at.0 c.args.stop.0 (sym c.eq.ensures ∙ c.if-eq.true))

pub neighbour-at-requires-clause-holder : goal.neighbour-at-requires-clause-holder
neighbour-at-requires-clause-holder g c =
    let r = c.requires in
    (Passing-further (g.C.Cells.blocks c.args.cells.now) c.args.table.0 c.args.k c.args.count c.args.stop.0 r.front r.rest c.loop-passed._passed c.loop-passed.at.0 c.loop-passed.behind.0
    r.place (c.loop-passed.invariant r.front r.rest r.place) (eqb-false c.loop-passed.at.0 c.args.stop.0 (sym c.eq.ensures ∙ c.if-eq.false))).words

pub neighbour-at-requires-clause-fits : goal.neighbour-at-requires-clause-fits
neighbour-at-requires-clause-fits g c =
    let r = c.requires in
    (Passing-further (g.C.Cells.blocks c.args.cells.now) c.args.table.0 c.args.k c.args.count c.args.stop.0 r.front r.rest c.loop-passed._passed c.loop-passed.at.0 c.loop-passed.behind.0
    r.place (c.loop-passed.invariant r.front r.rest r.place) (eqb-false c.loop-passed.at.0 c.args.stop.0 (sym c.eq.ensures ∙ c.if-eq.false))).fits

pub loop-passed-preserved : goal.loop-passed-preserved
loop-passed-preserved g c = λ front rest p.
    (Passing-further (g.C.Cells.blocks c.args.cells.now) c.args.table.0 c.args.k c.args.count c.args.stop.0 front rest c.loop-passed._passed c.loop-passed.at.0 c.loop-passed.behind.0
    p (c.loop-passed.invariant front rest p) (eqb-false c.loop-passed.at.0 c.args.stop.0 (sym c.eq.ensures ∙ c.if-eq.false))).next c.neighbour-at.result.0 c.neighbour-at.ensures

pub returns : goal.returns
returns g c = λ front rest p.
    Passing-over (g.C.Cells.blocks c.args.cells.now) c.args.table.0 c.args.k c.args.count c.args.stop.0 front rest c.loop-passed._passed c.loop-passed.at.0 c.loop-passed.behind.0
    p (c.loop-passed.invariant front rest p) c.loop-passed-test.false
