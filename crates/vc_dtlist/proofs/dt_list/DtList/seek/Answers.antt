use Rattle.vc_base.proofs.Common.{sym, ◌∙◌, arith, eqb-true, eqb-false}
use Rattle.vc_dtlist.specs.Sought.{stands_so}
use Rattle.vc_dtlist.proofs.FindLemmas.{Seeks-all_passed, Seeks-none, Seeks-some, test-is, walk_next, walk_on, walk_start}
use Rattle.vc_dtlist.proofs.dt_list.DtList.seek.Goals as goal

pub loop-passed-init : goal.loop-passed-init
loop-passed-init g c = λ holders s. walk_start _ c.args.self.now (g.C.Cells.blocks c.args.cells.now) holders c.args.steps.now s

pub returns-then-eq : goal.returns-then-eq
returns-then-eq g c = λ holders s.
    Seeks-none (stands_so c.args.sought (g.D.DictDisc.rules c.args.kind.now) (g.C.Cells.blocks c.args.cells.now) c.args.key.now) c.args.self.now (g.C.Cells.blocks c.args.cells.now) holders
    c.loop-passed._passed c.loop-passed.at.0 c.args.steps.now c.loop-passed.steps s (c.loop-passed.invariant holders s)
    (eqb-true c.loop-passed.at.0 0 (sym c.eq.ensures ∙ c.if-eq.true))

pub body-requires : goal.body-requires
body-requires g c =
    let some = eqb-false c.loop-passed.at.0 0 (sym c.eq.ensures ∙ c.if-eq.false) in
    (walk_next (stands_so c.args.sought (g.D.DictDisc.rules c.args.kind.now) (g.C.Cells.blocks c.args.cells.now) c.args.key.now) c.args.self.now (g.C.Cells.blocks c.args.cells.now)
    c.requires.holders c.loop-passed._passed c.loop-passed.at.0 c.args.steps.now c.loop-passed.steps c.requires.stands (c.loop-passed.invariant c.requires.holders c.requires.stands) some).words

pub returns-then-is_in : goal.returns-then-is_in
returns-then-is_in g c = λ holders s.
    let rules = g.D.DictDisc.rules c.args.kind.now in
    let b = g.C.Cells.blocks c.args.cells.now in
    let test = test-is c.args.sought rules b c.args.key.now c.loop-passed.at.0 c.body.result.now c.key.result.now c.compare.result c.is_in.result c.body.ensures c.key.ensures c.compare.ensures.value c.is_in.ensures in
    Seeks-some (stands_so c.args.sought rules b c.args.key.now) c.args.self.now b holders c.loop-passed._passed c.args.steps.now c.loop-passed.steps c.compare.new.steps c.loop-passed.at
    s (c.loop-passed.invariant holders s) (eqb-false c.loop-passed.at.0 0 (sym c.eq.ensures ∙ c.if-eq.false)) (test ∙ c.if-is_in.true) c.compare.ensures.step

pub neighbour-at-requires-clause-holder : goal.neighbour-at-requires-clause-holder
neighbour-at-requires-clause-holder g c =
    let some = eqb-false c.loop-passed.at.0 0 (sym c.eq.ensures ∙ c.if-eq.false) in
    (walk_next (stands_so c.args.sought (g.D.DictDisc.rules c.args.kind.now) (g.C.Cells.blocks c.args.cells.now) c.args.key.now) c.args.self.now (g.C.Cells.blocks c.args.cells.now)
    c.requires.holders c.loop-passed._passed c.loop-passed.at.0 c.args.steps.now c.loop-passed.steps c.requires.stands (c.loop-passed.invariant c.requires.holders c.requires.stands) some).words

pub neighbour-at-requires-clause-fits : goal.neighbour-at-requires-clause-fits
neighbour-at-requires-clause-fits g c =
    let some = eqb-false c.loop-passed.at.0 0 (sym c.eq.ensures ∙ c.if-eq.false) in
    (walk_next (stands_so c.args.sought (g.D.DictDisc.rules c.args.kind.now) (g.C.Cells.blocks c.args.cells.now) c.args.key.now) c.args.self.now (g.C.Cells.blocks c.args.cells.now)
    c.requires.holders c.loop-passed._passed c.loop-passed.at.0 c.args.steps.now c.loop-passed.steps c.requires.stands (c.loop-passed.invariant c.requires.holders c.requires.stands) some).fits

pub loop-passed-preserved : goal.loop-passed-preserved
loop-passed-preserved g c = λ holders s.
    let rules = g.D.DictDisc.rules c.args.kind.now in
    let b = g.C.Cells.blocks c.args.cells.now in
    let test = test-is c.args.sought rules b c.args.key.now c.loop-passed.at.0 c.body.result.now c.key.result.now c.compare.result c.is_in.result c.body.ensures c.key.ensures c.compare.ensures.value c.is_in.ensures in
    walk_on (stands_so c.args.sought rules b c.args.key.now) c.args.self.now b holders c.loop-passed._passed c.loop-passed.at.0 c.neighbour-at.result.0 c.args.steps.now c.loop-passed.steps c.compare.new.steps
    s (c.loop-passed.invariant holders s) (eqb-false c.loop-passed.at.0 0 (sym c.eq.ensures ∙ c.if-eq.false)) (test ∙ c.if-is_in.false) c.neighbour-at.ensures c.compare.ensures.step

pub returns : goal.returns
returns g c = λ holders s.
    Seeks-all_passed (stands_so c.args.sought (g.D.DictDisc.rules c.args.kind.now) (g.C.Cells.blocks c.args.cells.now) c.args.key.now) c.args.self.now (g.C.Cells.blocks c.args.cells.now) holders
    c.loop-passed._passed c.loop-passed.at.0 c.args.steps.now c.loop-passed.steps s (c.loop-passed.invariant holders s) (omega arith)
