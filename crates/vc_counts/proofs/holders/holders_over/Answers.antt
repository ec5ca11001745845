use Rattle.vc_base.proofs.Common.{arith, Blocks}
use Rattle.vc_dict.specs.Listed.{holders_of}
use Rattle.vc_counts.proofs.HolderWalk.{few-bytes, holder-bytes, is-in, more-left, passed, sum-fits}
use Rattle.vc_counts.proofs.holders.holders_over.Goals as goal

pub unreachable-requires : goal.unreachable-requires
unreachable-requires g c =
    more-left c.requires.rules c.args.dict.now (g.C.Cells.blocks c.args.cells.now) c.requires.whole c.loop.counter c.loop.next c.loop.bytes c.loop.invariant c.loop-test.true c.in_default.is

pub body-requires : goal.body-requires
body-requires g c =
    holder-bytes c.requires.rules c.args.dict.now (g.C.Cells.blocks c.args.cells.now) c.requires.whole c.loop.counter c.loop.next c.loop.bytes c.loop.invariant c.in-Some.holder c.in-Some.is c.loop-test.true

pub overflow_add-bytes-in-loop : goal.overflow_add-bytes-in-loop
overflow_add-bytes-in-loop g c =
    let fits =
    sum-fits c.requires.rules c.args.dict.now (g.C.Cells.blocks c.args.cells.now) c.requires.whole c.loop.counter c.loop.next c.loop.bytes c.loop.invariant c.in-Some.holder c.in-Some.is c.loop-test.true
    c.body.result.now c.body.ensures in
    omega (arith, fits)

pub next-next-requires : goal.next-next-requires
next-next-requires g c =
    is-in c.requires.rules c.args.dict.now (g.C.Cells.blocks c.args.cells.now) c.requires.whole c.loop.counter c.loop.next c.loop.bytes c.loop.invariant c.in-Some.holder c.in-Some.is c.loop-test.true

pub loop-preserved : goal.loop-preserved
loop-preserved g c =
    let b : Blocks = g.C.Cells.blocks c.args.cells.now in
    passed c.requires.rules c.args.dict.now b c.requires.whole c.loop.counter c.loop.next c.loop.bytes c.loop.invariant c.in-Some.holder c.in-Some.is c.loop-test.true
    c.body.result.now c.body.ensures c.next-next.result (c.next-next.ensures c.requires.rules (holders_of c.args.dict.now b) c.requires.whole.stands)

pub returns-clause-few : goal.returns-clause-few
returns-clause-few g c =
    few-bytes c.requires.rules c.args.dict.now (g.C.Cells.blocks c.args.cells.now) c.requires.whole c.loop.counter c.loop.next c.loop.bytes c.loop.invariant c.loop.auto.counter-end
