use Rattle.vc_base.proofs.Common.{◌+◌, drop, subst, arith}
use Rattle.vc_cost.proofs.RunLemmas.{AreLeft, CanRun, came-one, can_call, found-one, left_cost, left_next, left_turned, next-left}
use Rattle.vc_cost.proofs.running.run_ord.Goals as goal

pub make_call-made-requires : goal.make_call-made-requires
make_call-made-requires g c =
    let items = c.as_slice-call-items.result.now in
    let i = c.loop-call.call-index in
    let call = c.call-item.result in
    let b = g.C.Cells.blocks c.loop-call.cells in
    let h = c.loop-call.invariant.left in
    record {
      holders = h.holders;
      stands = h.stands;
      can = can_call b call (drop (i + 1) items) h.holders (subst (λ z. CanRun b z h.holders) (next-left items i call c.loop-call-test.true c.call-item.is) h.can);
    }

pub loop-call-preserved : goal.loop-call-preserved
loop-call-preserved g c =
    let rules = g.D.DictDisc.rules c.args.kind.now in
    let items = c.as_slice-call-items.result.now in
    let i = c.loop-call.call-index in
    let call = c.call-item.result in
    let made = c.make_call-made.result in
    let first = c.args.ord.now in
    let before = g.C.Cells.blocks c.args.cells.now in
    let ord = c.loop-call.ord in
    let b = g.C.Cells.blocks c.loop-call.cells in
    let t = c.loop-call.tally in
    let u = c.note.new.self in
    let h = subst (λ z. AreLeft rules items z first before c.args.steps.now ord b c.loop-call.steps t.count t.greatest t.found) (next-left items i call c.loop-call-test.true c.call-item.is) c.loop-call.invariant.left in
    record {
      left =
          left_next rules items call (drop (i + 1) items) first before c.args.steps.now ord c.make_call-made.new.ord b (g.C.Cells.blocks c.make_call-made.new.cells)
          c.loop-call.steps c.make_call-made.new.steps t.count t.greatest t.found u.count u.greatest u.found made h
          (c.make_call-made.ensures.change h.holders h.stands) c.note.ensures.count c.note.ensures.greatest c.note.ensures.found;
      rest = g.met.C.Cells.transitive _ _ _ c.loop-call.invariant.rest c.make_call-made.ensures.rest;
      few = omega (arith, c.loop-call.invariant.few, c.note.ensures.count, came-one made);
      few_found = omega (arith, c.loop-call.invariant.few_found, c.note.ensures.found, found-one made);
    }

pub returns-clause-list : goal.returns-clause-list
returns-clause-list g c =
    let rules = g.D.DictDisc.rules c.args.kind.now in
    let items = c.as_slice-call-items.result.now in
    let t = c.loop-call.tally in
    record {
      change = left_turned rules items c.args.calls.now c.loop-call.call-index c.args.ord.now (g.C.Cells.blocks c.args.cells.now) c.args.steps.now c.loop-call.ord (g.C.Cells.blocks c.loop-call.cells) c.loop-call.steps t.count t.greatest t.found c.as_slice-call-items.ensures c.loop-call-test.false c.loop-call.invariant.left;
      rest = c.loop-call.invariant.rest;
    }

pub returns-clause-cost : goal.returns-clause-cost
returns-clause-cost g c =
    let rules = g.D.DictDisc.rules c.args.kind.now in
    let items = c.as_slice-call-items.result.now in
    let t = c.loop-call.tally in
    left_cost rules items c.args.calls.now c.loop-call.call-index c.args.ord.now (g.C.Cells.blocks c.args.cells.now) c.args.steps.now c.loop-call.ord (g.C.Cells.blocks c.loop-call.cells) c.loop-call.steps t.count t.greatest t.found c.as_slice-call-items.ensures c.loop-call-test.false c.loop-call.invariant.left c.requires.empty
