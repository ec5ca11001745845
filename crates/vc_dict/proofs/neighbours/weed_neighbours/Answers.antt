use Rattle.vc_base.proofs.Common.{◌≡◌, length, ap, ◌∙◌, subst, arith}
use Rattle.vc_dtlist.proofs.TurnLemmas.{StandsFor-unique}
use Rattle.vc_dtord.specs.Ordered.{IsSorted}
use Rattle.vc_dict.proofs.NeighbourLemmas.{NeighbourWeeding-end, NeighbourWeeding-start}
use Rattle.vc_dict.proofs.neighbours.weed_neighbours.Goals as goal

pub loop-passed-init : goal.loop-passed-init
loop-passed-init g c =
    let rules = g.D.DictDisc.rules c.args.kind.now in
    let b = g.C.Cells.blocks c.args.cells.now in record {
      weeding = λ holders s.
          NeighbourWeeding-start rules c.args.list c.new.result c.new-2.result b holders s
          (subst (λ z. IsSorted rules b z) (StandsFor-unique c.args.list b c.requires.holders holders c.requires.stands s) c.requires.sorted) (c.new.ensures b) (c.new-2.ensures b);
      steps = omega arith;
      rest = g.met.C.Cells.reflexive c.args.cells.now;
    }

pub loop-passed-preserved : goal.loop-passed-preserved
loop-passed-preserved g c =
    let b = g.C.Cells.blocks c.args.cells.now in
    let r = c.requires in record {
      weeding = λ holders s.
          let long : c.args.count ≡ length holders = r.length ∙ ap length (StandsFor-unique c.args.list b r.holders holders r.stands s) in
          c.weed_one.ensures.weeding.change b holders c.loop-passed._passed (omega (arith, c.loop-passed-test.true, long)) (c.loop-passed.invariant.weeding holders s);
      steps = omega (arith, c.loop-passed.invariant.steps, c.weed_one.ensures.steps);
      rest = g.met.C.Cells.transitive c.args.cells.now c.loop-passed.cells c.weed_one.new.cells c.loop-passed.invariant.rest c.weed_one.ensures.weeding.rest;
    }

pub weed_one-requires : goal.weed_one-requires
weed_one-requires g c =
    record {
      start = g.C.Cells.blocks c.args.cells.now;
      holders = c.requires.holders;
      passed = c.loop-passed._passed;
      weeding = c.loop-passed.invariant.weeding c.requires.holders c.requires.stands;
      more = omega (arith, c.loop-passed-test.true, c.requires.length);
    }

pub returns-clause-weeded : goal.returns-clause-weeded
returns-clause-weeded g c = record {
  change = λ holders s.
      let b = g.C.Cells.blocks c.args.cells.now in
      let r = c.requires in
      let long : c.args.count ≡ length holders = r.length ∙ ap length (StandsFor-unique c.args.list b r.holders holders r.stands s) in
      NeighbourWeeding-end (g.D.DictDisc.rules c.args.kind.now) b holders c.loop-passed._passed c.loop-passed.left c.loop-passed.weeded (g.C.Cells.blocks c.loop-passed.cells)
      (c.loop-passed.invariant.weeding holders s) (omega (arith, c.loop-passed-test.false, long));
  rest = c.loop-passed.invariant.rest;
}
