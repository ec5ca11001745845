use Rattle.vc_base.proofs.Common.{◌≡◌, [], length, refl, ap, ◌∙◌, arith}
use Rattle.vc_dtlist.proofs.TurnLemmas.{StandsFor-unique}
use Rattle.vc_dthash.specs.Hashed.{list_of}
use Rattle.vc_dict.proofs.ChainedLemmas.{ChainWeeding-end, ChainWeeding-start, few-compares, no-chains, none-stand}
use Rattle.vc_dict.proofs.chained.weed_chains.Goals as goal

pub chain_up-requires : goal.chain_up-requires
chain_up-requires g c = no-chains c.args.hash _ (g.C.Cells.blocks c.args.cells.now) c.requires refl refl refl refl refl

pub loop-passed-init : goal.loop-passed-init
loop-passed-init g c =
    let b1 = g.C.Cells.blocks c.chain_up.new.cells in
    record {
      weeding = λ holders s.
          ChainWeeding-start (g.D.DictDisc.rules c.args.kind.now) c.args.hash _ c.new-dropped.result (g.C.Cells.blocks c.args.cells.now) b1 holders c.args.steps.now c.requires s refl refl
          (c.chain_up.ensures.change [] (none-stand _ (g.C.Cells.blocks c.args.cells.now) refl refl)) (c.new-dropped.ensures b1);
      rest = c.chain_up.ensures.rest;
    }

pub loop-passed-preserved : goal.loop-passed-preserved
loop-passed-preserved g c =
    let b = g.C.Cells.blocks c.args.cells.now in
    let r = c.requires in record {
      weeding = λ holders s.
          let long : c.args.hash.count ≡ length holders = r.count ∙ ap length (StandsFor-unique (list_of c.args.hash) b r.holders holders r.stands s) in
          c.weed_one.ensures.change c.args.hash b holders c.loop-passed._passed c.args.steps.now (omega (arith, c.loop-passed-test.true, long)) (c.loop-passed.invariant.weeding holders s);
      rest = g.met.C.Cells.transitive c.args.cells.now c.loop-passed.cells c.weed_one.new.cells c.loop-passed.invariant.rest c.weed_one.ensures.rest;
    }

pub weed_one-requires : goal.weed_one-requires
weed_one-requires g c =
    record {
      hash = c.args.hash;
      start = g.C.Cells.blocks c.args.cells.now;
      holders = c.requires.holders;
      passed = c.loop-passed._passed;
      begun = c.args.steps.now;
      steps = c.loop-passed.steps;
      weeding = c.loop-passed.invariant.weeding c.requires.holders c.requires.stands;
      more = omega (arith, c.loop-passed-test.true, c.requires.count);
    }

pub returns-clause-weeded : goal.returns-clause-weeded
returns-clause-weeded g c = record {
  change = λ holders s.
      let b = g.C.Cells.blocks c.args.cells.now in
      let r = c.requires in
      let long : c.args.hash.count ≡ length holders = r.count ∙ ap length (StandsFor-unique (list_of c.args.hash) b r.holders holders r.stands s) in
      ChainWeeding-end (g.D.DictDisc.rules c.args.kind.now) c.args.hash b holders c.loop-passed._passed c.loop-passed.left c.loop-passed.kept c.loop-passed.dropped (g.C.Cells.blocks c.loop-passed.cells)
      c.args.steps.now c.loop-passed.steps (c.loop-passed.invariant.weeding holders s) (omega (arith, c.loop-passed-test.false, long));
  rest = c.loop-passed.invariant.rest;
}

pub returns-clause-compares : goal.returns-clause-compares
returns-clause-compares g c = λ holders s.
    few-compares (g.D.DictDisc.rules c.args.kind.now) c.args.hash (g.C.Cells.blocks c.args.cells.now) holders c.loop-passed._passed c.loop-passed.left c.loop-passed.kept c.loop-passed.dropped (g.C.Cells.blocks c.loop-passed.cells)
    c.args.steps.now c.loop-passed.steps (c.loop-passed.invariant.weeding holders s)
