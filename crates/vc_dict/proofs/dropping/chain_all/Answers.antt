use Rattle.vc_dict.proofs.SettledLemmas.{settled-chains}
use Rattle.vc_dict.proofs.dropping.chain_all.Goals as goal

pub returns : goal.returns
returns g c = record {
  change = λ holders s.
      let b' = g.C.Cells.blocks c.chain_up.new.cells in
      settled-chains (g.D.DictDisc.rules c.args.kind.now) c.args.hash holders (g.C.Cells.blocks c.args.cells.now) b' c.new.result (c.chain_up.ensures.change holders s) (c.new.ensures b');
  rest = c.chain_up.ensures.rest;
}
