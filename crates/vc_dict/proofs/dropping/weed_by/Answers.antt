use Rattle.vc_base.proofs.Common.{true, false, [], length, sym, ap, ◌∙◌}
use Rattle.vc_dtlist.proofs.TurnLemmas.{StandsFor-unique}
use Rattle.vc_dthash.specs.Hashed.{list_of}
use Rattle.vc_dict.specs.Orders.{dropped_holders, kept_holders}
use Rattle.vc_dict.proofs.SettledLemmas.{ordered_set, settled-by, settled-list, settled-whole}
use Rattle.vc_dict.proofs.dropping.weed_by.Goals as goal

pub weed_chains-requires : goal.weed_chains-requires
weed_chains-requires g c = c.requires.chains (sym c.has_table.ensures ∙ c.if-has_table.true)

pub returns-then-is_set : goal.returns-then-is_set
returns-then-is_set g c = record {
  change = λ holders s.
      settled-by true true (g.D.DictDisc.rules c.args.kind.now) c.args.method c.args.hash holders (g.C.Cells.blocks c.args.cells.now) c.weed_chains.result (g.C.Cells.blocks c.weed_chains.new.cells)
      (sym c.has_table.ensures ∙ c.if-has_table.true) (sym c.is_set.ensures ∙ c.if-is_set.true) (c.weed_chains.ensures.weeded.change holders s);
  rest = c.weed_chains.ensures.weeded.rest;
}

pub chain_all-requires : goal.chain_all-requires
chain_all-requires g c = c.requires.chains (sym c.has_table.ensures ∙ c.if-has_table.true)

pub returns-else-is_set : goal.returns-else-is_set
returns-else-is_set g c = record {
  change = λ holders s.
      settled-by true false (g.D.DictDisc.rules c.args.kind.now) c.args.method c.args.hash holders (g.C.Cells.blocks c.args.cells.now) c.chain_all.result (g.C.Cells.blocks c.chain_all.new.cells)
      (sym c.has_table.ensures ∙ c.if-has_table.true) (sym c.is_set.ensures ∙ c.if-is_set.false) (c.chain_all.ensures.change holders s);
  rest = c.chain_all.ensures.rest;
}

pub weed_neighbours-requires : goal.weed_neighbours-requires
weed_neighbours-requires g c =
    record {
      holders = c.requires.holders;
      stands = c.requires.stands;
      length = c.requires.count;
      sorted = c.requires.sorted (ordered_set c.args.method (sym c.has_table.ensures ∙ c.if-has_table.false) (sym c.is_set-else-has_table.ensures ∙ c.if-is_set-2.true));
    }

pub returns-then-is_set-2 : goal.returns-then-is_set-2
returns-then-is_set-2 g c = record {
  change = λ holders s.
      let rules = g.D.DictDisc.rules c.args.kind.now in
      let b = g.C.Cells.blocks c.args.cells.now in
      let b' = g.C.Cells.blocks c.weed_neighbours.new.cells in
      settled-by false true rules c.args.method c.args.hash holders b c.weed_neighbours.result b'
      (sym c.has_table.ensures ∙ c.if-has_table.false) (sym c.is_set-else-has_table.ensures ∙ c.if-is_set-2.true)
      (settled-list rules c.args.hash holders (kept_holders rules b [] holders) (dropped_holders rules b [] holders) b c.weed_neighbours.result b' (c.weed_neighbours.ensures.weeded.change holders s));
  rest = c.weed_neighbours.ensures.weeded.rest;
}

pub returns-else-is_set-2 : goal.returns-else-is_set-2
returns-else-is_set-2 g c = record {
  change = λ holders s.
      let rules = g.D.DictDisc.rules c.args.kind.now in
      let b = g.C.Cells.blocks c.args.cells.now in
      let r = c.requires in
      settled-by false false rules c.args.method c.args.hash holders b _ b
      (sym c.has_table.ensures ∙ c.if-has_table.false) (sym c.is_set-else-has_table.ensures ∙ c.if-is_set-2.false)
      (settled-whole rules c.args.hash holders b c.new.result s (r.count ∙ ap length (StandsFor-unique (list_of c.args.hash) b r.holders holders r.stands s)) (c.new.ensures b));
  rest = g.met.C.Cells.reflexive _;
}
