use Rattle.vc_base.proofs.Common.{◌∙◌}
use Rattle.vc_splay.proofs.StoreLemmas.{parent_of-some, parent_of-none}
use Rattle.vc_splay.proofs.sides.set_up_of.Goals as goal

pub returns-then-n-ne0 : goal.returns-then-n-ne0
returns-then-n-ne0 g c = record {
  store = c.set_up.ensures.store ∙ parent_of-some c.args.n c.args.v (g.N.Nodes.store c.args.nodes.now) c.if-n-ne0.true;
  rest = c.set_up.ensures.rest;
}

pub returns-else-n-ne0 : goal.returns-else-n-ne0
returns-else-n-ne0 g c = record {
  store = parent_of-none c.args.n c.args.v (g.N.Nodes.store c.args.nodes.now) c.if-n-ne0.false;
  rest = g.met.N.Nodes.reflexive c.args.nodes.now;
}
