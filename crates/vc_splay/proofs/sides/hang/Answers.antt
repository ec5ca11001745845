use Rattle.vc_base.proofs.Common.{refl}
use Rattle.vc_splay.specs.Store.{with_kid}
use Rattle.vc_splay.specs.Writes.{with_child}
use Rattle.vc_splay.proofs.sides.hang.Goals as goal

pub set_kid-requires : goal.set_kid-requires
set_kid-requires g c = c.requires.held

pub set_up_of-requires : goal.set_up_of-requires
unfolding with_kid
set_up_of-requires g c = rw c.set_kid.ensures.store c.requires.child_held

pub returns : goal.returns
unfolding with_child
returns g c = record {
  store = rw (c.set_up_of.ensures.store, c.set_kid.ensures.store) refl;
  rest = g.met.N.Nodes.transitive c.args.nodes.now c.set_kid.new.nodes c.set_up_of.new.nodes c.set_kid.ensures.rest c.set_up_of.ensures.rest;
}
