use Rattle.vc_base.proofs.Common.{refl}
use Rattle.vc_splay.specs.Store.{with_kid}
use Rattle.vc_splay.specs.Writes.{store_with_root, with_child, with_parent_of}
use Rattle.vc_splay.proofs.rising.settle.Goals as goal

pub hang-requires : goal.hang-requires
hang-requires g c = record { held = c.requires.held; child_held = c.requires.left_held }

pub hang-requires-2 : goal.hang-requires-2
unfolding with_child with_kid with_parent_of
hang-requires-2 g c = rw c.hang.ensures.store (record { held = c.requires.held; child_held = c.requires.right_held })

pub set_up-requires : goal.set_up-requires
unfolding with_child with_kid with_parent_of
set_up-requires g c = rw (c.hang-2.ensures.store, c.hang.ensures.store) c.requires.held

pub returns : goal.returns
unfolding store_with_root
returns g c = record {
  store = rw (c.set_up.ensures.store, c.hang-2.ensures.store, c.hang.ensures.store) refl;
  rest = g.met.N.Nodes.transitive c.args.nodes.now c.hang-2.new.nodes c.set_up.new.self (g.met.N.Nodes.transitive c.args.nodes.now c.hang.new.nodes c.hang-2.new.nodes c.hang.ensures.rest c.hang-2.ensures.rest) c.set_up.ensures.rest;
}
