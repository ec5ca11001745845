use Rattle.vc_base.proofs.Common.{refl}
use Rattle.vc_splay.specs.Store.{with_kid}
use Rattle.vc_splay.specs.Writes.{with_child, with_parent_of, zig_zag}
use Rattle.vc_splay.proofs.rising.zig_zag.Goals as goal

pub hang-requires : goal.hang-requires
hang-requires g c = record { held = c.requires.above_held; child_held = c.requires.second_held }

pub hang-requires-2 : goal.hang-requires-2
unfolding with_child with_kid with_parent_of
hang-requires-2 g c = rw c.hang.ensures.store (record { held = c.requires.top_held; child_held = c.requires.first_held })

pub returns : goal.returns
unfolding zig_zag
returns g c = record {
  store = rw (c.hang-2.ensures.store, c.hang.ensures.store) refl;
  rest = g.met.N.Nodes.transitive c.args.nodes.now c.hang.new.nodes c.hang-2.new.nodes c.hang.ensures.rest c.hang-2.ensures.rest;
}
