use Rattle.vc_base.proofs.Common.{sym, ap, ◌∙◌}
use Rattle.vc_splay.specs.Tree.{names}
use Rattle.vc_addrmap.specs.Map.{name_of_address}
use Rattle.vc_addrmap.proofs.Maps.{can_find, first-named, map-after, means-same, name-same, names-after, names-mean, numbers-after}
use Rattle.vc_addrmap.proofs.addr_map.AddrMap.find.Goals as goal

pub find_first-root-requires : goal.find_first-root-requires
find_first-root-requires c = can_find _ _ c.args.self.now.kept c.args.a.0

pub invariant_of-self : goal.invariant_of-self
invariant_of-self c =
    let k = c.args.self.now.kept in
    let e = c.find_first-root.ensures in
    record { kept = map-after _ _ e.rest _ _ _ (e.tree k.tree k.is_tree) k.ascending k.count }

pub returns-clause-found : goal.returns-clause-found
returns-clause-found c =
    let k = c.args.self.now.kept in
    let e = c.find_first-root.ensures in
    let new = c.find_first-root.new.nodes.slab in
    e.answer k.tree k.is_tree
    ∙ first-named c.args.self.now.entries.slab (names k.tree) c.args.a.0
    ∙ sym (name-same c.args.self.now.entries.slab new (names k.tree) c.args.a.0 (λ m w. e.rest.addresses m))
    ∙ ap (λ ns. name_of_address new ns c.args.a.0) (sym (names-mean _ (names k.tree) (names-after _ _ e.rest _ _ _ (e.tree k.tree k.is_tree))))

pub returns-clause-same : goal.returns-clause-same
returns-clause-same c =
    let k = c.args.self.now.kept in
    let e = c.find_first-root.ensures in
    means-same _ c.args.self.now (numbers-after _ _ e.rest _ _ _ (e.tree k.tree k.is_tree))
