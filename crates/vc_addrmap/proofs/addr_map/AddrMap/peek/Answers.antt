use Rattle.vc_base.proofs.Common.{◌≡◌, ◌^◌, ◌<◌, Some, option_map, sym, ap, ◌∙◌, subst}
use Rattle.vc_splay.specs.Walks.{run}
use Rattle.vc_addrmap.specs.Entries.{value_at}
use Rattle.vc_addrmap.specs.Parts.{names_of, numbers_of}
use Rattle.vc_addrmap.proofs.Descending.{Descending, descending-end, descending-next, descending-start, goes-is, goes_to}
use Rattle.vc_addrmap.proofs.Found.{address-is, value-is}
use Rattle.vc_addrmap.proofs.addr_map.AddrMap.peek.Goals as goal

pub loop-at-init : goal.loop-at-init
loop-at-init c = descending-start c.args.self.now.entries.slab c.args.a.0 c.args.self.now.root c.args.self.now.kept

pub entry-entry-requires : goal.entry-entry-requires
entry-entry-requires c = (descending-next c.args.self.now.entries.slab c.args.a.0 c.args.self.now.kept.tree c.loop-at.at c.loop-at.invariant c.loop-at-test.true).held

pub returns-then-entry-a : goal.returns-then-entry-a
unfolding names_of numbers_of
returns-then-entry-a c =
    let s = c.args.self.now.entries.slab in
    let next = descending-next s c.args.a.0 c.args.self.now.kept.tree c.loop-at.at c.loop-at.invariant c.loop-at-test.true in
    sym (ap (option_map (value_at s)) (next.here (address-is s c.loop-at.at c.entry-entry.result c.entry-entry.ensures ∙ c.if-entry-a.true)) ∙ ap Some (value-is s c.loop-at.at c.entry-entry.result c.entry-entry.ensures))

pub loop-at-preserved : goal.loop-at-preserved
loop-at-preserved c =
    let s = c.args.self.now.entries.slab in
    let next = descending-next s c.args.a.0 c.args.self.now.kept.tree c.loop-at.at c.loop-at.invariant c.loop-at-test.true in
    subst (Descending s c.args.a.0 c.args.self.now.kept.tree) (goes-is s c.args.a.0 c.loop-at.at c.entry-entry.result c.entry-entry.ensures ∙ sym c.child-at.ensures)
    (next.on (λ e. c.if-entry-a.false (sym (address-is s c.loop-at.at c.entry-entry.result c.entry-entry.ensures) ∙ e)))

pub loop-at-smaller : goal.loop-at-smaller
loop-at-smaller c =
    let s = c.args.self.now.entries.slab in
    let next = descending-next s c.args.a.0 c.args.self.now.kept.tree c.loop-at.at c.loop-at.invariant c.loop-at-test.true in
    subst (λ z. run (2 ^ 32) (goes_to s c.args.a.0) z < run (2 ^ 32) (goes_to s c.args.a.0) c.loop-at.at) (goes-is s c.args.a.0 c.loop-at.at c.entry-entry.result c.entry-entry.ensures ∙ sym c.child-at.ensures) next.less

pub returns : goal.returns
unfolding names_of numbers_of
returns c = sym (ap (option_map (value_at c.args.self.now.entries.slab)) (descending-end c.args.self.now.entries.slab c.args.a.0 c.args.self.now.kept.tree c.loop-at.at c.loop-at.invariant c.loop-at-test.false))
