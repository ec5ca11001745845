use Rattle.vc_base.proofs.Common.{◌+◌, Some, sym, refl, ap, ◌∙◌}
use Rattle.vc_addrmap.specs.Map.{with_number}
use Rattle.vc_addrmap.specs.Parts.{names_of, numbers_of}
use Rattle.vc_addrmap.proofs.Maps.{count-is, means-with, named, unnamed}
use Rattle.vc_addrmap.proofs.Added.{can_link, map-put, numbers-put, tree-mid}
use Rattle.vc_addrmap.proofs.Found.{as_many, found-there, map-valued, number-found, number-none, numbers-valued, one_more, value-is}
use Rattle.vc_addrmap.proofs.addr_map.AddrMap.put.Goals as goal

pub entry-entry-requires : goal.entry-entry-requires
unfolding names_of
entry-entry-requires c = found-there _ _ c.find-n.new.self.kept c.args.a.0 c.find-n.result (named c.find-n.result _ c.if-n-ne0.true c.find-n.ensures.found)

pub invariant_of-self : goal.invariant_of-self
unfolding names_of
invariant_of-self c = record {
  kept = map-valued _ _ c.find-n.new.self.kept c.args.a.0 c.find-n.result (named c.find-n.result _ c.if-n-ne0.true c.find-n.ensures.found) _ c.args.value c.entry-entry.result _ c.entry-entry.ensures c.write.ensures refl;
}

pub returns-then-n-ne0-clause-numbers : goal.returns-then-n-ne0-clause-numbers
unfolding names_of
returns-then-n-ne0-clause-numbers c =
    means-with _ c.find-n.new.self _ _ (numbers-valued _ _ c.find-n.new.self.kept c.args.a.0 c.find-n.result (named c.find-n.result _ c.if-n-ne0.true c.find-n.ensures.found) _ c.args.value c.entry-entry.result _ c.entry-entry.ensures c.write.ensures refl)
    ∙ ap (with_number c.args.a.0 (Some c.args.value)) c.find-n.ensures.same

pub returns-then-n-ne0-clause-count : goal.returns-then-n-ne0-clause-count
unfolding names_of numbers_of
returns-then-n-ne0-clause-count c =
    as_many _ c.entry-entry.result.value _ _
    (number-found _ _ c.find-n.new.self.kept c.args.a.0 c.find-n.result (named c.find-n.result _ c.if-n-ne0.true c.find-n.ensures.found) _ _ (value-is c.find-n.new.self.entries.slab c.find-n.result c.entry-entry.result c.entry-entry.ensures) c.find-n.ensures.same)
    (sym (count-is _) ∙ c.write.ensures.count ∙ count-is c.find-n.new.self ∙ c.find-n.ensures.count)

pub link_after_equals-self-requires : goal.link_after_equals-self-requires
unfolding names_of
link_after_equals-self-requires c =
    can_link _ _ c.find-n.new.self.kept c.args.a.0 (unnamed c.find-n.result _ c.if-n-ne0.false c.find-n.ensures.found) _ c.add-name.result _ refl c.add-name.ensures

pub invariant_of-self-2 : goal.invariant_of-self-2
unfolding names_of
invariant_of-self-2 c =
    let k = c.find-n.new.self.kept in
    let e = c.link_after_equals-self.ensures in
    let none = unnamed c.find-n.result _ c.if-n-ne0.false c.find-n.ensures.found in
    record {
      kept = map-put _ _ k c.args.a.0 none _ c.add-name.result _ refl c.add-name.ensures _ e.rest _ (e.tree k.tree (tree-mid _ _ k c.args.a.0 none _ c.add-name.result _ refl c.add-name.ensures));
    }

pub returns-clause-numbers : goal.returns-clause-numbers
unfolding names_of
returns-clause-numbers c =
    let k = c.find-n.new.self.kept in
    let e = c.link_after_equals-self.ensures in
    let none = unnamed c.find-n.result _ c.if-n-ne0.false c.find-n.ensures.found in
    means-with _ c.find-n.new.self _ _ (numbers-put _ _ k c.args.a.0 none _ c.add-name.result _ refl c.add-name.ensures _ e.rest _ (e.tree k.tree (tree-mid _ _ k c.args.a.0 none _ c.add-name.result _ refl c.add-name.ensures)))
    ∙ ap (with_number c.args.a.0 (Some c.args.value)) c.find-n.ensures.same

pub returns-clause-count : goal.returns-clause-count
unfolding names_of numbers_of
returns-clause-count c =
    one_more _ _ _
    (number-none c.find-n.new.self.entries.slab _ c.args.a.0 _ (unnamed c.find-n.result _ c.if-n-ne0.false c.find-n.ensures.found) c.find-n.ensures.same)
    (sym (count-is _) ∙ c.link_after_equals-self.ensures.rest.count ∙ c.add-name.ensures.count ∙ ap (λ m. m + 1) (count-is c.find-n.new.self ∙ c.find-n.ensures.count))
