use Rattle.vc_base.proofs.Common.{None, sym, ap, ◌∙◌}
use Rattle.vc_addrmap.specs.Map.{with_number}
use Rattle.vc_addrmap.specs.Parts.{names_of, numbers_of}
use Rattle.vc_addrmap.proofs.Maps.{means-with, named, unnamed}
use Rattle.vc_addrmap.proofs.Found.{found-there, is_in, map-out, number-found, number-none, numbers-out, value-is, with-none}
use Rattle.vc_addrmap.proofs.addr_map.AddrMap.take.Goals as goal

pub returns-then-n-eq0-clause-answer : goal.returns-then-n-eq0-clause-answer
unfolding names_of numbers_of
returns-then-n-eq0-clause-answer c =
    number-none c.find-n.new.self.entries.slab _ c.args.a.0 _ (unnamed c.find-n.result _ c.if-n-eq0.true c.find-n.ensures.found) c.find-n.ensures.same

pub returns-then-n-eq0-clause-numbers : goal.returns-then-n-eq0-clause-numbers
unfolding names_of numbers_of
returns-then-n-eq0-clause-numbers c =
    c.find-n.ensures.same
    ∙ with-none _ c.args.a.0 (sym (number-none c.find-n.new.self.entries.slab _ c.args.a.0 _ (unnamed c.find-n.result _ c.if-n-eq0.true c.find-n.ensures.found) c.find-n.ensures.same))

pub unlink-self-requires : goal.unlink-self-requires
unfolding names_of
unlink-self-requires c = is_in _ _ c.find-n.new.self.kept c.args.a.0 c.find-n.result (named c.find-n.result _ c.if-n-eq0.false c.find-n.ensures.found)

pub remove-requires : goal.remove-requires
unfolding names_of
remove-requires c =
    c.unlink-self.ensures.rest.there c.find-n.result
    ∙ found-there _ _ c.find-n.new.self.kept c.args.a.0 c.find-n.result (named c.find-n.result _ c.if-n-eq0.false c.find-n.ensures.found)

pub invariant_of-self : goal.invariant_of-self
unfolding names_of
invariant_of-self c =
    let k = c.find-n.new.self.kept in
    record {
      kept = map-out _ _ k c.args.a.0 c.find-n.result (named c.find-n.result _ c.if-n-eq0.false c.find-n.ensures.found) _ _ c.unlink-self.ensures.rest c.remove.ensures.out _ (c.unlink-self.ensures.tree k.tree k.is_tree);
    }

pub returns-clause-answer : goal.returns-clause-answer
unfolding names_of numbers_of
returns-clause-answer c =
    number-found _ _ c.find-n.new.self.kept c.args.a.0 c.find-n.result (named c.find-n.result _ c.if-n-eq0.false c.find-n.ensures.found) _ _
    (sym (c.unlink-self.ensures.rest.values c.find-n.result) ∙ value-is c.unlink-self.new.nodes.slab c.find-n.result c.remove.result c.remove.ensures.is) c.find-n.ensures.same

pub returns-clause-numbers : goal.returns-clause-numbers
unfolding names_of
returns-clause-numbers c =
    let k = c.find-n.new.self.kept in
    means-with _ c.find-n.new.self _ _ (numbers-out _ _ k c.args.a.0 c.find-n.result (named c.find-n.result _ c.if-n-eq0.false c.find-n.ensures.found) _ _ c.unlink-self.ensures.rest c.remove.ensures.out _ (c.unlink-self.ensures.tree k.tree k.is_tree))
    ∙ ap (with_number c.args.a.0 None) c.find-n.ensures.same
