use Rattle.vc_base.proofs.Common.{◌≡◌, Some, sym, ap, ◌∙◌, subst}
use Rattle.std.specs.Option.{option_map}
use Rattle.vc_dtdisc.specs.Finds.{find_key, has_key}
use Rattle.vc_dtlist.specs.Linked.{number_of}
use Rattle.vc_dtord.specs.Ordered.{OrdTurned}
use Rattle.vc_dtord.proofs.FirstLemmas.{found-within}
use Rattle.vc_cost.specs.Calls.{without_found}
use Rattle.vc_cost.proofs.TakeLemmas.{take_costs}
use Rattle.vc_cost.proofs.making.take_out.Goals as goal

-- src/making.rt:30:9
pub unlink-requires : goal.unlink-requires
unlink-requires g c =
    let rules = g.D.DictDisc.rules c.args.kind.now in
    let b = g.C.Cells.blocks c.args.cells.now in
    let xs = c.requires.holders in
    let e : find_key rules b c.args.key.now xs ≡ Some c.in-Some.at.0 = sym (c.find.ensures.found xs c.requires.stands).first ∙ ap (λ z. option_map number_of z) c.in-Some.is in
    record {
      rules = rules;
      holders = xs;
      stands = (c.find.ensures.list.change xs c.requires.stands).stands;
      within = found-within (has_key rules b c.args.key.now) xs c.in-Some.at.0 e;
    }

-- src/making.rt:14:1
pub returns-in-Some-clause-list : goal.returns-in-Some-clause-list
returns-in-Some-clause-list g c =
    let rules = g.D.DictDisc.rules c.args.kind.now in
    let b = g.C.Cells.blocks c.args.cells.now in
    let b'' = g.C.Cells.blocks c.unlink.new.cells in
    record {
      change = λ xs s.
          let e : find_key rules b c.args.key.now xs ≡ Some c.in-Some.at.0 = sym (c.find.ensures.found xs s).first ∙ ap (λ z. option_map number_of z) c.in-Some.is in
          let k = c.find.ensures.list.change xs s in
          let j = c.unlink.ensures.list.change rules xs k.stands in
          subst (λ z. OrdTurned rules xs b c.unlink.new.self b'' (without_found z xs)) (sym e)
          (record {
            stands = j.stands;
            keeps = record {
              there = λ a. j.keeps.there a ∙ k.keeps.there a;
              sizes = λ a. j.keeps.sizes a ∙ k.keeps.sizes a;
              bodies = λ a. j.keeps.bodies a ∙ k.keeps.bodies a;
              others = λ a h. j.keeps.others a h ∙ k.keeps.others a h;
            };
          });
      rest = g.met.C.Cells.transitive _ _ _ c.find.ensures.list.rest c.unlink.ensures.list.rest;
    }

-- src/making.rt:14:1
pub returns-in-Some-clause-cost : goal.returns-in-Some-clause-cost
returns-in-Some-clause-cost g c =
    let rules = g.D.DictDisc.rules c.args.kind.now in
    let b = g.C.Cells.blocks c.args.cells.now in
    let b' = g.C.Cells.blocks c.find.new.cells in
    let b'' = g.C.Cells.blocks c.unlink.new.cells in
    let xs = c.requires.holders in
    take_costs rules c.args.ord.now c.find.new.self c.unlink.new.self b b' b'' xs c.args.steps.now c.find.new.steps c.requires.stands (c.find.ensures.list.change xs c.requires.stands).stands c.find.ensures.cost c.unlink.ensures.cost
