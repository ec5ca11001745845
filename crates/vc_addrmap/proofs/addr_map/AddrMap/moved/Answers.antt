use Rattle.vc_base.proofs.Common.{sym, ◌∙◌}
use Rattle.vc_addrmap.specs.Parts.{numbers_of}
use Rattle.vc_addrmap.proofs.Found.{moved-none, moved-same, none-lost, same-lost, some-lost, with-none}
use Rattle.vc_addrmap.proofs.addr_map.AddrMap.moved.Goals as goal

pub returns-then-from-to : goal.returns-then-from-to
returns-then-from-to c = record {
  numbers = c.get.ensures.same ∙ sym (moved-same _ c.args.from.0 c.args.to.0 c.if-from-to.true);
  count = same-lost (numbers_of c.args.self.now) c.args.from.0 c.args.to.0 _ _ c.if-from-to.true c.get.ensures.count;
}

pub returns-in-Some-clause-count : goal.returns-in-Some-clause-count
returns-in-Some-clause-count c =
    some-lost _ _ c.args.from.0 c.args.to.0 _ _ _ _ (sym c.in-Some.ensures.answer) c.in-Some.ensures.numbers c.in-Some.ensures.count c.put.ensures.count

pub returns-in-None : goal.returns-in-None
returns-in-None c =
    let none = sym c.in-None.ensures.answer in
    record {
      numbers = c.in-None.ensures.numbers ∙ sym (with-none _ c.args.from.0 none) ∙ sym (moved-none _ c.args.from.0 c.args.to.0 none);
      count = none-lost (numbers_of c.args.self.now) c.args.from.0 c.args.to.0 _ _ none c.in-None.ensures.same_count;
    }
