use Rattle.vc_addrmap.specs.Parts.{names_of, numbers_of}
use Rattle.vc_addrmap.proofs.Maps.{named, unnamed}
use Rattle.vc_addrmap.proofs.Found.{found-there, number-found, number-none, value-is}
use Rattle.vc_addrmap.proofs.addr_map.AddrMap.get.Goals as goal

pub returns-then-n-eq0-clause-answer : goal.returns-then-n-eq0-clause-answer
unfolding names_of numbers_of
returns-then-n-eq0-clause-answer c =
    number-none c.find-n.new.self.entries.slab _ c.args.a.0 _ (unnamed c.find-n.result _ c.if-n-eq0.true c.find-n.ensures.found) c.find-n.ensures.same

pub entry-requires : goal.entry-requires
unfolding names_of
entry-requires c = found-there _ _ c.find-n.new.self.kept c.args.a.0 c.find-n.result (named c.find-n.result _ c.if-n-eq0.false c.find-n.ensures.found)

pub returns-clause-answer : goal.returns-clause-answer
unfolding names_of numbers_of
returns-clause-answer c =
    number-found _ _ c.find-n.new.self.kept c.args.a.0 c.find-n.result (named c.find-n.result _ c.if-n-eq0.false c.find-n.ensures.found) _ _
    (value-is c.find-n.new.self.entries.slab c.find-n.result c.entry.result c.entry.ensures) c.find-n.ensures.same
