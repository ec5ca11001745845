use Rattle.vc_base.proofs.Common.{◌≡◌, false, ◌∷◌, refl, arith, contains}
use Rattle.vc_base.proofs.Members.{apart-tail}
use Rattle.vc_dtlist.proofs.TurnLemmas.{fewer}
use Rattle.vc_dtlist.proofs.WordLemmas.{HasBytes-written}
use Rattle.vc_dthash.proofs.HashLemmas.{HashFor-unique, HashTurned-joined, few, joined-holder, joined-links, joined-point, joins, room, slots-wanted}
use Rattle.vc_dthash.proofs.dt_hash.DtHash.link.Goals as goal

pub body-requires : goal.body-requires
body-requires g c = fewer (g.C.Cells.blocks c.args.cells.now) c.args.at.0 c.requires.holder

pub slot_of-k-requires : goal.slot_of-k-requires
slot_of-k-requires g c = slots-wanted c.args.self.now.slots c.args.self.now.count c.requires.room

pub chain_end-before-requires-clause-kept : goal.chain_end-before-requires-clause-kept
chain_end-before-requires-clause-kept g c = record { rules = g.D.DictDisc.rules c.args.kind.now; is = record { holders = c.requires.holders; stands = c.requires.stands } }

pub set_word-requires-clause-holder : goal.set_word-requires-clause-holder
set_word-requires-clause-holder g c = fewer (g.C.Cells.blocks c.args.cells.now) c.args.at.0 c.requires.holder

pub set_word-requires-2-clause-holder : goal.set_word-requires-2-clause-holder
set_word-requires-2-clause-holder g c =
    let b = g.C.Cells.blocks c.args.cells.now in
    HasBytes-written b (g.C.Cells.blocks c.set_word.new.cells) c.args.at.0 c.args.at.0 32 c.set_word.ensures.change.written (fewer b c.args.at.0 c.requires.holder)

pub point-requires : goal.point-requires
point-requires g c =
    joined-point (joins c.requires.stands c.requires.apart c.requires.holder (g.met.C.Cells.addresses c.args.cells.now c.args.at.0 c.requires.holder.there) c.slot_of-k.ensures.value c.slot_of-k.ensures.below
    c.hash-hash.ensures c.key.ensures c.body.ensures (c.chain_end-before.ensures (g.D.DictDisc.rules c.args.kind.now) c.requires.holders c.requires.stands) c.set_word.ensures.change c.set_word-2.ensures.change)

pub join_back-requires : goal.join_back-requires
join_back-requires g c =
    let j = joins c.requires.stands c.requires.apart c.requires.holder (g.met.C.Cells.addresses c.args.cells.now c.args.at.0 c.requires.holder.there) c.slot_of-k.ensures.value c.slot_of-k.ensures.below
    c.hash-hash.ensures c.key.ensures c.body.ensures (c.chain_end-before.ensures (g.D.DictDisc.rules c.args.kind.now) c.requires.holders c.requires.stands) c.set_word.ensures.change c.set_word-2.ensures.change in
    record {
      holders = c.requires.holders;
      links = rw c.list-list.ensures (joined-links j (g.C.Cells.blocks c.point.new.cells) c.point.ensures.change);
      apart = apart-tail c.args.self.now.table.0 c.requires.holders c.args.at.0 c.requires.apart;
      holder = joined-holder j (g.C.Cells.blocks c.point.new.cells) c.point.ensures.change;
    }

pub overflow_add-self : goal.overflow_add-self
overflow_add-self g c =
    let h = few (g.D.DictDisc.rules c.args.kind.now) c.args.self.now (g.C.Cells.blocks c.args.cells.now) c.requires.holders c.requires.stands in
    omega (arith, h)

pub returns : goal.returns
returns g c = record {
  change = λ holders s.
      let rules = g.D.DictDisc.rules c.args.kind.now in
      let self = c.args.self.now in
      let b = g.C.Cells.blocks c.point.new.cells in
      let apart : contains (self.table.0 ∷ holders) c.args.at.0 ≡ false = rw (HashFor-unique rules rules self (g.C.Cells.blocks c.args.cells.now) holders c.requires.holders s c.requires.stands) c.requires.apart in
      let j = joins s apart c.requires.holder (g.met.C.Cells.addresses c.args.cells.now c.args.at.0 c.requires.holder.there) c.slot_of-k.ensures.value c.slot_of-k.ensures.below
      c.hash-hash.ensures c.key.ensures c.body.ensures (c.chain_end-before.ensures rules holders s) c.set_word.ensures.change c.set_word-2.ensures.change in
      HashTurned-joined j b c.point.ensures.change
      _ (g.C.Cells.blocks c.join_back.new.cells) (room self.slots self.count c.requires.room) (c.join_back.ensures.change holders (rw c.list-list.ensures (joined-links j b c.point.ensures.change))) refl refl refl;
  rest = g.met.C.Cells.transitive _ _ _ (g.met.C.Cells.transitive _ _ _ (g.met.C.Cells.transitive _ _ _ c.set_word.ensures.rest c.set_word-2.ensures.rest) c.point.ensures.rest) c.join_back.ensures.rest;
}
