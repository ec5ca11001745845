use Rattle.vc_base.proofs.Common.{◌≡◌, true, ◌∷◌, refl, subst, contains}
use Rattle.vc_dtlist.proofs.TurnLemmas.{fewer}
use Rattle.vc_dthash.specs.ChainWrites.{Pointed}
use Rattle.vc_dthash.proofs.HashLemmas.{HashFor-holders, HashFor-unique, HashTurned-parted, holder-place, holder-slots, next-fits, parted-links, parted-point, parts, split-at}
use Rattle.vc_dthash.proofs.dt_hash.DtHash.unlink.Goals as goal

pub load-requires-clause-place : goal.load-requires-clause-place
load-requires-clause-place g c =
    let b = g.C.Cells.blocks c.args.cells.now in
    fewer b c.args.at.0 ((HashFor-holders c.requires.rules c.args.self.now b c.requires.holders c.requires.stands).there c.args.at.0 c.requires.within)

pub slot_of-k-requires : goal.slot_of-k-requires
slot_of-k-requires g c =
    holder-slots c.requires.rules c.args.self.now (g.C.Cells.blocks c.args.cells.now) c.requires.holders c.args.at.0 c.requires.stands c.requires.within

pub neighbour-behind-requires-clause-holder : goal.neighbour-behind-requires-clause-holder
neighbour-behind-requires-clause-holder g c =
    let b = g.C.Cells.blocks c.args.cells.now in
    fewer b c.args.at.0 ((HashFor-holders c.requires.rules c.args.self.now b c.requires.holders c.requires.stands).there c.args.at.0 c.requires.within)

pub neighbour-behind-requires-clause-fits : goal.neighbour-behind-requires-clause-fits
neighbour-behind-requires-clause-fits g c =
    next-fits c.requires.rules c.args.self.now (g.C.Cells.blocks c.args.cells.now) c.requires.holders c.slot_of-k.result c.args.at.0 c.requires.stands c.slot_of-k.ensures.below
    (split-at c.requires.stands c.requires.within c.slot_of-k.ensures.value c.load.ensures)

pub seek_before-before-requires : goal.seek_before-before-requires
seek_before-before-requires g c =
    let r = c.requires in
    let place = split-at r.stands r.within c.slot_of-k.ensures.value c.load.ensures in
    record {
      front = place.front;
      rest = c.args.at.0 ∷ place.rest;
      place = holder-place r.rules c.args.self.now (g.C.Cells.blocks c.args.cells.now) r.holders c.slot_of-k.result c.args.at.0 r.stands c.slot_of-k.ensures.below place;
    }

pub point-requires : goal.point-requires
point-requires g c =
    parted-point (parts c.requires.stands c.requires.within c.slot_of-k.ensures.value c.slot_of-k.ensures.below c.load.ensures c.seek_before-before.ensures)

pub part-requires : goal.part-requires
part-requires g c =
    let b1 = g.C.Cells.blocks c.point.new.cells in
    let pointed = subst (λ z. Pointed (g.C.Cells.blocks c.args.cells.now) b1 c.args.self.now.table.0 c.slot_of-k.result c.seek_before-before.result.0 z) c.neighbour-behind.ensures c.point.ensures.change in
    let p = parts c.requires.stands c.requires.within c.slot_of-k.ensures.value c.slot_of-k.ensures.below c.load.ensures c.seek_before-before.ensures in
    record { holders = c.requires.holders; links = rw c.list-list.ensures (parted-links p b1 pointed); within = c.requires.within }

pub returns : goal.returns
returns g c = record {
  change = λ holders s.
      let b1 = g.C.Cells.blocks c.point.new.cells in
      let within : contains holders c.args.at.0 ≡ true =
      subst (λ xs. contains xs c.args.at.0 ≡ true)
      (HashFor-unique c.requires.rules (g.D.DictDisc.rules c.args.kind.now) c.args.self.now (g.C.Cells.blocks c.args.cells.now) c.requires.holders holders c.requires.stands s) c.requires.within in
      let pointed = subst (λ z. Pointed (g.C.Cells.blocks c.args.cells.now) b1 c.args.self.now.table.0 c.slot_of-k.result c.seek_before-before.result.0 z) c.neighbour-behind.ensures c.point.ensures.change in
      let p = parts s within c.slot_of-k.ensures.value c.slot_of-k.ensures.below c.load.ensures c.seek_before-before.ensures in
      HashTurned-parted p b1 pointed
      _ (g.C.Cells.blocks c.part.new.cells) (c.part.ensures.change holders (rw c.list-list.ensures (parted-links p b1 pointed))) refl refl refl;
  rest = g.met.C.Cells.transitive _ _ _ c.point.ensures.rest c.part.ensures.rest;
}
