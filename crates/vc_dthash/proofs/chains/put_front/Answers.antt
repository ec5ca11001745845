use Rattle.vc_base.proofs.Common.{◌+◌, ◌*◌, ◌%◌, ap, ◌∙◌, subst}
use Rattle.vc_dtlist.proofs.WordLemmas.{HasBytes-written}
use Rattle.vc_dthash.specs.ChainWrites.{Fronted}
use Rattle.vc_dthash.proofs.FillLemmas.{slot-place}
use Rattle.vc_dthash.proofs.WriteLemmas.{Fronted-made}
use Rattle.vc_dthash.proofs.chains.put_front.Goals as goal

pub slot-first-requires : goal.slot-first-requires
slot-first-requires g c = slot-place (g.C.Cells.blocks c.args.cells.now) c.args.table.0 c.slot_of-k.result c.args.slots c.requires.place c.slot_of-k.ensures.below

pub set_slot-requires : goal.set_slot-requires
set_slot-requires g c =
    let k = c.slot_of-k.result in
    HasBytes-written (g.C.Cells.blocks c.args.cells.now) (g.C.Cells.blocks c.set_word.new.cells) c.args.at.0 c.args.table.0 (8 * k + 8) c.set_word.ensures.change.written
    (slot-place (g.C.Cells.blocks c.args.cells.now) c.args.table.0 k c.args.slots c.requires.place c.slot_of-k.ensures.below)

pub returns : goal.returns
returns g c = record {
  change =
      let old = g.C.Cells.blocks c.args.cells.now in
      let mid = g.C.Cells.blocks c.set_word.new.cells in
      let new = g.C.Cells.blocks c.set_slot.new.cells in
      let table = c.args.table.0 in
      let at = c.args.at.0 in
      subst (λ k. Fronted old new table k at) (c.slot_of-k.ensures.value ∙ ap (λ z. z % c.args.slots) c.load.ensures)
      (Fronted-made old mid new table c.slot_of-k.result at c.slot-first.result c.set_word.ensures.change c.set_slot.ensures.change c.requires.apart c.requires.holder.there c.slot-first.ensures);
  rest = g.met.C.Cells.transitive _ _ _ c.set_word.ensures.rest c.set_slot.ensures.rest;
}
