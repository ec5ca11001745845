use Rattle.vc_dthash.proofs.WriteLemmas.{SlotWritten-store}
use Rattle.vc_dthash.proofs.chains.set_slot.Goals as goal

pub returns : goal.returns
returns g c = record {
  change =
      SlotWritten-store (g.C.Cells.blocks c.args.cells.now) (g.C.Cells.blocks c.set_slot.new.self) c.args.table.0 c.args.k c.args.to c.ranges.to.fits c.requires c.set_slot.ensures.blocks;
  rest = c.set_slot.ensures.rest;
}
