use Rattle.vc_base.proofs.Common.{◌+◌, ◌*◌, ◌<◌, arith, HasBytes}
use Rattle.vc_dtord.proofs.WrittenLemmas.{NumberWritten-store}
use Rattle.vc_dtord.proofs.words.write_word.Goals as goal

pub returns : goal.returns
returns g c = record {
  change =
      let old = g.C.Cells.blocks c.args.cells.now in
      let few : c.args.k < 4 = c.requires.word in
      let place : HasBytes old c.args.at.0 (8 * c.args.k + 8) = record { there = c.requires.holder.there; enough = omega (arith, c.requires.holder.enough) } in
      NumberWritten-store old (g.C.Cells.blocks c.store.new.self) c.args.at.0 c.args.k c.args.value few c.ranges.value.fits place c.store.ensures.blocks;
  rest = c.store.ensures.rest;
}
