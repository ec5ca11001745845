use Rattle.vc_dtord.proofs.WrittenLemmas.{IsCleared-by}
use Rattle.vc_dtord.proofs.words.clear_words.Goals as goal

pub returns : goal.returns
returns g c = record {
  change =
      IsCleared-by (g.C.Cells.blocks c.args.cells.now) (g.C.Cells.blocks c.write_word.new.cells) (g.C.Cells.blocks c.write_word-2.new.cells) (g.C.Cells.blocks c.write_word-3.new.cells) (g.C.Cells.blocks c.write_word-4.new.cells)
      c.args.at.0 (g.met.C.Cells.addresses c.args.cells.now c.args.at.0 c.requires.there) c.requires
      c.write_word.ensures.change c.write_word-2.ensures.change c.write_word-3.ensures.change c.write_word-4.ensures.change;
  rest = g.met.C.Cells.transitive _ _ _ (g.met.C.Cells.transitive _ _ _ (g.met.C.Cells.transitive _ _ _ c.write_word.ensures.rest c.write_word-2.ensures.rest) c.write_word-3.ensures.rest) c.write_word-4.ensures.rest;
}
