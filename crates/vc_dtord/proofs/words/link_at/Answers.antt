use Rattle.vc_dtord.proofs.WrittenLemmas.{node-link_fits, node-words}
use Rattle.vc_dtord.proofs.words.link_at.Goals as goal

pub neighbour-requires-clause-holder : goal.neighbour-requires-clause-holder
neighbour-requires-clause-holder g c = node-words (g.C.Cells.blocks c.args.cells.now) c.args.n c.requires.node

pub neighbour-requires-clause-fits : goal.neighbour-requires-clause-fits
neighbour-requires-clause-fits g c = node-link_fits (g.C.Cells.blocks c.args.cells.now) c.args.n c.args.k c.requires.word c.requires.node
