use Rattle.vc_dtord.specs.NodeLaws.{beside-mark, beside-node}
use Rattle.vc_dtord.proofs.WrittenLemmas.{node-words}
use Rattle.vc_dtord.proofs.guides.ByMarkGuideHolders.side.Goals as goal

pub body-requires : goal.body-requires
body-requires g c =
    node-words (g.C.Cells.blocks c.args.nodes.now.cells.now) c.args.n (beside-node (g.C.Cells.blocks c.args.nodes.now.cells.now) c.args.nodes.now.mark.0 c.args.n c.requires)

pub body-requires-2 : goal.body-requires-2
body-requires-2 g c =
    let s = c.args.nodes.now in
    node-words (g.C.Cells.blocks s.cells.now) s.mark.0 (beside-mark (g.C.Cells.blocks s.cells.now) s.mark.0 c.args.n c.requires)
