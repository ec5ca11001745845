use Rattle.vc_dtord.specs.NodeLaws.{beside-node}
use Rattle.vc_dtord.proofs.WrittenLemmas.{node-words}
use Rattle.vc_dtord.proofs.guides.ByKeyGuideHolders.side.Goals as goal

pub body-requires : goal.body-requires
body-requires g c =
    let s = c.args.nodes.now in
    node-words (g.C.Cells.blocks s.cells.now) c.args.n (beside-node (g.C.Cells.blocks s.cells.now) s.mark.0 c.args.n c.requires)
