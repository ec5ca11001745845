use Rattle.vc_dtord.specs.NodeLaws.{beside-node}
use Rattle.vc_dtord.proofs.holders.HoldersNodes.right.Goals as goal

pub link_at-requires-clause-node : goal.link_at-requires-clause-node
link_at-requires-clause-node g c = beside-node (g.C.Cells.blocks c.args.self.now.cells.now) c.args.self.now.mark.0 c.args.n c.requires
