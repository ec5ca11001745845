use Rattle.vc_base.proofs.Common.{◌+◌, ◌*◌, arith}
use Rattle.vc_dtord.proofs.WrittenLemmas.{node-link_fits}
use Rattle.vc_image_check.proofs.NodeWords.{node-bytes}
use Rattle.vc_image_check.proofs.orders.nodes.TreeNodesLinks.right.Goals as goal

pub word-requires : goal.word-requires
word-requires g c = node-bytes (g.N.Holders.blocks c.args.self.now.holders.now) c.args.n (8 * 1 + 8) (omega arith) (omega arith) c.requires

pub overflow_cast-result : goal.overflow_cast-result
overflow_cast-result g c =
    let small = node-link_fits (g.N.Holders.blocks c.args.self.now.holders.now) c.args.n 1 (omega arith) c.requires in
    let is = c.word.ensures in
    omega (arith, small, is)
