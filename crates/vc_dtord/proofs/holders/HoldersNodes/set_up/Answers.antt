use Rattle.vc_base.proofs.Common.{refl, arith}
use Rattle.vc_dtord.specs.NodeLaws.{beside-node}
use Rattle.vc_dtord.proofs.WrittenLemmas.{parent-after, node-words, stays-after}
use Rattle.vc_dtord.proofs.holders.HoldersNodes.set_up.Goals as goal

pub write_word-requires-clause-holder : goal.write_word-requires-clause-holder
write_word-requires-clause-holder g c =
    node-words (g.C.Cells.blocks c.args.self.now.cells.now) c.args.n (beside-node (g.C.Cells.blocks c.args.self.now.cells.now) c.args.self.now.mark.0 c.args.n c.requires)

pub returns-clause-store : goal.returns-clause-store
returns-clause-store g c = parent-after c.write_word.ensures.change (omega arith) (beside-node (g.C.Cells.blocks c.args.self.now.cells.now) c.args.self.now.mark.0 c.args.n c.requires) c.args.self.now.mark.0 refl

pub returns-clause-rest : goal.returns-clause-rest
returns-clause-rest g c = (refl, refl, c.write_word.ensures.rest, stays-after c.write_word.ensures.change (omega arith) (beside-node (g.C.Cells.blocks c.args.self.now.cells.now) c.args.self.now.mark.0 c.args.n c.requires))
