use Rattle.vc_dtord.proofs.CallLemmas.{beside_root, can_find, tree-found}
use Rattle.vc_objects.proofs.JoinLemmas.{leads}
use Rattle.vc_objects.proofs.puts.reading.place_for.Goals as goal
use Rattle.vc_base.proofs.Common.{refl}

pub read_down-requires : goal.read_down-requires
read_down-requires g c =
    can_find (g.D.DictDisc.rules c.args.kind.now) c.args.ord (g.C.Cells.blocks c.args.cells.now) c.args.ord.root.0 (beside_root c.args.ord (g.C.Cells.blocks c.args.cells.now) c.args.ord.root refl) (g.met.D.DictDisc.lawful c.args.kind.now).order c.args.key.now c.requires

pub returns-clause-place : goal.returns-clause-place
returns-clause-place g c = λ holders s.
    let rules = g.D.DictDisc.rules c.args.kind.now in
    let b = g.C.Cells.blocks c.args.cells.now in
    leads rules c.args.ord b c.args.key.now holders s c.read_down.result c.args.steps.now c.read_down.new.steps
    (c.read_down.ensures s.tree (tree-found rules c.args.ord b c.args.ord.root.0 (beside_root c.args.ord b c.args.ord.root refl) holders s))
