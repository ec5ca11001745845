use Rattle.vc_dict.proofs.DictLemmas.{Became-heads}
use Rattle.vc_dict.proofs.dict.Dict.look.Goals as goal

pub returns-clause-dict : goal.returns-clause-dict
returns-clause-dict g c = λ holders s.
    let d = c.args.self.now in
    Became-heads (g.D.DictDisc.rules c.args.kind.now) d c.find.new.self d.count d.current (g.C.Cells.blocks c.args.cells.now) (g.C.Cells.blocks c.find.new.cells)
    holders holders holders s (c.find.ensures.heads.change holders s.heads) s.count
