use Rattle.vc_dict.proofs.DictLemmas.{Became-heads, turned-none}
use Rattle.vc_objects.proofs.puts.leaning.lean_above.Goals as goal

pub returns-else-above-ne0-clause-dict : goal.returns-else-above-ne0-clause-dict
returns-else-above-ne0-clause-dict g c = λ rules holders s.
    let d = c.args.dict.now in
    let b = g.C.Cells.blocks c.args.cells.now in
    Became-heads rules d d.heads d.count d.current b b holders holders holders s (turned-none rules d.heads holders b holders s.heads) s.count
