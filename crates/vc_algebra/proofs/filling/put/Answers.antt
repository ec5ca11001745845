use Rattle.vc_base.proofs.Common.{sym, subst, Discipline}
use Rattle.vc_best.specs.Cells.{rest_in}
use Rattle.vc_best.specs.Parts.{disc_in}
use Rattle.vc_objects.specs.Parts.{dictionary_in}
use Rattle.vc_algebra.specs.Filling.{IsPutOrMatched}
use Rattle.vc_algebra.proofs.FillLemmas.{put-told}
use Rattle.vc_algebra.proofs.filling.put.Given.{Over}
use Rattle.vc_algebra.proofs.filling.put.Goals as goal

-- what a region's boxed discipline means
abbrev meaning : (g : Over) → (x : g.dyn-1.0.I) × (g.dyn-1.0.entry x).0.Denot → Discipline
meaning g p = (goal.SegDisc-dyn g p).state p.1

pub returns-clause-put : goal.returns-clause-put
returns-clause-put g c =
    let old = c.args.best.now in
    let new = c.put.new.best in
    let put = c.put.ensures in
    subst
    (λ result. IsPutOrMatched result (disc_in (meaning g) old).terms (g.D.DictDisc.rules c.args.kind.now) c.args.object.now (rest_in old) (dictionary_in c.args.dict.now old) (rest_in new) (dictionary_in c.put.new.dict new))
    (sym c.transpose.ensures)
    (put-told (meaning g) (g.D.DictDisc.rules c.args.kind.now) c.args.object.now old new c.args.dict.now c.put.new.dict c.put.result put.matched put.looks put.inserts)
