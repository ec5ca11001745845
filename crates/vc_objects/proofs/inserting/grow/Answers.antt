use Rattle.vc_base.proofs.Common.{ℕ, Ok, Option, sym, refl, ◌∙◌, subst, Discipline}
use Rattle.vc_dict.specs.Listed.{holders_of}
use Rattle.vc_model.proofs.Keeping.{NoneRefused-same}
use Rattle.vc_best.specs.Cells.{cells_in, rest_in}
use Rattle.vc_best.specs.Parts.{disc_in}
use Rattle.vc_objects.specs.Insert.{grown_to}
use Rattle.vc_objects.specs.Parts.{dictionary_in}
use Rattle.vc_objects.specs.Promises.{Grows}
use Rattle.vc_objects.proofs.Answering.{grown-wants, then-ok}
use Rattle.vc_objects.proofs.Growing.{can-grow, no-more-told, wanted-told}
use Rattle.vc_objects.proofs.inserting.grow.Given.{Over}
use Rattle.vc_objects.proofs.inserting.grow.Goals as goal

-- what a region's boxed discipline means
abbrev meaning : (g : Over) → (x : g.dyn-1.0.I) × (g.dyn-1.0.entry x).0.Denot → Discipline
meaning g p = (goal.SegDisc-dyn g p).state p.1

pub put_table-requires : goal.put_table-requires
put_table-requires g c = record { grows = can-grow _ c.args.dict.now (cells_in c.args.best.now) c.in-Some.slots c.requires.ask.whole (sym c.in-Some.ensures); lent = c.requires.ask.lent }

pub returns-in-None-clause-grows : goal.returns-in-None-clause-grows
returns-in-None-clause-grows g c =
    let best = c.args.best.now in
    let dict = c.args.dict.now in
    let wants = wanted-told _ dict (cells_in best) (holders_of dict (cells_in best)) c.requires.ask.whole.stands ∙ sym c.in-None.ensures in
    subst
    (λ (wanted : Option ℕ). Grows (meaning g) (Ok tt) (λ refused. grown_to (disc_in (meaning g) best).terms (rest_in best) 0 (dictionary_in dict best) refused wanted) wanted best dict best dict)
    (sym wants) (record { ok = (refl, refl); err = tt; asked = NoneRefused-same _ })

pub returns-in-Some-clause-grows : goal.returns-in-Some-clause-grows
returns-in-Some-clause-grows g c =
    let best = c.args.best.now in
    let dict = c.args.dict.now in
    let wants = wanted-told _ dict (cells_in best) (holders_of dict (cells_in best)) c.requires.ask.whole.stands ∙ sym c.in-Some.ensures in
    subst
    (λ (wanted : Option ℕ). Grows (meaning g) c.put_table.result (λ refused. grown_to (disc_in (meaning g) best).terms (rest_in best) 0 (dictionary_in dict best) refused wanted) wanted best dict c.put_table.new.best c.put_table.new.dict)
    (sym wants) c.put_table.ensures.grows

pub returns-in-Some-clause-room : goal.returns-in-Some-clause-room
returns-in-Some-clause-room g c =
    then-ok _ _ c.put_table.result
    (λ h. grown-wants _ (dictionary_in c.args.dict.now c.args.best.now) c.in-Some.slots (rest_in c.put_table.new.best) (dictionary_in c.put_table.new.dict c.put_table.new.best) h
    ∙ no-more-told _ c.args.dict.now (cells_in c.args.best.now) c.in-Some.slots c.requires.ask.whole (sym c.in-Some.ensures))
    c.put_table.ensures.grows.ok
