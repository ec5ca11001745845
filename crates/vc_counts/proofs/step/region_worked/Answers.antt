use Rattle.vc_base.proofs.Common.{Some, None, sym, ap, ◌∙◌, Discipline}
use Rattle.vc_script.specs.Target.{dict_at}
use Rattle.vc_steps.specs.Dicts.{region_asked_for}
use Rattle.vc_counts.specs.Working.{open_state, worked_in}
use Rattle.vc_base.proofs.Options.{none_of}
use Rattle.vc_counts.proofs.FoundHome.{dict-worked, region-worked}
use Rattle.vc_counts.proofs.step.region_worked.Given as given
use Rattle.vc_counts.proofs.step.region_worked.Goals as goal

abbrev meaning : (g : given.Over) → (x : g.dyn-1.0.I) × (g.dyn-1.0.entry x).0.Denot → Discipline
meaning g p = (g.dyn-1.0.entry p.0).1.state p.1

pub worked_on_shelf-requires : goal.worked_on_shelf-requires
worked_on_shelf-requires g c = sym c.target.ensures ∙ c.in-Shelf.is

pub returns-in-Shelf : goal.returns-in-Shelf
returns-in-Shelf g c =
    c.worked_on_shelf.ensures
    ∙ sym (ap (λ d. region_asked_for (open_state (meaning g) c.args.session.now) d (worked_in c.args.command.now)) (ap dict_at (sym c.target.ensures ∙ c.in-Shelf.is)))

pub returns-in-Region : goal.returns-in-Region
returns-in-Region g c =
    let is = sym c.target.ensures ∙ c.in-Region.is in
    sym (region-worked c.args.command.now c.in-Region.name is)
    ∙ sym (ap (λ d. region_asked_for (open_state (meaning g) c.args.session.now) d (worked_in c.args.command.now)) (ap dict_at is))

pub returns-in-Some : goal.returns-in-Some
returns-in-Some g c =
    dict-worked (meaning g) c.args.session.now c.args.command.now c.in-Dict.name (Some c.index.result.now) (ap dict_at (sym c.target.ensures ∙ c.in-Dict.is)) (sym c.index.ensures ∙ c.in-Some.ensures.value)

pub returns-in-None : goal.returns-in-None
returns-in-None g c =
    dict-worked (meaning g) c.args.session.now c.args.command.now c.in-Dict.name None (ap dict_at (sym c.target.ensures ∙ c.in-Dict.is)) (sym (none_of _ (sym c.in-None.ensures.found)))
