use Rattle.vc_base.proofs.Common.{refl, Discipline}
use Rattle.vc_script.specs.declared.command.Command.TheVariants.{CloseRegion}
use Rattle.vc_steps.specs.Homes.{state_over}
use Rattle.vc_steps.specs.Moment.{moment}
use Rattle.vc_steps.specs.Told.{gone_in, rules_in}
use Rattle.vc_steps.proofs.RefusesNothing.{close-granted}
use Rattle.vc_steps.proofs.SettledShelf.{asked-equal, keeps-equal}
use Rattle.vc_steps.proofs.Steps.{steps-quiet}
use Rattle.vc_steps.proofs.session.Session.run_on_shelf.Given as given
use Rattle.vc_steps.proofs.session.Session.run_on_shelf.Goals as goal

abbrev meaning : (g : given.Over) → (x : g.dyn-1.0.I) × (g.dyn-1.0.entry x).0.Denot → Discipline
meaning g p = (g.dyn-1.0.entry p.0).1.state p.1

pub returns-in-OpenRegion-clause-steps : goal.returns-in-OpenRegion-clause-steps
returns-in-OpenRegion-clause-steps g c =
    rw c.put_answer.ensures (rw c.in-OpenRegion.is (c.open_region.ensures.steps (rules_in g.D.DictDisc.rules c.args.kinds.now.items) (gone_in g.D.DictDisc.gone c.args.kinds.now.items) c.requires.session.dicts))

pub returns-in-OpenRegion-clause-stays : goal.returns-in-OpenRegion-clause-stays
returns-in-OpenRegion-clause-stays g c = record {
  lasts = record {
    stands = record { regions = c.open_region.ensures.regions.regions; dicts = c.open_region.ensures.regions.dicts _ c.requires.session.dicts; views = c.open_region.ensures.regions.views c.requires.session.views };
    keeps_rules = refl;
    armed = c.open_region.ensures.regions.armed;
    accounts = keeps-equal _ _ c.open_region.ensures.settled;
    asked = λ off. asked-equal _ _ c.open_region.ensures.settled;
    arms_none = c.open_region.ensures.unarmed;
  };
  spent = c.open_region.ensures.regions.spent;
}

pub returns-in-CloseRegion-clause-steps : goal.returns-in-CloseRegion-clause-steps
returns-in-CloseRegion-clause-steps g c =
    let M = meaning g in
    let kinds = rules_in g.D.DictDisc.rules c.args.kinds.now.items in
    let is = c.close_named.ensures.step kinds c.requires.session.dicts in
    let granted = close-granted (state_over M kinds c.args.shelf.now c.args.self.now) (state_over M kinds c.close_named.new.shelf c.close_named.new.self) c.in-CloseRegion.name c.close_named.result is in
    rw c.in-CloseRegion.is
    (steps-quiet (moment M g.D.DictDisc.rules g.D.DictDisc.gone c.args.shelf.now c.args.self.now c.args.kinds.now.items) (moment M g.D.DictDisc.rules g.D.DictDisc.gone c.close_named.new.shelf c.close_named.new.self c.args.kinds.now.items)
    (CloseRegion c.in-CloseRegion.name) _ c.close_named.result is refl c.close_named.ensures.settled c.close_named.ensures.regions.armed granted)

pub returns-in-CloseRegion-clause-stays : goal.returns-in-CloseRegion-clause-stays
returns-in-CloseRegion-clause-stays g c = record {
  lasts = record {
    stands = record { regions = c.close_named.ensures.regions.regions; dicts = c.close_named.ensures.regions.dicts _ c.requires.session.dicts; views = c.close_named.ensures.regions.views c.requires.session.views };
    keeps_rules = refl;
    armed = c.close_named.ensures.regions.armed;
    accounts = keeps-equal _ _ c.close_named.ensures.settled;
    asked = λ off. asked-equal _ _ c.close_named.ensures.settled;
    arms_none = c.close_named.ensures.unarmed;
  };
  spent = c.close_named.ensures.regions.spent;
}

pub returns-in-OpenDict-clause-steps : goal.returns-in-OpenDict-clause-steps
returns-in-OpenDict-clause-steps g c =
    rw c.put_answer-in-OpenDict.ensures (rw c.in-OpenDict.is c.open_dict.ensures.steps)
