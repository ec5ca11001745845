use Rattle.vc_base.proofs.Common.{◌≡◌, List, Some, sym, refl, ap, ◌∙◌}
use Rattle.vc_commands.specs.Answered.{answered}
use Rattle.vc_dtdisc.specs.Rules.{Gone}
use Rattle.vc_script.specs.Target.{dict_at, region_at, target_of}
use Rattle.vc_script.specs.declared.target.Target.TheVariants.{Shelf, Region}
use Rattle.vc_steps.specs.Dicts.{dict_of, dict_step}
use Rattle.vc_steps.specs.Step.{shelf_step, step, step_of, step_on}
use Rattle.vc_steps.specs.Told.{gone_in, rules_in}
use Rattle.vc_steps.proofs.RegionChange.{step-region, step-shelf}
use Rattle.vc_steps.proofs.Steps.{asked-steps, keeps-steps, steps-as}
use Rattle.vc_steps.proofs.session.Session.run_at_target.Goals as goal

pub run_on_shelf-requires-clause-dict : goal.run_on_shelf-requires-clause-dict
run_on_shelf-requires-clause-dict g c = ap dict_at (sym c.target-target.ensures ∙ c.in-Shelf.is)

pub run_on_shelf-requires-clause-region : goal.run_on_shelf-requires-clause-region
run_on_shelf-requires-clause-region g c = ap region_at (sym c.target-target.ensures ∙ c.in-Shelf.is)

pub run_in_region-requires-clause-dict : goal.run_in_region-requires-clause-dict
run_in_region-requires-clause-dict g c = ap dict_at (sym c.target-target.ensures ∙ c.in-Region.is)

pub run_in_region-requires-clause-region : goal.run_in_region-requires-clause-region
run_in_region-requires-clause-region g c = ap region_at (sym c.target-target.ensures ∙ c.in-Region.is)

pub run_on_dict-requires-clause-command : goal.run_on_dict-requires-clause-command
run_on_dict-requires-clause-command g c = sym c.target-target.ensures ∙ c.in-Dict.is

pub returns-in-Shelf-clause-steps : goal.returns-in-Shelf-clause-steps
returns-in-Shelf-clause-steps g c =
    let is : target_of c.args.command.now ≡ Shelf = sym c.target-target.ensures ∙ c.in-Shelf.is in
    steps-as (answered c.run_on_shelf.result c.run_on_shelf.new.reply) _ _ c.args.command.now (λ s. shelf_step s c.args.command.now) (λ s. step s c.args.line c.args.command.now)
    (λ s need. step-shelf s c.args.line c.args.command.now need (ap dict_at is) (ap region_at is)) c.run_on_shelf.ensures.steps

pub returns-in-Dict-clause-steps : goal.returns-in-Dict-clause-steps
returns-in-Dict-clause-steps g c =
    let is : dict_of c.args.command.now ≡ Some c.in-Dict.name = ap dict_at (sym c.target-target.ensures ∙ c.in-Dict.is) in
    steps-as (answered c.run_on_dict.result c.run_on_dict.new.reply) _ _ c.args.command.now (λ s. dict_step s c.in-Dict.name c.args.command.now) (λ s. step s c.args.line c.args.command.now)
    (λ s need. ap (step_on s c.args.line c.args.command.now need) is) c.run_on_dict.ensures.steps

pub returns-in-Region-clause-steps : goal.returns-in-Region-clause-steps
returns-in-Region-clause-steps g c =
    let name = c.in-Region.name in
    let is : target_of c.args.command.now ≡ Region name = sym c.target-target.ensures ∙ c.in-Region.is in
    steps-as (answered c.run_in_region.result c.run_in_region.new.reply) _ _ c.args.command.now (λ s need. step_of s c.args.line c.args.command.now need (Some name)) (λ s. step s c.args.line c.args.command.now)
    (λ s need. step-region s c.args.line c.args.command.now need name (ap dict_at is) (ap region_at is))
    (c.run_in_region.ensures.steps (rules_in g.D.DictDisc.rules c.args.kinds.now.items) (gone_in g.D.DictDisc.gone c.args.kinds.now.items) c.requires.dicts)

pub returns-in-Region-clause-stays : goal.returns-in-Region-clause-stays
returns-in-Region-clause-stays g c =
    let kinds = rules_in g.D.DictDisc.rules c.args.kinds.now.items in
    let gone : List Gone = gone_in g.D.DictDisc.gone c.args.kinds.now.items in
    record {
      lasts = record {
        stands = record { regions = c.run_in_region.ensures.regions.regions; dicts = c.run_in_region.ensures.regions.dicts kinds c.requires.dicts; views = c.run_in_region.ensures.regions.views c.requires.views };
        keeps_rules = refl;
        armed = c.run_in_region.ensures.regions.armed;
        accounts = keeps-steps (answered c.run_in_region.result c.run_in_region.new.reply) _ _ c.args.command.now _ (c.run_in_region.ensures.steps kinds gone c.requires.dicts);
        asked = asked-steps (answered c.run_in_region.result c.run_in_region.new.reply) _ _ c.args.command.now _ (c.run_in_region.ensures.steps kinds gone c.requires.dicts);
        arms_none = λ n d at on. at;
      };
      spent = c.run_in_region.ensures.regions.spent;
    }
