use Rattle.vc_base.proofs.Common.{sym, ap, ◌∙◌, subst, same_Some, Discipline}
use Rattle.vc_script.specs.Needs.{need_shown}
use Rattle.vc_script.specs.Target.{dict_at}
use Rattle.vc_script.specs.declared.command.Command.TheVariants.{View}
use Rattle.vc_steps.specs.Dicts.{dict_of, dict_step}
use Rattle.vc_steps.specs.Homes.{state_over}
use Rattle.vc_steps.specs.Moment.{moment}
use Rattle.vc_steps.specs.Steps.{Steps}
use Rattle.vc_steps.specs.Told.{rules_in}
use Rattle.vc_steps.proofs.BarredCommands.{views-is}
use Rattle.vc_steps.proofs.session.Session.view_by.Given as given
use Rattle.vc_steps.proofs.session.Session.view_by.Goals as goal

abbrev meaning : (g : given.Over) → (x : g.dyn-1.0.I) × (g.dyn-1.0.entry x).0.Denot → Discipline
meaning g p = (g.dyn-1.0.entry p.0).1.state p.1

pub unreachable-requires : goal.unreachable-requires
unreachable-requires g c =
    let is = views-is c.args.command.now c.args.name.now c.requires.command in
    c.in_default.not-View c.args.name.now is.0 is.1

pub returns-clause-steps : goal.returns-clause-steps
returns-clause-steps g c =
    let M = meaning g in
    let rules = g.D.DictDisc.rules in
    let gone = g.D.DictDisc.gone in
    let items = c.args.kinds.now.items in
    let shelf = c.args.shelf.now in
    let old = c.args.self.now in
    let new = c.view_named.new.self in
    let name = c.args.name.now in
    let viewed = c.in-View.viewed in
    subst (λ x. Steps (moment M rules gone shelf old items) (moment M rules gone shelf new items) x (dict_step (state_over M (rules_in rules items) shelf old) name x (need_shown c.view_named.result)) c.view_named.result)
    (sym (c.in-View.is ∙ ap (λ n. View n viewed) (same_Some c.in-View.field-0 name (sym (ap dict_of c.in-View.is) ∙ ap dict_at c.requires.command))))
    c.view_named.ensures.steps
