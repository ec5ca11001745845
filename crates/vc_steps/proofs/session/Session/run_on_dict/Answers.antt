use Rattle.vc_base.proofs.Common.{refl, ◌≡◌, ◌<◌, false, slice_get, Some, sym, ap, ◌∙◌, Discipline}
use Rattle.vc_script.specs.Needs.{NoNeed}
use Rattle.vc_script.specs.Target.{dict_at, looks, works_alone}
use Rattle.vc_script.specs.declared.target.Target.TheVariants.{Dict}
use Rattle.vc_script.specs.declared.refusal.Refusal.TheVariants.{NoDictionary, Viewed}
use Rattle.vc_script.specs.declared.reply.Reply.TheVariants.{Refused}
use Rattle.vc_commands.specs.Held.{home_of}
use Rattle.vc_paths.specs.Links.{is_viewed, numbers}
use Rattle.vc_views.specs.Numbers.{bars, bars_at, is_barred, views_by}
use Rattle.vc_views.proofs.NumbersToNames.{all-at}
use Rattle.vc_steps.specs.Dicts.{dict_command, dict_of, dict_step, on_found}
use Rattle.vc_steps.specs.Homes.{held_in_session, state_over}
use Rattle.vc_steps.specs.Told.{gone_in, rules_in}
use Rattle.vc_steps.proofs.BarredCommands.{barred-refused, ends-is, viewed-here, works-alone}
use Rattle.vc_steps.proofs.RegionChange.{gives-same}
use Rattle.vc_steps.proofs.DictEnd.{step-dict, step-shut}
use Rattle.vc_steps.proofs.DictByName.{dict-none}
use Rattle.vc_steps.proofs.DictsStay.{Entry}
use Rattle.vc_steps.proofs.SessionEnd.{if_some-at, if_some-to}
use Rattle.vc_steps.proofs.SessionHere.{DictAt, SessionHere, entry_at, first-at, helds, session_here, stands-at, state_here, views, whole_at}
use Rattle.vc_steps.proofs.SettledShelf.{settles-equal, settles-same}
use Rattle.vc_steps.proofs.session.Session.run_on_dict.Given as given
use Rattle.vc_steps.proofs.session.Session.run_on_dict.Goals as goal
use Rattle.vc_steps.proofs.session.Session.run_on_dict.Goals.{After-index}

abbrev meaning : (g : given.Over) → (x : g.dyn-1.0.I) × (g.dyn-1.0.entry x).0.Denot → Discipline
meaning g p = (g.dyn-1.0.entry p.0).1.state p.1

-- the command is on the dictionary of the name
abbrev named : (g : given.Over) (c : After-index g) → dict_of c.args.command.now ≡ Some c.args.name.now
named g c = ap dict_at c.requires.command

-- the session, and the dictionary of the name
abbrev here : (g : given.Over) (c : After-index g) → SessionHere (meaning g)
here g c = session_here (meaning g) g.D.DictDisc.rules g.D.DictDisc.gone c.args.shelf.now c.args.self.now c.args.kinds.now.items c.requires.session

abbrev own : (g : given.Over) (c : After-index g) → DictAt c.args.self.now.dicts.entries
own g c = record { name = c.args.name.now; i = c.in-Some.i; v = c.index.result.now; index = sym c.in-Some.ensures.index; value = c.index.ensures }

pub returns-in_default-clause-steps : goal.returns-in_default-clause-steps
returns-in_default-clause-steps g c =
    let s = state_over (meaning g) (rules_in g.D.DictDisc.rules c.args.kinds.now.items) c.args.shelf.now c.args.self.now in
    let name = c.args.name.now in
    record {
      gives =
          gives-same (dict_step s name c.args.command.now NoNeed) (gone_in g.D.DictDisc.gone c.args.kinds.now.items) (Refused NoDictionary) s
          (ap (on_found s (dict_command s c.args.command.now NoNeed)) (dict-none (held_in_session (meaning g) c.args.self.now) (views_by c.args.self.now.paths c.args.self.now.dicts.entries) c.args.self.now.dicts.entries name (sym c.in_default.ensures.found)));
      settles = settles-same _;
      armed = refl;
      lacks = tt;
    }

pub is_barred-requires : goal.is_barred-requires
is_barred-requires g c =
    let a = (goal.at.is_barred-requires g c).After-index in
    all-at (λ (e : Entry). e.1.number < numbers) c.args.self.now.dicts.entries c.in-Some.i (entry_at (own g a)) c.requires.session.views.numbered.below (stands-at c.args.self.now.dicts.entries (own g a))

pub returns-then-is_barred-clause-steps : goal.returns-then-is_barred-clause-steps
returns-then-is_barred-clause-steps g c =
    let a = (goal.at.returns-then-is_barred-clause-steps g c).After-index in
    let all = here g a in
    let d = own g a in
    let there = stands-at all.es d in
    let is = whole_at all d in
    let s = state_here all in
    record {
      gives =
          gives-same (dict_step s d.name c.args.command.now NoNeed) all.gone (Refused Viewed) s
          (step-dict all.kinds all.slots (helds all) all.es (views all) d.i (entry_at d) there (first-at all d) all.dicts c.args.command.now NoNeed
          ∙ barred-refused all.kinds all.slots (helds all) all.links all.es c.show_names.ensures all.are d.i (entry_at d) there c.args.command.now NoNeed (home_of is.home) is.rules
          (ap (bars_at all.links d.v.number) c.requires.command ∙ sym c.if-is_barred.ensures));
      settles = settles-same _;
      armed = refl;
      lacks = tt;
    }

pub shut_at-requires-clause-unviewed : goal.shut_at-requires-clause-unviewed
shut_at-requires-clause-unviewed g c =
    let d = own g (goal.at.shut_at-requires-clause-unviewed g c).After-index in
    if_some-to (λ (e : Entry). is_viewed c.args.self.now.paths e.1.number ≡ false) (slice_get c.args.self.now.dicts.entries d.i) (entry_at d) (stands-at c.args.self.now.dicts.entries d)
    (ap (bars c.args.self.now.paths d.v.number) (sym c.in-End.is) ∙ sym c.if-is_barred.ensures)

pub returns-in-End-clause-steps : goal.returns-in-End-clause-steps
returns-in-End-clause-steps g c =
    let a = (goal.at.returns-in-End-clause-steps g c).After-index in
    let all = here g a in
    let d = own g a in
    let there = stands-at all.es d in
    let shuts = if_some-at _ (slice_get all.es d.i) (entry_at d) there c.shut_at.ensures.shuts.shuts in
    let unviewed = viewed-here all.kinds all.slots (helds all) all.links all.es c.show_names.ensures all.are d.i (entry_at d) there
    ∙ (ap (bars all.links d.v.number) (sym c.in-End.is) ∙ sym c.if-is_barred.ensures) in
    let ends = ends-is c.args.command.now d.name (c.requires.command ∙ ap (λ w. Dict d.name w) c.in-End.is) in
    record {
      gives =
          step-shut all.kinds all.slots (helds all) all.es (views all) d.i (entry_at d) there (first-at all d) all.dicts c.args.command.now d.name _
          all.gone _ ends unviewed shuts.state shuts.gone;
      settles = settles-equal _ _ shuts.accounts;
      armed = c.shut_at.ensures.stays.lasts.armed;
      lacks = tt;
    }

pub run_at-requires-clause-name : goal.run_at-requires-clause-name
run_at-requires-clause-name g c = named g (goal.at.run_at-requires-clause-name g c).After-index

pub run_at-requires-clause-alone : goal.run_at-requires-clause-alone
run_at-requires-clause-alone g c =
    ap works_alone c.requires.command ∙ works-alone c.args.name.now c.args.work c.in_default-work.not-Look c.in_default-work.not-View c.in_default-work.not-End

pub run_at-requires-clause-free : goal.run_at-requires-clause-free
run_at-requires-clause-free g c =
    let d = own g (goal.at.run_at-requires-clause-free g c).After-index in
    if_some-to (λ (e : Entry). is_barred c.args.self.now.paths e.1.number c.args.command.now ≡ false) (slice_get c.args.self.now.dicts.entries d.i) (entry_at d) (stands-at c.args.self.now.dicts.entries d)
    (ap (bars_at c.args.self.now.paths d.v.number) c.requires.command ∙ sym c.if-is_barred.ensures)

pub look_at-requires-clause-name : goal.look_at-requires-clause-name
look_at-requires-clause-name g c = named g (goal.at.look_at-requires-clause-name g c).After-index

pub look_at-requires-clause-look : goal.look_at-requires-clause-look
look_at-requires-clause-look g c = ap looks (c.requires.command ∙ ap (λ w. Dict c.args.name.now w) c.in-Look.is)

pub view_by-requires-clause-command : goal.view_by-requires-clause-command
view_by-requires-clause-command g c = c.requires.command ∙ ap (λ w. Dict c.args.name.now w) c.in-View.is
