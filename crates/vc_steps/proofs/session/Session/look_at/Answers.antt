use Rattle.vc_base.proofs.Common.{sym, refl, subst, Discipline}
use Rattle.std.proofs.lemmas.Option.{slice_get_within}
use Rattle.vc_paths.specs.Path.{IsPath}
use Rattle.vc_views.specs.Promises.{layered_over}
use Rattle.vc_steps.proofs.LookSteps.{dicts-looked, linked-looked, named-looked, session-looked, settled-looked, steps-looked}
use Rattle.vc_steps.proofs.SeenEntry.{entry-named, number-named}
use Rattle.vc_steps.proofs.SessionLayers.{are-over, path-here}
use Rattle.vc_steps.proofs.SessionHere.{SessionHere, session_here}
use Rattle.vc_steps.proofs.SettledShelf.{asked-equal, keeps-equal}
use Rattle.vc_steps.proofs.session.Session.look_at.Given as given
use Rattle.vc_steps.proofs.session.Session.look_at.Goals as goal
use Rattle.vc_steps.proofs.session.Session.look_at.Goals.{After-show_names}

abbrev meaning : (g : given.Over) → (x : g.dyn-1.0.I) × (g.dyn-1.0.entry x).0.Denot → Discipline
meaning g p = (g.dyn-1.0.entry p.0).1.state p.1

-- the session
abbrev here : (g : given.Over) (c : After-show_names g) → SessionHere (meaning g)
here g c = session_here (meaning g) g.D.DictDisc.rules g.D.DictDisc.gone c.args.shelf.now c.args.self.now c.args.kinds.now.items c.requires.at.stands

pub look_at-requires : goal.look_at-requires
look_at-requires g c =
    let all = here g (goal.at.look_at-requires g c).After-show_names in
    let entry = entry-named all.es c.args.name.now c.args.i c.requires.at.index in
    record {
      dicts = are-over (meaning g) all.kinds all.homes all.labels all.es all.named all.dicts;
      numbers = all.are.numbered;
      index = slice_get_within all.es c.args.i (c.args.name.now, entry.0) entry.1;
      path =
          subst (IsPath (layered_over all.kinds all.homes all.es) all.links) (sym (number-named all.es c.args.name.now c.args.i c.requires.at.index))
          (path-here (meaning g) all.kinds all.homes all.labels all.es all.named all.dicts all.links all.are c.args.i (c.args.name.now, entry.0) entry.1);
      look = c.requires.look;
    }

pub returns : goal.returns
returns g c =
    let all = here g (goal.at.returns g c).After-show_names in
    let looked = c.look_at.ensures in
    record {
      steps = steps-looked all looked c.show_names.ensures c.args.name.now c.requires.at.index c.requires.look;
      stays = record {
        lasts = record {
          stands = record {
            regions = record { named = named-looked all looked; held = session-looked all looked };
            dicts = dicts-looked all looked;
            views = linked-looked all looked c.show_names.ensures c.args.name.now c.requires.at.index c.requires.look;
          };
          keeps_rules = refl;
          armed = refl;
          accounts = keeps-equal _ _ (settled-looked all looked);
          asked = λ off. asked-equal _ _ (settled-looked all looked);
          arms_none = λ n d at on. at;
        };
        spent = refl;
      };
    }
