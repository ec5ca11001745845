use Rattle.vc_base.proofs.Common.{ap, ◌∙◌, Discipline}
use Rattle.vc_views.specs.Numbers.{views_by}
use Rattle.vc_views.proofs.LinkChanges.{linked-none}
use Rattle.vc_steps.specs.Homes.{held_in_session}
use Rattle.vc_steps.specs.Told.{gone_in, tell}
use Rattle.vc_steps.proofs.SessionEnd.{told-views}
use Rattle.vc_steps.proofs.session.Session.end.Given as given
use Rattle.vc_steps.proofs.session.Session.end.Goals as goal

abbrev meaning : (g : given.Over) → (x : g.dyn-1.0.I) × (g.dyn-1.0.entry x).0.Denot → Discipline
meaning g p = (g.dyn-1.0.entry p.0).1.state p.1

pub shut_all-requires-clause-session : goal.shut_all-requires-clause-session
shut_all-requires-clause-session g c = record {
  regions = record { named = c.requires.regions.named; held = c.requires.regions.held };
  dicts = c.requires.dicts;
  views = linked-none c.end_views.new.paths c.args.self.dicts.entries c.end_views.ensures c.requires.views.numbered;
}

pub returns-clause-gone : goal.returns-clause-gone
returns-clause-gone g c =
    let es = c.args.self.dicts.entries in
    c.shut_all.ensures.told
    ∙ ap (λ told. tell told (gone_in g.D.DictDisc.gone c.args.kinds.now.items))
    (told-views (held_in_session (meaning g) c.args.self) (views_by c.args.self.paths es) (views_by c.end_views.new.paths es) es)
