use Rattle.vc_base.proofs.Common.{◌≡◌, Some, None, sym, refl, ap, ◌∙◌, subst, Discipline}
use Rattle.vc_script.specs.declared.refusal.Refusal.TheVariants as why
use Rattle.vc_script.specs.declared.reply.Reply.TheVariants.{Refused, Views}
use Rattle.vc_views.specs.Numbers.{AreLinked, views_by}
use Rattle.vc_steps.specs.Homes.{held_in_session}
use Rattle.vc_steps.proofs.DictByName.{dict-none}
use Rattle.vc_steps.proofs.SeenView.{ViewsHere, ViewsTo, links-ended, links-refused, links-set, number-below, path-named, path-other, stands-viewed, steps-ended, steps-missing, steps-refused, steps-set}
use Rattle.vc_steps.proofs.SessionHere.{DictAt, session_here}
use Rattle.vc_steps.proofs.SettledShelf.{keeps-same}
use Rattle.vc_steps.proofs.session.Session.view_named.Given as given
use Rattle.vc_steps.proofs.session.Session.view_named.Goals as goal
use Rattle.vc_steps.proofs.session.Session.view_named.Goals.{After-index, After-index-2, After-view_at}

abbrev meaning : (g : given.Over) → (x : g.dyn-1.0.I) × (g.dyn-1.0.entry x).0.Denot → Discipline
meaning g p = (g.dyn-1.0.entry p.0).1.state p.1

-- the session
abbrev here : (g : given.Over) (c : After-index g) → ViewsHere (meaning g)
here g c = record {
  here = session_here (meaning g) g.D.DictDisc.rules g.D.DictDisc.gone c.args.shelf.now c.args.self.now c.args.kinds.now.items c.requires.at.stands;
  paths = c.show_invariant.ensures;
  names = c.show_names.ensures;
}

-- the dictionary of the name, and the other one
abbrev own : (g : given.Over) (c : After-index g) → DictAt c.args.self.now.dicts.entries
own g c = record { name = c.args.name.now; i = c.args.i; v = c.index.result.now; index = c.requires.at.index; value = c.index.ensures }

abbrev other : (g : given.Over) (c : After-index-2 g) → DictAt c.args.self.now.dicts.entries
other g c = record {
  name = c.in-Some.lower;
  i = c.in-Some-get_index_of.j;
  v = c.index-2.result.now;
  index = sym c.get_index_of.ensures.index ∙ c.in-Some-get_index_of.is;
  value = c.index-2.ensures;
}

-- the regions and the dictionaries stay
same-homes : (g : given.Over) (c : After-view_at g) → c.view_at.new.homes.entries ≡ c.args.self.now.homes.entries
same-homes g c = ap (λ (m : _). m.entries) c.view_at.ensures.homes

same-dicts : (g : given.Over) (c : After-view_at g) → c.view_at.new.dicts.entries ≡ c.args.self.now.dicts.entries
same-dicts g c = ap (λ (m : _). m.entries) c.view_at.ensures.dicts

pub end-requires : goal.end-requires
end-requires g c =
    let i = (goal.at.end-requires g c).After-index in
    number-below (meaning g) (here g i) (own g i)

pub returns-in_default-clause-steps : goal.returns-in_default-clause-steps
returns-in_default-clause-steps g c =
    let i = (goal.at.returns-in_default-clause-steps g c).After-index in
    subst (λ o. ViewsTo (meaning g) (here g i) (own g i) c.args.self.now.homes.entries c.args.self.now.dicts.entries c.end.new.self o (Views c.args.name.now None)) (sym c.in_default.is)
    (steps-ended (meaning g) (here g i) (own g i) c.end.new.self c.end.ensures)

pub returns-in_default-clause-stays : goal.returns-in_default-clause-stays
returns-in_default-clause-stays g c =
    let i = (goal.at.returns-in_default-clause-stays g c).After-index in
    record {
      lasts = record {
        stands = record {
          regions = record { named = c.requires.at.stands.regions.named; held = c.requires.at.stands.regions.held };
          dicts = c.requires.at.stands.dicts;
          views = subst (λ ls. AreLinked ls c.args.self.now.dicts.entries) (sym c.end.ensures) (links-ended (meaning g) (here g i) (own g i));
        };
        keeps_rules = refl;
        armed = refl;
        accounts = keeps-same _;
        asked = λ off. refl;
        arms_none = λ n d at on. at;
      };
      spent = refl;
    }

pub returns-in_default-get_index_of-clause-steps : goal.returns-in_default-get_index_of-clause-steps
returns-in_default-get_index_of-clause-steps g c =
    let i = (goal.at.returns-in_default-get_index_of-clause-steps g c).After-index in
    let session = c.args.self.now in
    subst (λ o. ViewsTo (meaning g) (here g i) (own g i) session.homes.entries session.dicts.entries session.paths o (Refused why.NoDictionary)) (sym c.in-Some.is)
    (steps-missing (meaning g) (here g i) (own g i) c.in-Some.lower
    (dict-none (held_in_session (meaning g) session) (views_by session.paths session.dicts.entries) session.dicts.entries c.in-Some.lower (sym c.in_default-get_index_of.ensures.found)))

pub view_at-requires-clause-first : goal.view_at-requires-clause-first
view_at-requires-clause-first g c =
    let i = (goal.at.view_at-requires-clause-first g c).After-index in
    path-named (meaning g) (here g i) (own g i)

pub view_at-requires-clause-second : goal.view_at-requires-clause-second
view_at-requires-clause-second g c =
    let at = goal.at.view_at-requires-clause-second g c in
    path-other (meaning g) (here g at.After-index) (own g at.After-index) (other g at.After-index-2)

pub returns-in-Ok-clause-steps : goal.returns-in-Ok-clause-steps
returns-in-Ok-clause-steps g c =
    let at = goal.at.returns-in-Ok-clause-steps g c in
    let new = c.view_at.new in
    subst (λ o. ViewsTo (meaning g) (here g at.After-index) (own g at.After-index) new.homes.entries new.dicts.entries new.paths o (Views c.args.name.now (Some c.in-Some.lower))) (sym c.in-Some.is)
    (steps-set (meaning g) (here g at.After-index) (own g at.After-index) (other g at.After-index-2) new.homes.entries new.dicts.entries new.paths (same-homes g at.After-view_at) (same-dicts g at.After-view_at)
    (sym c.in-Ok.ensures.fault) c.in-Ok.ensures.ok)

pub returns-in-Ok-clause-stays : goal.returns-in-Ok-clause-stays
returns-in-Ok-clause-stays g c =
    let at = goal.at.returns-in-Ok-clause-stays g c in
    let linked =
    links-set (meaning g) (here g at.After-index) (own g at.After-index) (other g at.After-index-2) c.view_at.new.homes.entries c.view_at.new.dicts.entries c.view_at.new.paths (same-homes g at.After-view_at) (same-dicts g at.After-view_at) (sym c.in-Ok.ensures.fault) c.in-Ok.ensures.ok in
    let stands = stands-viewed (meaning g) (here g at.After-index) (own g at.After-index) (other g at.After-index-2) c.view_at.new.homes.entries c.view_at.new.dicts.entries c.view_at.new.paths (same-homes g at.After-view_at) (same-dicts g at.After-view_at) linked in
    record {
      lasts = record {
        stands = record {
          regions = record { named = stands.named; held = stands.held };
          dicts = stands.dicts;
          views = stands.views;
        };
        keeps_rules = refl;
        armed = refl;
        accounts = stands.accounts;
        asked = λ off. stands.asked;
        arms_none = λ n d at on. at;
      };
      spent = refl;
    }

pub returns-in-Err-clause-steps : goal.returns-in-Err-clause-steps
returns-in-Err-clause-steps g c =
    let at = goal.at.returns-in-Err-clause-steps g c in
    let new = c.view_at.new in
    let ViewsSo = ViewsTo (meaning g) (here g at.After-index) (own g at.After-index) new.homes.entries new.dicts.entries new.paths in
    subst (λ o. ViewsSo o (Refused c.refusal_of.result)) (sym c.in-Some.is)
    (subst (λ r. ViewsSo (Some c.in-Some.lower) (Refused r)) (sym c.refusal_of.ensures)
    (steps-refused (meaning g) (here g at.After-index) (own g at.After-index) (other g at.After-index-2) new.homes.entries new.dicts.entries new.paths (same-homes g at.After-view_at) (same-dicts g at.After-view_at)
    c.in-Err.fault (sym c.in-Err.ensures.fault) c.in-Err.ensures.err))

pub returns-in-Err-clause-stays : goal.returns-in-Err-clause-stays
returns-in-Err-clause-stays g c =
    let at = goal.at.returns-in-Err-clause-stays g c in
    let linked = links-refused (meaning g) (here g at.After-index) (own g at.After-index) (other g at.After-index-2) c.view_at.new.homes.entries c.view_at.new.dicts.entries c.view_at.new.paths (same-homes g at.After-view_at) (same-dicts g at.After-view_at) c.in-Err.ensures.err in
    let stands = stands-viewed (meaning g) (here g at.After-index) (own g at.After-index) (other g at.After-index-2) c.view_at.new.homes.entries c.view_at.new.dicts.entries c.view_at.new.paths (same-homes g at.After-view_at) (same-dicts g at.After-view_at) linked in
    record {
      lasts = record {
        stands = record {
          regions = record { named = stands.named; held = stands.held };
          dicts = stands.dicts;
          views = stands.views;
        };
        keeps_rules = refl;
        armed = refl;
        accounts = stands.accounts;
        asked = λ off. stands.asked;
        arms_none = λ n d at on. at;
      };
      spent = refl;
    }
