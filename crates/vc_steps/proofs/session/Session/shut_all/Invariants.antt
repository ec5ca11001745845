use Rattle.vc_base.proofs.Common.{◌≡◌, ℕ, length, None, Discipline}
use Rattle.vc_paths.specs.Links.{below}
use Rattle.vc_steps.specs.Homes.{IsSessionOver, settled_over, state_over}
use Rattle.vc_steps.specs.Told.{ended_told, gone_in, rules_in, tell}
use Rattle.vc_steps.proofs.session.Session.shut_all.Given as goal

abbrev pub meaning : (g : goal.Over) → (x : g.dyn-1.0.I) × (g.dyn-1.0.entry x).0.Denot → Discipline
meaning g p = (g.dyn-1.0.entry p.0).1.state p.1

-- the dictionaries that are left tell the rest of what all do
abbrev pub invariant-loop-self : goal.invariant-loop-self
invariant-loop-self g l =
    record {
      views : (n : ℕ) → below l.self.paths n ≡ None;
      session : IsSessionOver (meaning g) g.D.DictDisc.rules l.shelf l.self l.kinds.items;
      rules : rules_in g.D.DictDisc.rules l.kinds.items ≡ rules_in g.D.DictDisc.rules l.initial.kinds.items;
      gone :
          tell (ended_told (state_over (meaning g) (rules_in g.D.DictDisc.rules l.initial.kinds.items) l.shelf l.self)) (gone_in g.D.DictDisc.gone l.kinds.items)
          ≡ tell (ended_told (state_over (meaning g) (rules_in g.D.DictDisc.rules l.initial.kinds.items) l.shelf l.initial.self)) (gone_in g.D.DictDisc.gone l.initial.kinds.items);
      settled : settled_over (meaning g) l.shelf l.self ≡ settled_over (meaning g) l.shelf l.initial.self;
    }

abbrev pub decreases-loop-self : goal.decreases-loop-self
decreases-loop-self g l = length l.self.dicts.entries
