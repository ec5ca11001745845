use Rattle.vc_base.proofs.Common.{◌≡◌, length, Discipline}
use Rattle.vc_steps.specs.Homes.{held_in_session}
use Rattle.vc_steps.proofs.ArmedRegions.{armed_first}
use Rattle.vc_steps.proofs.session.Session.set_version.Given as goal

abbrev pub meaning : (g : goal.Over) → (x : g.dyn-1.0.I) × (g.dyn-1.0.entry x).0.Denot → Discipline
meaning g p = (g.dyn-1.0.entry p.0).1.state p.1

-- the regions below the index are armed so
abbrev pub invariant-loop-i : goal.invariant-loop-i
invariant-loop-i g l =
    record {
      held : held_in_session (meaning g) l.self ≡ armed_first l.i l.on (held_in_session (meaning g) l.fn.self);
      count : length l.self.homes.entries ≡ length l.fn.self.homes.entries;
      rest : l.self ≡ record l.fn.self { homes = l.self.homes; is_armed = l.on };
    }
