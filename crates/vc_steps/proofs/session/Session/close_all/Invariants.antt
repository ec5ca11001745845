use Rattle.vc_base.proofs.Common.{◌≡◌, [], length, Discipline}
use Rattle.vc_steps.specs.Account.{ArmsNone}
use Rattle.vc_steps.specs.Homes.{HoldsRegions, settled_over, slots_on}
use Rattle.vc_steps.proofs.session.Session.close_all.Given as goal

abbrev pub meaning : (g : goal.Over) → (x : g.dyn-1.0.I) × (g.dyn-1.0.entry x).0.Denot → Discipline
meaning g p = (g.dyn-1.0.entry p.0).1.state p.1

-- the regions that are left settle as all did
abbrev pub invariant-loop-self : goal.invariant-loop-self
invariant-loop-self g l =
    record {
      session : HoldsRegions (meaning g) l.shelf l.self;
      none : l.self.dicts.entries ≡ [];
      settled : settled_over (meaning g) l.shelf l.self ≡ settled_over (meaning g) l.initial.shelf l.initial.self;
      unarmed : ArmsNone (slots_on (meaning g) l.initial.shelf) (slots_on (meaning g) l.shelf);
    }

abbrev pub decreases-loop-self : goal.decreases-loop-self
decreases-loop-self g l = length l.self.homes.entries
