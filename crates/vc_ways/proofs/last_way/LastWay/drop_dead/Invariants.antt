use Rattle.vc_base.proofs.Common.{◌≡◌, length, true, Discipline}
use Rattle.vc_last.specs.Parts.{segments_in}
use Rattle.vc_ways.specs.Answer.{KeepsWay}
use Rattle.vc_ways.specs.LastWay.{drop_dead}
use Rattle.vc_ways.specs.LastParts.{IsPaired, holding_of, way_of}
use Rattle.vc_ways.proofs.last_way.LastWay.drop_dead.Given as goal

abbrev pub meaning : (g : goal.Over) → (x : g.dyn-1.0.I) × (g.dyn-1.0.entry x).0.Denot → Discipline
meaning g p = (g.dyn-1.0.entry p.0).1.state p.1

-- what is left to free is what was to be freed
abbrev pub invariant-loop-self : goal.invariant-loop-self
invariant-loop-self g l =
    record {
      way : drop_dead (way_of l.self) ≡ drop_dead (way_of l.initial.self);
      paired : IsPaired l.self;
      keeps : KeepsWay true (holding_of (meaning g) l.initial.self) (holding_of (meaning g) l.self);
      segments : segments_in l.self.region ≡ segments_in l.initial.self.region;
    }

abbrev pub decreases-loop-self : goal.decreases-loop-self
decreases-loop-self g l = length l.self.dead.items
