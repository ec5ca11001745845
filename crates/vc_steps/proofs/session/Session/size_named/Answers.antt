use Rattle.vc_base.proofs.Common.{map, sym, ap, ◌∙◌, Discipline}
use Rattle.vc_commands.proofs.Firsts.{find-none}
use Rattle.vc_commands.specs.Held.{AreLabelsOf, home_of}
use Rattle.vc_commands.specs.Home.{is_home}
use Rattle.vc_views.proofs.NumbersToNames.{all-at}
use Rattle.vc_steps.specs.Homes.{held_in_session}
use Rattle.vc_steps.specs.Sizes.{size_in_home}
use Rattle.vc_steps.proofs.Helds.{any-named}
use Rattle.vc_steps.proofs.RegionAt.{RegionAt, label-read, region-named, region-stands, region_at}
use Rattle.vc_steps.proofs.session.Session.size_named.Given as given
use Rattle.vc_steps.proofs.session.Session.size_named.Goals as goal
use Rattle.vc_steps.proofs.session.Session.size_named.Goals.{After-index-in-Some}

abbrev meaning : (g : given.Over) → (x : g.dyn-1.0.I) × (g.dyn-1.0.entry x).0.Denot → Discipline
meaning g p = (g.dyn-1.0.entry p.0).1.state p.1

-- the region of the name
abbrev region : (g : given.Over) (c : After-index-in-Some g) → RegionAt c.args.self.now.homes.entries c.args.self.now.labels.items c.args.region.now c.in-Some.i c.index.result.now
region g c =
    let index = sym c.in-Some.ensures.index in
    record {
      named = c.requires.labels;
      index = index;
      value = c.index.ensures;
      l = c.index-in-Some.result.now;
      own = label-read c.args.self.now.homes.entries c.args.self.now.labels.items c.args.region.now c.in-Some.i c.requires.labels index c.index-in-Some.result.now c.index-in-Some.ensures;
    }

pub size_named-requires : goal.size_named-requires
size_named-requires g c =
    let x = region g (goal.at.size_named-requires g c).After-index-in-Some in
    record { names = all-at (λ h. AreLabelsOf h.region h.labels) (held_in_session (meaning g) c.args.self.now) c.in-Some.i (region_at (meaning g) x) c.requires.names (region-stands (meaning g) x) }

pub returns-in-Some : goal.returns-in-Some
returns-in-Some g c =
    let x = region g (goal.at.returns-in-Some g c).After-index-in-Some in
    c.size_named.ensures ∙ sym (ap (size_in_home c.args.block.now) (region-named (meaning g) x))

pub returns-in-None : goal.returns-in-None
returns-in-None g c =
    sym (ap (size_in_home c.args.block.now) (find-none (is_home c.args.region.now) (map home_of (held_in_session (meaning g) c.args.self.now)) (any-named (meaning g) c.args.self.now.homes.entries c.args.self.now.labels.items c.args.region.now c.requires.labels ∙ sym c.in-None.ensures.found)))
