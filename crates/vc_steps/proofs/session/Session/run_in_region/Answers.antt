use Rattle.vc_base.proofs.Common.{map, Some, sym, refl, ◌∙◌, subst, and_parts, Discipline}
use Rattle.vc_commands.specs.Answered.{answered}
use Rattle.vc_commands.specs.Held.{home_of}
use Rattle.vc_views.specs.Numbers.{views_by}
use Rattle.vc_steps.specs.Account.{IsSession}
use Rattle.vc_steps.specs.DictHomes.{AreDicts, lies_in}
use Rattle.vc_steps.specs.Homes.{held_in_session, slots_on, state_over}
use Rattle.vc_commands.specs.RegionRun.{held_of}
use Rattle.vc_commands.specs.Home.{is_home}
use Rattle.vc_steps.specs.Step.{is_clear, step_of}
use Rattle.vc_steps.specs.Steps.{StepsBy}
use Rattle.vc_steps.proofs.RegionChange.{session-change, step-busy, step-none}
use Rattle.vc_steps.proofs.DictsStay.{busy-lies}
use Rattle.vc_commands.proofs.Firsts.{find-first, find-none}
use Rattle.vc_steps.proofs.Helds.{any-named, first-named}
use Rattle.vc_steps.proofs.InRegion.{clear-free, clear-is, if_ok_at}
use Rattle.vc_steps.proofs.RegionAt.{RegionAt, helds-put, label-read, named-put, region-first, region-stands, region_at}
use Rattle.vc_steps.proofs.RegionSteps.{moment_over, region-ran}
use Rattle.vc_steps.proofs.Sessions.{held-at}
use Rattle.vc_steps.proofs.SettledShelf.{settles-same}
use Rattle.vc_steps.proofs.session.Session.run_in_region.Given as given
use Rattle.vc_steps.proofs.session.Session.run_in_region.Goals as goal
use Rattle.vc_steps.proofs.session.Session.run_in_region.Goals.{After-index_mut-2}

abbrev meaning : (g : given.Over) → (x : g.dyn-1.0.I) × (g.dyn-1.0.entry x).0.Denot → Discipline
meaning g p = (g.dyn-1.0.entry p.0).1.state p.1

-- the region of the name
abbrev region : (g : given.Over) (c : After-index_mut-2 g) → RegionAt c.args.self.now.homes.entries c.args.self.now.labels.items c.args.name.now c.in-Some.i c.index_mut.result.now
region g c =
    let index = sym c.in-Some.ensures.index in
    record {
      named = c.requires.regions.named;
      index = index;
      value = c.index_mut.ensures.value;
      l = c.index_mut-2.result.now;
      own = label-read c.args.self.now.homes.entries c.args.self.now.labels.items c.args.name.now c.in-Some.i c.requires.regions.named index c.index_mut-2.result.now c.index_mut-2.ensures.value;
    }

pub returns-in_default-clause-steps : goal.returns-in_default-clause-steps
returns-in_default-clause-steps g c = λ kinds gone dicts.
    record {
      gives =
          step-none (state_over (meaning g) kinds c.args.shelf.now c.args.self.now) gone c.args.line c.args.command.now c.args.name.now
          (find-none (is_home c.args.name.now) (map home_of (held_in_session (meaning g) c.args.self.now)) (any-named (meaning g) c.args.self.now.homes.entries c.args.self.now.labels.items c.args.name.now c.requires.regions.named ∙ sym c.in_default.ensures.found));
      settles = settles-same _;
      armed = refl;
      lacks = tt;
    }

pub returns-then-clears_busy-clause-steps : goal.returns-then-clears_busy-clause-steps
returns-then-clears_busy-clause-steps g c = λ kinds gone dicts.
    let helds = held_in_session (meaning g) c.args.self.now in
    let es = c.args.self.now.dicts.entries in
    let first = first-named (meaning g) c.args.self.now.homes.entries c.args.self.now.labels.items c.args.name.now c.in-Some.i c.requires.regions.named (sym c.in-Some.ensures.index) in
    let both = and_parts (is_clear c.args.command.now) (lies_in c.args.name.now es) (sym c.if-clears_busy.ensures) in
    let is = clear-is c.args.command.now both.0 in
    record {
      gives =
          step-busy (state_over (meaning g) kinds c.args.shelf.now c.args.self.now) gone c.args.line c.args.command.now c.args.name.now is.0 first.item
          (find-first (is_home c.args.name.now) (map home_of helds) c.in-Some.i first) is.1 (busy-lies helds (views_by c.args.self.now.paths es) es c.args.name.now ∙ both.1);
      settles = settles-same _;
      armed = refl;
      lacks = tt;
    }

pub run-requires : goal.run-requires
run-requires g c =
    let x = region g (goal.at.run-requires g c).After-index_mut-2 in
    let held = held-at c.args.self.now.is_armed (slots_on (meaning g) c.args.shelf.now) (held_in_session (meaning g) c.args.self.now) c.in-Some.i (region_at (meaning g) x) (region-stands (meaning g) x) c.requires.regions.held in
    record { names = held.names; lent = held.lent }

pub returns : goal.returns
returns g c =
    let M = meaning g in
    let x = region g (goal.at.returns g c).After-index_mut-2 in
    let h = region_at M x in
    let at = region-stands M x in
    let slots = slots_on M c.args.shelf.now in
    let helds = held_in_session M c.args.self.now in
    let es = c.args.self.now.dicts.entries in
    let vs = views_by c.args.self.now.paths es in
    let r = c.args.name.now in
    let command = c.args.command.now in
    let session = c.requires.regions.held in
    let i = c.in-Some.i in
    let k = held_of M r c.run.new.self c.run.new.labels in
    let change = c.run.ensures.change r in
    let after = helds-put M x c.run.new.self c.run.new.labels in
    let ran =
    region-ran c.args.self.now.is_armed slots helds es vs i h k at session c.args.line command change r (region-first M x) c.requires.dict c.requires.region (clear-free command (lies_in r es) (sym c.if-clears_busy.ensures)) (answered c.run.result c.run.new.reply)
    (if_ok_at (answered c.run.result c.run.new.reply) _ _ (λ reply is runs. runs r) c.run.ensures.runs.step) c.run.ensures.runs.err c.run.ensures.runs.unserved (λ other. (c.run.ensures.runs.served other).faults) in
    record {
      steps = λ kinds gone dicts.
          subst (λ hs. StepsBy (answered c.run.result c.run.new.reply) (moment_over c.args.self.now.is_armed slots es vs kinds gone helds) (moment_over c.args.self.now.is_armed slots es vs kinds gone hs) command (λ s need. step_of s c.args.line command need (Some r))) (sym after) (ran.0 kinds gone dicts);
      regions = record {
        regions = record {
          named = named-put M x c.run.new.self c.run.new.labels;
          held = subst (λ hs. IsSession c.args.self.now.is_armed slots hs) (sym after) (session-change c.args.self.now.is_armed slots helds i h k at session change);
        };
        dicts = λ kinds dicts. subst (λ hs. AreDicts kinds hs es) (sym after) (ran.1 kinds dicts);
        views = λ are. are;
        spent = refl;
        armed = refl;
      };
    }
