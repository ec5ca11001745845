use Rattle.vc_base.proofs.Common.{refl, ◌∙◌, Discipline}
use Rattle.vc_steps.specs.Homes.{held_in_session, slots_on, state_over}
use Rattle.vc_steps.specs.State.{State}
use Rattle.vc_steps.specs.Told.{rules_in}
use Rattle.vc_views.specs.Numbers.{views_by}
use Rattle.vc_counts.specs.Working.{segments_at}
use Rattle.vc_counts.proofs.Alone.{alone-held, lone-dicts}
use Rattle.vc_counts.proofs.StepCounts.{WasRead, WasRun, can-next, counts-step, part-counted}
use Rattle.vc_counts.proofs.OwnNames.{are-named, are-proper}
use Rattle.vc_counts.proofs.HolderBlocks.{all-seated}
use Rattle.vc_counts.proofs.step.counted_step.Given as given
use Rattle.vc_counts.proofs.step.counted_step.Goals as goal
use Rattle.vc_counts.proofs.step.counted_step.Goals.{After-is_refusal}

abbrev meaning : (g : given.Over) → (x : g.dyn-1.0.I) × (g.dyn-1.0.entry x).0.Denot → Discipline
meaning g p = (g.dyn-1.0.entry p.0).1.state p.1

-- before the step and after it
abbrev before : (g : given.Over) → After-is_refusal g → State
before g c = state_over (meaning g) (rules_in g.D.DictDisc.rules c.args.kinds.now.items) c.args.shelf.now c.args.session.now

abbrev after : (g : given.Over) → After-is_refusal g → State
after g c = state_over (meaning g) (rules_in g.D.DictDisc.rules c.step_into.new.kinds.items) c.step_into.new.shelf c.step_into.new.self

was-run : (g : given.Over) (c : After-is_refusal g) → WasRun (before g c) (after g c) c.args.line c.args.command.now c.step_into.new.reply
was-run g c =
    let M = meaning g in
    let session = c.args.session.now in
    let held = held_in_session M session in
    let held' = held_in_session M c.step_into.new.self in
    let gives = c.in_ok-step_into.ensures.steps.gives in
    record {
      alone = alone-held M session.homes.entries session.labels.items c.requires.session.regions.named c.show_names.ensures.homes;
      lone = lone-dicts held (views_by session.paths session.dicts.entries) session.dicts.entries c.show_names.ensures.dicts;
      seated = all-seated M _ session.homes.entries session.labels.items (views_by session.paths session.dicts.entries) session.dicts.entries c.requires.session.dicts;
      proper = are-proper held (are-named c.args.session.now.is_armed (slots_on M c.args.shelf.now) held c.requires.session.regions.held);
      proper_then = are-proper held' (are-named c.step_into.new.self.is_armed (slots_on M c.step_into.new.shelf) held' c.step_into.ensures.lasts.stands.regions.held);
      state = gives.state_after;
      replied = gives.replied;
    }

was-read : (g : given.Over) (c : After-is_refusal g) → WasRead (before g c) (after g c) c.args.command.now c.step_into.new.reply c.region_worked-region.result c.reach_of-reach.result c.reached_at-held.result c.freed_by.result c.reached_at-holds.result c.put_by.result
was-read g c =
    record {
      region = c.region_worked-region.ensures;
      reach = c.reach_of-reach.ensures;
      before = c.reached_at-held.ensures;
      freed = c.freed_by.ensures;
      after = c.reached_at-holds.ensures;
      put = c.put_by.ensures;
    }

pub reached_at-held-requires-clause-names : goal.reached_at-held-requires-clause-names
reached_at-held-requires-clause-names g c =
    let M = meaning g in
    are-named c.args.session.now.is_armed (slots_on M c.args.shelf.now) (held_in_session M c.args.session.now) c.requires.session.regions.held

pub reached_at-holds-requires-clause-names : goal.reached_at-holds-requires-clause-names
reached_at-holds-requires-clause-names g c =
    let M = meaning g in
    are-named c.step_into.new.self.is_armed (slots_on M c.step_into.new.shelf) (held_in_session M c.step_into.new.self) c.step_into.ensures.lasts.stands.regions.held

pub reached_at-held-requires-clause-dicts : goal.reached_at-held-requires-clause-dicts
reached_at-held-requires-clause-dicts g c = record { kinds = _; dicts = c.requires.session.dicts }

pub reached_at-holds-requires-clause-dicts : goal.reached_at-holds-requires-clause-dicts
reached_at-holds-requires-clause-dicts g c = record { kinds = _; dicts = c.step_into.ensures.lasts.stands.dicts }

pub add-requires-clause-part : goal.add-requires-clause-part
add-requires-clause-part g c =
    let at = (goal.at.add-requires-clause-part g c).After-is_refusal in
    part-counted c.args.counts.now (before g at) (after g at) c.args.line c.args.command.now c.step_into.new.reply c.requires.counts (was-run g at)
    c.region_worked-region.result c.reach_of-reach.result c.reached_at-held.result c.freed_by.result c.reached_at-holds.result c.put_by.result (was-read g at)

pub returns-clause-runs : goal.returns-clause-runs
returns-clause-runs g c =
    let at = (goal.at.returns-clause-runs g c).After-is_refusal in
    let counted =
    c.add.ensures.value
    ∙ counts-step c.args.counts.now (before g at) (after g at) c.args.line c.args.command.now c.step_into.new.reply c.requires.counts (was-run g at)
    c.region_worked-region.result c.reach_of-reach.result c.reached_at-held.result c.freed_by.result c.reached_at-holds.result c.put_by.result (was-read g at)
    c.is_refusal.result c.last_tally-from.result.0 (segments_at c.region_worked-region.result (before g at).homes) (segments_at c.region_worked-region.result (after g at).homes) c.last_tally-from.result.1 c.tally_behind_at-now.result
    c.is_refusal.ensures refl refl c.last_tally-from.ensures.place c.last_tally-from.ensures.value c.tally_behind_at-now.ensures.value in
    record {
      lasts = c.step_into.ensures.lasts;
      runs = record {
        steps = c.in_ok-step_into.ensures.steps;
        counts = counted;
        stays = tt;
        can =
            can-next c.args.counts.now (before g at) (after g at) c.args.line c.args.command.now c.step_into.new.reply c.requires.counts (was-run g at)
            c.add.new.self counted c.add.ensures.range;
      };
    }
