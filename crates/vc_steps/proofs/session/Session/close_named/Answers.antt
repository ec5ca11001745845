use Rattle.vc_base.proofs.Common.{◌≡◌, ◌-◌, false, length, set, slice_get, Some, remove, sym, ap, ◌∙◌, Discipline}
use Rattle.vc_region.specs.Region.{segments_of}
use Rattle.vc_script.specs.declared.reply.Reply.TheVariants.{Closed}
use Rattle.vc_commands.specs.declared.region.home.HomeEntry.{HomeEntry}
use Rattle.vc_commands.specs.Held.{Held}
use Rattle.vc_steps.specs.Account.{account_after, accounts, state_of}
use Rattle.vc_steps.specs.DictHomes.{dicts_in, lies_in}
use Rattle.vc_steps.specs.Homes.{accounts_on, held_in_session, slots_on, state_over}
use Rattle.vc_views.specs.Numbers.{views_by}
use Rattle.vc_steps.specs.State.{close_home, step_with_reply}
use Rattle.vc_commands.specs.Home.{is_home}
use Rattle.vc_steps.proofs.CloseLeaves.{close-busy, step-close}
use Rattle.vc_steps.proofs.DictsStay.{all-other, busy-lies, dicts_in-stay, stays-remove}
use Rattle.vc_commands.proofs.Firsts.{find-none}
use Rattle.vc_steps.proofs.SessionEnd.{if_some-at, if_some-to}
use Rattle.vc_steps.proofs.RegionAt.{RegionAt, found_at, region-first, region-stands, region_at}
use Rattle.vc_steps.proofs.Helds.{any-named}
use Rattle.vc_steps.proofs.session.Session.close_named.Given as given
use Rattle.vc_steps.proofs.session.Session.close_named.Goals as goal
use Rattle.vc_steps.proofs.session.Session.close_named.Goals.{In-Some}

abbrev meaning : (g : given.Over) → (x : g.dyn-1.0.I) × (g.dyn-1.0.entry x).0.Denot → Discipline
meaning g p = (g.dyn-1.0.entry p.0).1.state p.1

-- the region of the name
abbrev region : (g : given.Over) (c : In-Some g) → (v : HomeEntry _ _) × RegionAt c.args.self.now.homes.entries c.args.self.now.labels.items c.args.name.now c.in-Some.i v
region g c = found_at c.args.self.now.homes.entries c.args.self.now.labels.items c.args.name.now c.in-Some.i c.requires.named (sym c.in-Some.ensures.index)

pub returns-in-None-clause-step : goal.returns-in-None-clause-step
returns-in-None-clause-step g c = λ kinds dicts.
    let s = state_over (meaning g) kinds c.args.shelf.now c.args.self.now in
    ap (close_home s c.args.name.now) (find-none (is_home c.args.name.now) s.homes (any-named (meaning g) c.args.self.now.homes.entries c.args.self.now.labels.items c.args.name.now c.requires.named ∙ sym c.in-None.ensures.found))

pub returns-then-is_busy-clause-step : goal.returns-then-is_busy-clause-step
returns-then-is_busy-clause-step g c = λ kinds dicts.
    let x = (region g (goal.at.returns-then-is_busy-clause-step g c).In-Some).1 in
    close-busy (state_over (meaning g) kinds c.args.shelf.now c.args.self.now) c.args.name.now c.in-Some.i (region-first (meaning g) x) (busy-lies (held_in_session (meaning g) c.args.self.now) (views_by c.args.self.now.paths c.args.self.now.dicts.entries) c.args.self.now.dicts.entries c.args.name.now ∙ sym c.if-is_busy.ensures)

pub close_at-requires-clause-free : goal.close_at-requires-clause-free
close_at-requires-clause-free g c =
    let x = (region g (goal.at.close_at-requires-clause-free g c).In-Some).1 in
    if_some-to (λ (k : Held). lies_in k.name c.args.self.now.dicts.entries ≡ false) (slice_get (held_in_session (meaning g) c.args.self.now) c.in-Some.i) (region_at (meaning g) x) (region-stands (meaning g) x) (sym c.if-is_busy.ensures)

pub returns-else-is_busy-clause-step : goal.returns-else-is_busy-clause-step
returns-else-is_busy-clause-step g c = λ kinds dicts.
    let M = meaning g in
    let x = (region g (goal.at.returns-else-is_busy-clause-step g c).In-Some).1 in
    let h = region_at M x in
    let at = region-stands M x in
    let session = c.args.self.now in
    let session' = c.close_at.new.self in
    let slots = slots_on M c.args.shelf.now in
    let slots' = slots_on M c.close_at.new.shelf in
    let helds = held_in_session M session in
    let es = session.dicts.entries in
    let vs = views_by session.paths es in
    let i = c.in-Some.i in
    let r = c.args.name.now in
    let count = c.close_at.result in
    let closes = c.close_at.ensures.closes in
    let here = if_some-at (λ (k : Held). accounts_on M c.close_at.new.shelf ≡ set (accounts slots) (k.place - 1) (Some (account_after k))) (slice_get helds i) h at closes.here in
    let counted = if_some-at (λ (k : Held). count ≡ length (segments_of k.region)) (slice_get helds i) h at closes.count_is in
    let free : lies_in r es ≡ false = sym c.if-is_busy.ensures in
    let stays = dicts_in-stay kinds helds (remove helds i) vs es (all-other kinds helds (remove helds i) r (λ e other. stays-remove kinds helds i h at e other) es free) dicts in
    let helds' = held_in_session M session' in
    step-close c.args.self.now.is_armed slots slots' helds i h at c.requires.held here kinds (dicts_in helds vs es) r count (region-first M x) (busy-lies helds vs es r ∙ free) counted
    ∙ (ap (λ ds. step_with_reply (state_of kinds slots' (remove helds i) ds) (Closed r count)) (sym stays)
    ∙ (ap (λ hs. step_with_reply (state_of kinds slots' hs (dicts_in hs vs es)) (Closed r count)) (sym closes.others)
    ∙ (ap (λ ds. step_with_reply (state_of kinds slots' helds' (dicts_in helds' (views_by session.paths ds) ds)) (Closed r count)) (sym closes.entries)
    ∙ ap (λ p. step_with_reply (state_of kinds slots' helds' (dicts_in helds' (views_by p session'.dicts.entries) session'.dicts.entries)) (Closed r count)) (sym closes.paths))))
