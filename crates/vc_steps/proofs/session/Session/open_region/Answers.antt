use Rattle.vc_base.proofs.Common.{◌≡◌, ◌-◌, false, [], ◌∷◌, ◌++◌, set, is_some, Some, None, bytes_eq, sym, refl, ap, ◌∙◌, arith, set-set, subst, same_Some, false≢true, lookup, Discipline}
use Rattle.indexmap.proofs.CallerLemmas.{insert_entry-new}
use Rattle.vc_base.proofs.Options.{none_of}
use Rattle.vc_seg.specs.Shelf.{place_at, slots_of}
use Rattle.vc_script.specs.declared.reply.Reply.TheVariants.{Opened, Refused}
use Rattle.vc_script.specs.declared.refusal.Refusal.TheVariants.{RegionExists}
use Rattle.vc_seg.specs.Boxed.{disc_in_box}
use Rattle.vc_commands.specs.declared.region.home.HomeEntry.{HomeEntry}
use Rattle.vc_steps.specs.DictHomes.{dicts_in}
use Rattle.vc_steps.specs.Account.{settled_accounts}
use Rattle.vc_steps.specs.Homes.{held_in_session, slots_on, state_over}
use Rattle.vc_views.specs.Numbers.{views_by}
use Rattle.vc_steps.specs.State.{not_here}
use Rattle.vc_steps.specs.State.{step_with_reply}
use Rattle.vc_commands.proofs.Agreeing.{from_ok}
use Rattle.vc_steps.proofs.Helds.{any-named}
use Rattle.vc_steps.proofs.Newest.{IsNewest, newest-dicts, newest-named, newest-session, newest-settled, newest-step}
use Rattle.vc_steps.proofs.RefusesNothing.{open-granted}
use Rattle.vc_steps.proofs.SameLists.{keeps-lists, keeps-lists-over, settled-lists, state-lists}
use Rattle.vc_steps.proofs.Steps.{halts-same, steps-quiet}
use Rattle.vc_model.specs.Discipline.{armed_as}
use Rattle.vc_steps.specs.Account.{ArmsNone}
use Rattle.vc_steps.proofs.Unarmed.{arms-same, arms-set, arms-taken}
use Rattle.vc_steps.proofs.OpenLeaves.{accounts-armed, open_step-named, open_step-not_here, session-armed, state-armed, armed-slots}
use Rattle.vc_steps.proofs.session.Session.open_region.Given as given
use Rattle.vc_steps.proofs.session.Session.open_region.Goals as goal

abbrev meaning : (g : given.Over) → (x : g.dyn-1.0.I) × (g.dyn-1.0.entry x).0.Denot → Discipline
meaning g p = (g.dyn-1.0.entry p.0).1.state p.1

pub returns-then-contains_key-clause-steps : goal.returns-then-contains_key-clause-steps
returns-then-contains_key-clause-steps g c = λ kinds gone dicts.
    let is =
    open_step-named (state_over (meaning g) kinds c.args.shelf.now c.args.self.now) c.args.name c.args.method c.args.n
    (any-named (meaning g) c.args.self.now.homes.entries c.args.self.now.labels.items c.args.name c.requires.named ∙ sym c.if-contains_key.ensures) in
    steps-quiet _ _ _ _ (Refused RegionExists) is refl refl refl tt

pub returns-in_default-clause-steps : goal.returns-in_default-clause-steps
returns-in_default-clause-steps g c = λ kinds gone dicts.
    let slots = slots_on (meaning g) c.args.shelf.now in
    let helds = held_in_session (meaning g) c.args.self.now in
    let es = c.args.self.now.dicts.entries in
    let vs = views_by c.args.self.now.paths es in
    let same : slots_on (meaning g) c.take.new.self ≡ slots = ap (slots_of (disc_in_box (meaning g))) c.in_default.ensures.none in
    let why : c.not_here.result ≡ not_here (place_at slots c.args.n) = c.not_here.ensures ∙ ap not_here (c.place.ensures ∙ ap (λ s. place_at s c.args.n) same) in
    let is =
    open_step-not_here kinds slots helds (dicts_in helds vs es) c.args.name c.args.method c.args.n (any-named (meaning g) c.args.self.now.homes.entries c.args.self.now.labels.items c.args.name c.requires.named ∙ sym c.if-contains_key.ensures) (λ e. false≢true (c.in_default.ensures.here.1 e))
    ∙ (ap (λ w. step_with_reply (state_over (meaning g) kinds c.args.shelf.now c.args.self.now) (Refused w)) (sym why)
    ∙ ap (λ s. step_with_reply s (Refused c.not_here.result)) (sym (state-lists (meaning g) same c.reserve.ensures.entries c.reserve-2.ensures.items kinds vs es))) in
    steps-quiet _ _ _ _ (Refused c.not_here.result) is refl (settled-lists (meaning g) same c.reserve.ensures.entries c.reserve-2.ensures.items) refl
    (open-granted _ _ c.args.name c.args.method c.args.n (Refused c.not_here.result) is)

pub returns-in_err-reserve-clause-regions : goal.returns-in_err-reserve-clause-regions
returns-in_err-reserve-clause-regions g c = keeps-lists c.args.shelf.now c.requires refl c.reserve.ensures.entries refl refl refl refl refl

pub returns-in_err-reserve-2-clause-regions : goal.returns-in_err-reserve-2-clause-regions
returns-in_err-reserve-2-clause-regions g c = keeps-lists c.args.shelf.now c.requires refl c.reserve.ensures.entries c.reserve-2.ensures.items refl refl refl refl

pub returns-in_default-clause-regions : goal.returns-in_default-clause-regions
returns-in_default-clause-regions g c =
    let same : slots_on (meaning g) c.take.new.self ≡ slots_on (meaning g) c.args.shelf.now = ap (slots_of (disc_in_box (meaning g))) c.in_default.ensures.none in
    keeps-lists c.args.shelf.now c.requires same c.reserve.ensures.entries c.reserve-2.ensures.items refl refl refl refl

pub returns-in_default-clause-unarmed : goal.returns-in_default-clause-unarmed
returns-in_default-clause-unarmed g c = arms-same _ _ (ap (slots_of (disc_in_box (meaning g))) c.in_default.ensures.none)

pub returns-in-Ok : goal.returns-in-Ok
returns-in-Ok g c =
    let entries = c.args.self.now.homes.entries in
    let absent : is_some (lookup (bytes_eq c.args.name) entries) ≡ false = sym c.if-contains_key.ensures in
    let home : HomeEntry _ _ = record { place = c.args.n; region = c.in-Ok.region } in
    let put = from_ok c.insert.result (c.insert.ensures.succeeds (omega (arith, c.in_ok-reserve.ensures.ok))) c.insert.ensures.entries in
    let gone = none_of (lookup (bytes_eq c.args.name) c.reserve.new.self.entries) (ap (λ es. is_some (lookup (bytes_eq c.args.name) es)) c.reserve.ensures.entries ∙ absent) in
    let newest : IsNewest (meaning g) c.args.self.now.is_armed (slots_on (meaning g) c.args.shelf.now) (slots_on (meaning g) c.take.new.self) entries c.insert.new.self.entries c.args.self.now.labels.items c.push_reserved.new.self.items c.args.name c.args.method home c.new.result = record {
      named = c.requires.named;
      session = c.requires.held;
      absent = absent;
      last = put ∙ (insert_entry-new bytes_eq c.reserve.new.self c.args.name home gone ∙ ap (λ es. es ++ (c.args.name, home) ∷ []) c.reserve.ensures.entries);
      more = c.push_reserved.ensures.items ∙ ap (λ ls. ls ++ c.new.result ∷ []) c.reserve-2.ensures.items;
      newly = c.in-Ok.ensures.ok.0;
      was = disc_in_box (meaning g) c.in-Some.disc;
      taken = c.in-Some.ensures.taken;
      armed = c.in-Ok.ensures.ok.1 ∙ c.arm.ensures;
      emptied = c.in-Some.ensures.emptied;
      none = record { agree = c.new.ensures.agree; names = c.new.ensures.no_names; count = c.new.ensures.count; kept = c.new.ensures.kept };
    } in
    record {
      steps = λ kinds gone dicts. steps-quiet _ _ _ _ (Opened c.args.name) (newest-step newest kinds (views_by c.args.self.now.paths c.args.self.now.dicts.entries) c.args.self.now.dicts.entries dicts) refl (newest-settled newest) refl tt;
      regions = record {
        regions = record { named = newest-named newest; held = newest-session newest };
        dicts = λ kinds dicts. newest-dicts newest kinds c.args.self.now.dicts.entries dicts;
        views = λ are. are;
        spent = refl;
        armed = refl;
      };
      settled = newest-settled newest;
      unarmed = subst (ArmsNone (slots_on (meaning g) c.args.shelf.now)) (sym c.in-Some.ensures.emptied) (arms-taken (slots_on (meaning g) c.args.shelf.now) c.args.n c.in-Some.ensures.taken);
    }

pub returns-in-Err : goal.returns-in-Err
returns-in-Err g c =
    let M = meaning g in
    let slots = slots_on M c.args.shelf.now in
    let k = c.args.n - 1 in
    let d = disc_in_box M c.in-Some.disc in
    let e = disc_in_box M c.arm-in-Err.new.self in
    let at = c.in-Some.ensures.taken in
    let over = armed-slots false slots c.args.n d at in
    let same : slots_on M c.give_back.new.self ≡ over =
    c.give_back.ensures.filled
    ∙ (ap (λ s. set s k (Some e)) c.in-Some.ensures.emptied
    ∙ (set-set slots k None (Some e) ∙ ap (λ x. set slots k (Some x)) (c.arm-in-Err.ensures ∙ ap (armed_as false) (c.in-Err.ensures.err ∙ c.arm.ensures)))) in
    let kept = c.reserve.ensures.entries in
    let kept' = c.reserve-2.ensures.items in
    let helds = held_in_session M c.args.self.now in
    let es = c.args.self.now.dicts.entries in
    let vs = views_by c.args.self.now.paths es in
    let settled_is = settled-lists M same kept kept' ∙ ap (λ xs. settled_accounts xs helds) (accounts-armed false slots c.args.n d at) in
    record {
      steps = λ kinds gone dicts. halts-same _ _ _ (state-lists M same kept kept' kinds vs es ∙ state-armed false slots c.args.n d at kinds helds (dicts_in helds vs es)) refl settled_is refl;
      regions = keeps-lists-over over c.requires.named (session-armed false slots c.args.n d at c.args.self.now.is_armed helds c.requires.held) same kept kept' refl refl refl refl;
      settled = settled_is;
      unarmed = subst (ArmsNone slots) (sym same) (arms-set slots c.args.n (Some (armed_as false d)) at (λ x is armed. false≢true (ap (λ (y : Discipline). y.exceptions.armed) (same_Some (armed_as false d) x is) ∙ armed)));
    }
