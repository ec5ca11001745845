use Rattle.vc_base.proofs.Common.{◌-◌, ◌∷◌, ◌++◌, [], Some, map, sym, refl, ap, ◌∙◌, subst, arith, map-set, option_map, bytes_eq, false≢true, same_Some, Discipline}
use Rattle.indexmap.specs.IndexMap.{insert_entry}
use Rattle.vc_commands.proofs.Agreeing.{from_ok}
use Rattle.vc_image.specs.Load.{IsLoaded, pairs_of}
use Rattle.vc_image.specs.Lends.Lends.{AreLent}
use Rattle.vc_image_run.proofs.Opened.{asked-at, asked_by, home, kept-at, opens-image}
use Rattle.vc_image_run.proofs.Again.{again-by, slots-again}
use Rattle.vc_image_run.specs.Session.Opens.{IsUnnamed}
use Rattle.vc_model.specs.Discipline.{Kept}
use Rattle.vc_region.specs.Parts.{disc_in}
use Rattle.vc_region.specs.declared.region.Region.TheVariants.{Best as OfBest}
use Rattle.vc_seg.specs.Boxed.{disc_in_box}
use Rattle.vc_steps.proofs.Unarmed.{arms-set, arms-taken}
use Rattle.vc_steps.specs.Account.{ArmsNone, KeepsAccounts, SameAsked, account, accounts}
use Rattle.vc_steps.specs.Homes.{slots_on}
use Rattle.vc_image_run.proofs.session.open.session_of_image.Given as given
use Rattle.vc_image_run.proofs.session.open.session_of_image.Goals as goal

abbrev meaning : (g : given.Over) → (x : g.dyn-1.0.I) × (g.dyn-1.0.entry x).0.Denot → Discipline
meaning g p = (g.dyn-1.0.entry p.0).1.state p.1

pub returns-in-Ok-load_named-clause-opens : goal.returns-in-Ok-load_named-clause-opens
returns-in-Ok-load_named-clause-opens g c =
    let M = meaning g in
    let d = disc_in_box M c.in-Some.disc in
    let best = c.in-Ok-load_named.best in
    let labels = c.in-Ok-load_named.parts.labels in
    let l = c.in-Ok-load_named.ensures.ok in
    let kinds = map g.D.DictDisc.rules c.args.kinds.now.items in
    let put = from_ok c.insert.result (c.insert.ensures.succeeds (omega (arith, c.in-Ok.ensures.ok))) c.insert.ensures.entries in
    opens-image M c.args.place best labels g.D.DictDisc.rules c.args.shelf.now c.take.new.self c.of_parts.result c.args.kinds.now.items d c.args.image.now l.dicts
    c.in-Some.ensures.taken
    (subst (λ (e : Discipline). IsLoaded kinds e.terms c.args.image.now (OfBest best) l.dicts) c.arm.ensures l.loaded)
    (subst (λ (e : Discipline). AreLent e (disc_in M (OfBest best)) (pairs_of c.args.image.now)) c.arm.ensures c.in-Ok-load_named.ensures.lent)
    (c.of_parts.ensures.homes
    ∙ (put
    ∙ (ap (λ es. insert_entry bytes_eq es c.region_name.result (home M c.args.place best labels)) (c.in-Ok.ensures.entries ∙ c.new-homes.ensures.empty)
    ∙ ap (λ name. (name, home M c.args.place best labels) ∷ []) c.region_name.ensures)))
    (c.of_parts.ensures.labels ∙ (c.push_reserved.ensures.items ∙ ap (λ ls. ls ++ labels ∷ []) (c.in-Ok-reserve.ensures.items ∙ c.new-names.ensures.items)))
    (c.of_parts.ensures.paths ∙ c.in-Ok-new.ensures)
    c.in-Some.ensures.emptied
    c.of_parts.ensures.unarmed
    c.of_parts.ensures.memory
    (record { entries_are = c.of_parts.ensures.dicts ∙ l.parts.entries_are; named = l.parts.named; names = l.parts.names; kept = l.parts.kept; own = l.parts.own })

pub returns-in-Ok-load_named-clause-unarmed : goal.returns-in-Ok-load_named-clause-unarmed
returns-in-Ok-load_named-clause-unarmed g c =
    subst (ArmsNone (slots_on (meaning g) c.args.shelf.now)) (sym c.in-Some.ensures.emptied) (arms-taken (slots_on (meaning g) c.args.shelf.now) c.args.place c.in-Some.ensures.taken)

pub returns-in-Err : goal.returns-in-Err
returns-in-Err g c =
    let kinds = map g.D.DictDisc.rules c.args.kinds.now.items in
    let slots = slots_on (meaning g) c.args.shelf.now in
    let after = slots_on (meaning g) c.give_back.new.self in
    let d = disc_in_box (meaning g) c.in-Some.disc in
    let e = disc_in_box (meaning g) c.in-Err.disc in
    let kept = subst (λ (x : Discipline). Kept x e) c.arm.ensures c.in-Err.ensures.kept in
    let out = c.in-Err.ensures.out ∙ ap (λ (x : Discipline). x.out) c.arm.ensures in
    let again = slots-again slots c.args.place e c.in-Some.ensures.emptied c.give_back.ensures.filled in
    record {
      opens = tt;
      fault =
          again-by kinds c.args.place c.args.image.now slots after c.in-Err.why
          (record {
            disc = d;
            here = c.in-Some.ensures.taken;
            after = e;
            again = again;
            cause = subst (λ (x : Discipline). IsUnnamed kinds c.args.image.now x e c.in-Err.why) c.arm.ensures c.in-Err.ensures.fault;
          });
      accounts =
          subst (λ s. KeepsAccounts (accounts slots) (accounts s)) (sym again)
          (subst (KeepsAccounts (accounts slots)) (sym (map-set (option_map account) slots (c.args.place - 1) (Some e)))
          (kept-at slots c.args.place d c.in-Some.ensures.taken (account e) out kept.terms kept.faults));
      asked =
          subst (λ s. SameAsked (accounts slots) (accounts s)) (sym again)
          (subst (SameAsked (accounts slots)) (sym (map-set (option_map account) slots (c.args.place - 1) (Some e)))
          (asked-at slots c.args.place d c.in-Some.ensures.taken (account e) (ap asked_by (kept.unarmed refl))));
      unarmed =
          subst (ArmsNone slots) (sym again)
          (arms-set slots c.args.place (Some e) c.in-Some.ensures.taken
          (λ x is on. false≢true (sym kept.armed ∙ (ap (λ (y : Discipline). y.exceptions.armed) (same_Some e x is) ∙ on))));
    }
