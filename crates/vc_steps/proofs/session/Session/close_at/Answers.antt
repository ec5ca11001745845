use Rattle.vc_base.proofs.Common.{◌≡◌, ◌-◌, ◌<◌, false, length, set, IfSome, Some, remove, sym, refl, ap, ◌∙◌, subst, arith, Discipline}
use Rattle.vc_region.specs.Region.{segments_of}
use Rattle.vc_seg.specs.Shelf.{standing}
use Rattle.vc_commands.specs.Held.{Held}
use Rattle.vc_steps.specs.Account.{IsSession, account_after, accounts, settled_accounts}
use Rattle.vc_steps.specs.DictHomes.{AreDicts, lies_in}
use Rattle.vc_steps.specs.Homes.{accounts_on, held_all, held_in_session, slots_on}
use Rattle.vc_commands.specs.RegionRun.{held_of}
use Rattle.vc_steps.proofs.CloseLeaves.{session-close, settled-close}
use Rattle.vc_steps.proofs.DictsStay.{all-other, dicts-stay, stays-remove}
use Rattle.vc_steps.proofs.Helds.{held-entry, held-remove, length-remove, slice-or}
use Rattle.vc_steps.proofs.Sessions.{held-at}
use Rattle.vc_steps.proofs.session.Session.close_at.Given as given
use Rattle.vc_steps.proofs.session.Session.close_at.Goals as goal

abbrev meaning : (g : given.Over) → (x : g.dyn-1.0.I) × (g.dyn-1.0.entry x).0.Denot → Discipline
meaning g p = (g.dyn-1.0.entry p.0).1.state p.1

pub close_region-requires : goal.close_region-requires
close_region-requires g c =
    let own = slice-or c.args.self.now.labels.items c.args.i c.remove.result (omega (arith, c.requires.session.named, c.requires.within)) c.remove.ensures.value in
    let at = held-entry (meaning g) c.args.self.now.homes.entries c.args.self.now.labels.items c.args.i (c.in-Some.field-0-0, c.in-Some.home) c.remove.result (sym c.in-Some.ensures.entry) own in
    let held = held-at c.args.self.now.is_armed (slots_on (meaning g) c.args.shelf.now) (held_in_session (meaning g) c.args.self.now) c.args.i (held_of (meaning g) c.in-Some.field-0-0 c.in-Some.home c.remove.result) at c.requires.session.held in
    record { taken = ap standing held.place; lent = held.lent }

pub returns : goal.returns
returns g c =
    let M = meaning g in
    let slots = slots_on M c.args.shelf.now in
    let helds = held_in_session M c.args.self.now in
    let entries = c.args.self.now.homes.entries in
    let labels = c.args.self.now.labels.items in
    let few : c.args.i < length labels = omega (arith, c.requires.session.named, c.requires.within) in
    let own = slice-or labels c.args.i c.remove.result few c.remove.ensures.value in
    let h = held_of M c.in-Some.field-0-0 c.in-Some.home c.remove.result in
    let at = held-entry M entries labels c.args.i (c.in-Some.field-0-0, c.in-Some.home) c.remove.result (sym c.in-Some.ensures.entry) own in
    let rest : held_all M c.shift_remove_index.new.self.entries c.remove.new.self.items ≡ remove helds c.args.i =
    ap (λ es. held_all M es c.remove.new.self.items) c.shift_remove_index.ensures.entries
    ∙ (ap (λ ls. held_all M (remove entries c.args.i) ls) c.remove.ensures.items ∙ held-remove M entries labels c.args.i c.requires.session.named) in
    let slots' = slots_on M c.close_region.new.shelf in
    let fewer = length-remove entries c.args.i c.requires.within in
    let named : length c.remove.new.self.items ≡ length c.shift_remove_index.new.self.entries = omega (
      arith,
      ap length c.remove.ensures.items,
      ap length c.shift_remove_index.ensures.entries,
      length-remove labels c.args.i few,
      fewer,
      c.requires.session.named,
    ) in
    let es = c.args.self.now.dicts.entries in
    let none : lies_in h.name es ≡ false = subst (λ o. IfSome o (λ (k : Held). lies_in k.name es ≡ false)) at c.requires.free in
    record {
      closes = record {
        count_is = subst (λ o. IfSome o (λ (k : Held). c.close_region.result ≡ length (segments_of k.region))) (sym at) c.close_region.ensures.count;
        here = subst (λ o. IfSome o (λ (k : Held). accounts_on M c.close_region.new.shelf ≡ set (accounts slots) (k.place - 1) (Some (account_after k)))) (sym at) c.close_region.ensures.here;
        others = rest;
        entries = refl;
        paths = refl;
        fewer = omega (arith, ap length c.shift_remove_index.ensures.entries, fewer);
      };
      regions = record {
        regions = record {
          named = named;
          held = subst (λ hs. IsSession c.args.self.now.is_armed slots' hs) (sym rest) (session-close c.args.self.now.is_armed slots slots' helds c.args.i h at c.requires.session.held c.close_region.ensures.here c.close_region.ensures.elsewhere);
        };
        dicts = λ kinds dicts.
            subst (λ hs. AreDicts kinds hs es) (sym rest)
            (dicts-stay kinds helds (remove helds c.args.i) es
            (all-other kinds helds (remove helds c.args.i) h.name (λ e other. stays-remove kinds helds c.args.i h at e other) es none) dicts);
        views = λ are. are;
        spent = refl;
        armed = refl;
      };
      unarmed = c.close_region.ensures.unarmed;
      settled = ap (λ hs. settled_accounts (accounts slots') hs) rest ∙ settled-close c.args.self.now.is_armed slots slots' helds c.args.i h at c.requires.session.held c.close_region.ensures.here;
    }
