use Rattle.vc_base.proofs.Common.{◌≡◌, ◌-◌, false, length, set, Some, option_map, sym, ap, ◌∙◌, subst, false≢true, map-set, same_Some, Discipline, at_number}
use Rattle.vc_region.specs.Parts.{disc_in, region_of, segments_in}
use Rattle.vc_model.specs.Discipline.{armed_as}
use Rattle.vc_steps.specs.Account.{account, account_back, accounts}
use Rattle.vc_steps.specs.Homes.{slots_on}
use Rattle.vc_steps.proofs.CloseLeaves.{account-closed, elsewhere, taken-at}
use Rattle.vc_steps.proofs.Unarmed.{arms-set}
use Rattle.vc_steps.specs.Account.{ArmsNone}
use Rattle.vc_region.proofs.Rest.{rest-segments}
use Rattle.vc_commands.proofs.Seen.{seen-out}
use Rattle.vc_steps.proofs.close.close_region.Given as given
use Rattle.vc_steps.proofs.close.close_region.Goals as goal

abbrev meaning : (g : given.Over) → (x : g.dyn-1.0.I) × (g.dyn-1.0.entry x).0.Denot → Discipline
meaning g p = (g.dyn-1.0.entry p.0).1.state p.1

pub returns-clause-here : goal.returns-clause-here
returns-clause-here g c =
    let slots = slots_on (meaning g) c.args.shelf.now in
    let disc = meaning g (c.close-disc.result.0.vtable, c.close-disc.result.0.value) in
    let lent = seen-out (region_of c.args.home.region) (disc_in (meaning g) c.args.home.region) c.requires.lent in
    ap accounts (c.give_back.ensures.filled ∙ ap (λ d. set slots (c.args.home.place - 1) (Some d)) c.arm.ensures)
    ∙ (map-set (option_map account) slots (c.args.home.place - 1) (Some (armed_as false disc))
    ∙ ap (λ a. set (accounts slots) (c.args.home.place - 1) (Some a)) (account-closed (disc_in (meaning g) c.args.home.region) disc (segments_in c.args.home.region) lent c.close-disc.ensures.disc ∙ ap (account_back (disc_in (meaning g) c.args.home.region)) (sym (rest-segments (region_of c.args.home.region)))))

pub returns-clause-elsewhere : goal.returns-clause-elsewhere
returns-clause-elsewhere g c = λ p other.
    let slots = slots_on (meaning g) c.args.shelf.now in
    ap (λ s. at_number s p) c.give_back.ensures.filled
    ∙ elsewhere slots c.args.home.place _ (taken-at slots c.args.home.place c.requires.taken) p other

pub close-disc-requires : goal.close-disc-requires
close-disc-requires g c = seen-out (region_of c.args.home.region) (disc_in (meaning g) c.args.home.region) c.requires.lent

pub returns-clause-count : goal.returns-clause-count
returns-clause-count g c = c.close-disc.ensures.count ∙ ap length (sym (rest-segments (region_of c.args.home.region)))

pub returns-clause-unarmed : goal.returns-clause-unarmed
returns-clause-unarmed g c =
    let slots = slots_on (meaning g) c.args.shelf.now in
    let disc = meaning g (c.close-disc.result.0.vtable, c.close-disc.result.0.value) in
    subst (ArmsNone slots)
    (sym (c.give_back.ensures.filled ∙ ap (λ d. set slots (c.args.home.place - 1) (Some d)) c.arm.ensures))
    (arms-set slots c.args.home.place (Some (armed_as false disc)) (taken-at slots c.args.home.place c.requires.taken)
    (λ d is on. let same : armed_as false disc ≡ d = same_Some (armed_as false disc) d is in false≢true (ap (λ (e : Discipline). e.exceptions.armed) same ∙ on)))
