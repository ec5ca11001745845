use Rattle.vc_base.proofs.Common.{◌≡◌, ℕ, zero, suc, [], sym, refl, ap, ◌∙◌, Discipline}
use Rattle.vc_counts.specs.Working.{open_state, segments_at, segments_at_home, tally_behind}
use Rattle.vc_counts.proofs.FoundHome.{home-none, segments-found}
use Rattle.vc_seg.specs.Tally.{tally_of}
use Rattle.vc_counts.proofs.step.tally_behind_at.Given as given
use Rattle.vc_counts.proofs.step.tally_behind_at.Goals as goal

abbrev meaning : (g : given.Over) → (x : g.dyn-1.0.I) × (g.dyn-1.0.entry x).0.Denot → Discipline
meaning g p = (g.dyn-1.0.entry p.0).1.state p.1

none-behind : (first : ℕ) → tally_of [] ≡ tally_behind first []
none-behind zero = refl
none-behind (suc first) = refl

pub returns-in-Some-region_index-clause-value : goal.returns-in-Some-region_index-clause-value
returns-in-Some-region_index-clause-value g c =
    let M = meaning g in
    let session = c.args.session.now in
    c.tally_behind.ensures.value
    ∙ ap (tally_behind c.args.first)
    (segments-found M session.homes.entries session.labels.items c.in-Some.name c.requires c.in-Some-region_index.i c.index.result.now (sym c.in-Some-region_index.ensures.index) c.index.ensures
    ∙ ap (λ o. segments_at o (open_state M session).homes) (sym c.in-Some.is))

pub returns-in-None-clause-value : goal.returns-in-None-clause-value
returns-in-None-clause-value g c =
    let M = meaning g in
    let session = c.args.session.now in
    c.new-in-None.ensures
    ∙ (none-behind c.args.first
    ∙ ap (tally_behind c.args.first)
    (sym (ap segments_at_home (home-none M session.homes.entries session.labels.items c.in-Some.name c.requires (sym c.in-None.ensures.found)))
    ∙ ap (λ o. segments_at o (open_state M session).homes) (sym c.in-Some.is)))
