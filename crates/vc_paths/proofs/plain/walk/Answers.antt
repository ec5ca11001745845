use Rattle.vc_base.proofs.Common.{true, option_map, flat_map, sym, refl, ap, ◌∙◌, number_of}
use Rattle.vc_dtdisc.specs.Finding.{first_of, last_of}
use Rattle.vc_paths.specs.Direction.{end_of}
use Rattle.vc_paths.specs.Shown.{down, shown_in}
use Rattle.vc_paths.proofs.PlaceLemmas.{place-beside}
use Rattle.vc_paths.proofs.SpotLemmas.{Spot, onward, spot, spot-below, spot-there, walked}
use Rattle.vc_paths.proofs.StayLemmas.{on-kept, shown-kept}
use Rattle.vc_paths.proofs.plain.walk.Given.{Over}
use Rattle.vc_paths.proofs.plain.walk.Goals as goal
use Rattle.vc_paths.proofs.plain.walk.Goals.{After-show_invariant}

-- where the walk begins
here : (g : Over) (c : After-show_invariant g) → Spot (g.Y.Layers.layered c.args.layers.now) c.args.paths.now c.args.d c.args.from.0 c.args.from.1.0
here g c = spot (g.met.Y.Layers.lawful c.args.layers.now) c.show_invariant.ensures c.requires.path.path c.requires.path.method c.requires.from

pub beside-start-requires : goal.beside-start-requires
beside-start-requires g c =
    let s = here g (goal.at.beside-start-requires g c).After-show_invariant in
    record { dict = s.alike.there; place = spot-there s }

pub seen_along-requires : goal.seen_along-requires
seen_along-requires g c =
    let s = here g (goal.at.seen_along-requires g c).After-show_invariant in
    record { layer = record { path = s.start; other = s.alike }; place = place-beside c.args.back s.around c.beside-start.ensures }

pub below-requires : goal.below-requires
below-requires g c = (here g (goal.at.below-requires g c).After-show_invariant).on.number c.args.from.0 refl

pub first_below-requires : goal.first_below-requires
first_below-requires g c =
    let s = here g (goal.at.first_below-requires g c).After-show_invariant in
    record { path = on-kept c.seen_along.ensures.unchanged.layers s.start; from = on-kept c.seen_along.ensures.unchanged.layers (spot-below s c.below.ensures) }

pub last_above-requires : goal.last_above-requires
last_above-requires g c = record { path = on-kept c.seen_along.ensures.unchanged.layers (here g (goal.at.last_above-requires g c).After-show_invariant).start }

pub returns-in-Some-clause-found : goal.returns-in-Some-clause-found
returns-in-Some-clause-found g c =
    let s = here g (goal.at.returns-in-Some-clause-found g c).After-show_invariant in
    sym (walked s c.args.back c.beside-start.ensures (sym (ap (option_map number_of) c.in-Some.is) ∙ c.seen_along.ensures.found))

pub returns-then-back-clause-found : goal.returns-then-back-clause-found
returns-then-back-clause-found g c =
    let s = here g (goal.at.returns-then-back-clause-found g c).After-show_invariant in
    c.last_above.ensures.found
    ∙ ap (λ z. last_of (flat_map z (onward s true))) (shown-kept c.args.paths.now c.args.d c.seen_along.ensures.unchanged.layers)
    ∙ ap (λ z. end_of z (flat_map (shown_in (g.Y.Layers.layered c.args.layers.now) c.args.paths.now c.args.d) (onward s z))) (sym c.if-back.true)
    ∙ sym (walked s c.args.back c.beside-start.ensures (sym (ap (option_map number_of) c.in-None.is) ∙ c.seen_along.ensures.found))

pub returns-else-back-clause-found : goal.returns-else-back-clause-found
returns-else-back-clause-found g c =
    let s = here g (goal.at.returns-else-back-clause-found g c).After-show_invariant in
    let shows = shown_in (g.Y.Layers.layered c.args.layers.now) c.args.paths.now c.args.d in
    c.first_below.ensures.found
    ∙ ap (λ z. first_of (flat_map z (down c.args.paths.now c.below.result))) (shown-kept c.args.paths.now c.args.d c.seen_along.ensures.unchanged.layers)
    ∙ ap (λ z. first_of (flat_map shows (down c.args.paths.now z))) c.below.ensures
    ∙ ap (λ z. end_of z (flat_map shows (onward s z))) (sym c.if-back.false)
    ∙ sym (walked s c.args.back c.beside-start.ensures (sym (ap (option_map number_of) c.in-None.is) ∙ c.seen_along.ensures.found))
