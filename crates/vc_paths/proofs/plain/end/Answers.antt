use Rattle.vc_base.proofs.Common.{◌≡◌, Some, flat_map, option_map, sym, ap, ◌∙◌}
use Rattle.vc_dtdisc.specs.Finding.{last_of}
use Rattle.vc_paths.specs.Direction.{end_of}
use Rattle.vc_paths.specs.Path.{place_of, visible_of}
use Rattle.vc_paths.specs.Shown.{down, shown_in}
use Rattle.vc_paths.proofs.DownLemmas.{above-none, on-start}
use Rattle.vc_paths.proofs.EndLemmas.{end-map}
use Rattle.vc_paths.proofs.ShownLemmas.{visible-places}
use Rattle.vc_paths.proofs.plain.end.Given.{Over}
use Rattle.vc_paths.proofs.plain.end.Goals as goal
use Rattle.vc_paths.proofs.plain.end.Goals.{After-show_invariant}

-- the end of what the layers show is that of all that is seen
visible : (g : Over) (c : After-show_invariant g)
    → end_of c.args.back (flat_map (shown_in (g.Y.Layers.layered c.args.layers.now) c.args.paths.now c.args.d) (down c.args.paths.now (Some c.args.d)))
    ≡ option_map place_of (end_of c.args.back (visible_of (g.Y.Layers.layered c.args.layers.now) c.args.paths.now c.args.d))
visible g c =
    let all = g.Y.Layers.layered c.args.layers.now in
    ap (end_of c.args.back) (sym (visible-places all c.args.paths.now c.args.d c.show_invariant.ensures c.requires.method))
    ∙ end-map c.args.back place_of (visible_of all c.args.paths.now c.args.d)

pub last_above-requires : goal.last_above-requires
last_above-requires g c = record { path = on-start c.requires.path }

pub first_below-requires : goal.first_below-requires
first_below-requires g c = record { path = on-start c.requires.path; from = on-start c.requires.path }

pub returns-then-back-clause-found : goal.returns-then-back-clause-found
returns-then-back-clause-found g c =
    let shows = flat_map (shown_in (g.Y.Layers.layered c.args.layers.now) c.args.paths.now c.args.d) in
    c.last_above.ensures.found
    ∙ ap (λ z. last_of (shows z)) (above-none (down c.args.paths.now (Some c.args.d)))
    ∙ ap (λ z. end_of z (shows (down c.args.paths.now (Some c.args.d)))) (sym c.if-back.true)
    ∙ visible g (goal.at.returns-then-back-clause-found g c).After-show_invariant

pub returns-else-back-clause-found : goal.returns-else-back-clause-found
returns-else-back-clause-found g c =
    c.first_below.ensures.found
    ∙ ap (λ z. end_of z ((flat_map (shown_in (g.Y.Layers.layered c.args.layers.now) c.args.paths.now c.args.d)) (down c.args.paths.now (Some c.args.d)))) (sym c.if-back.false)
    ∙ visible g (goal.at.returns-else-back-clause-found g c).After-show_invariant
