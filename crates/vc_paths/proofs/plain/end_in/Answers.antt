use Rattle.vc_base.proofs.Common.{ℕ, option_map, ap, ◌∙◌}
use Rattle.vc_paths.specs.Direction.{end_of}
use Rattle.vc_paths.specs.Layers.{place_in}
use Rattle.vc_paths.specs.Shown.{unhidden_objects}
use Rattle.vc_paths.proofs.PlaceLemmas.{left-end, place-end}
use Rattle.vc_paths.proofs.SeenLemmas.{end-place}
use Rattle.vc_paths.proofs.plain.end_in.Goals as goal

pub seen_along-requires-clause-place : goal.seen_along-requires-clause-place
seen_along-requires-clause-place g c = place-end c.args.back ((g.Y.Layers.layered c.args.layers.now).layer c.args.e).objects c.end_of-start.ensures

pub returns-clause-found : goal.returns-clause-found
returns-clause-found g c =
    let all = g.Y.Layers.layered c.args.layers.now in
    let shows = unhidden_objects all c.args.paths.now c.args.d c.args.e in
    c.placed.ensures
    ∙ ap (option_map {U = ℕ × ℕ} (λ a. (c.args.e, a))) (c.seen_along.ensures.found
    ∙ ap (λ z. place_in (end_of c.args.back (shows z))) (left-end ((g.met.Y.Layers.lawful c.args.layers.now).distinct c.args.e c.requires.other.there) c.args.back c.end_of-start.ensures))
    ∙ end-place c.args.back c.args.e (shows (all.layer c.args.e).objects)
