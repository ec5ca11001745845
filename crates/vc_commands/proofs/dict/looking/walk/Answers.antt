use Rattle.vc_base.proofs.Common.{◌≡◌, ℕ, [], ◌∷◌, length, IsSome, Some, sym, ap, subst, arith, length-append}
use Rattle.vc_dtdisc.specs.Finding.{behind_last}
use Rattle.vc_paths.specs.Layers.{Layer, bytes_there}
use Rattle.vc_paths.specs.Path.{Answers, is_at, numbers_of}
use Rattle.vc_paths.proofs.StayLemmas.{path-kept, same-over, seen-kept, visible-kept}
use Rattle.vc_commands.proofs.Walking.{IsHere, here-visible, left-before, walked-here, walked-on}
use Rattle.vc_commands.proofs.dict.looking.walk.Given.{Over}
use Rattle.vc_commands.proofs.dict.looking.walk.Goals as goal
use Rattle.vc_commands.proofs.dict.looking.walk.Goals.{In-Some}

-- where the walk is
here : (g : Over) (c : In-Some g) → IsHere (g.Y.Layers.layered c.args.layers.now) c.args.paths.now c.args.d c.in-Some.here c.loop-at.items
here g c =
    walked-here (g.Y.Layers.layered c.args.layers.now) c.args.paths.now c.args.d c.loop-at.at c.in-Some.here c.loop-at.items
    (g.met.Y.Layers.lawful c.args.layers.now) c.requires c.in-Some.is c.loop-at.invariant.walked

pub object-requires-clause-dict : goal.object-requires-clause-dict
object-requires-clause-dict g c =
    c.loop-at.invariant.layers.has c.in-Some.here.0 (here g (goal.at.object-requires-clause-dict g c).In-Some).meant.stands.there

pub object-requires-clause-place : goal.object-requires-clause-place
object-requires-clause-place g c =
    subst (λ (z : ℕ → Layer). IsSome (bytes_there c.in-Some.here.1.0 (z c.in-Some.here.0).objects)) (sym c.loop-at.invariant.layers.layers)
    (here g (goal.at.object-requires-clause-place g c).In-Some).meant.stands.object

pub walk_next-at-requires-clause-path : goal.walk_next-at-requires-clause-path
walk_next-at-requires-clause-path g c = path-kept c.args.paths.now c.args.d c.loop-at.invariant.layers c.requires

pub walk_next-at-requires-clause-place : goal.walk_next-at-requires-clause-place
walk_next-at-requires-clause-place g c =
    seen-kept c.args.paths.now c.args.d (numbers_of c.in-Some.here) c.loop-at.invariant.layers
    (here-visible (g.Y.Layers.layered c.args.layers.now) c.args.paths.now c.args.d c.in-Some.here c.loop-at.items (here g (goal.at.walk_next-at-requires-clause-place g c).In-Some))

pub loop-at-preserved : goal.loop-at-preserved
loop-at-preserved g c =
    let all = g.Y.Layers.layered c.args.layers.now in
    let lawful = g.met.Y.Layers.lawful c.args.layers.now in
    let same = c.loop-at.invariant.layers in
    let there : bytes_there c.in-Some.here.1.0 (all.layer c.in-Some.here.0).objects ≡ Some c.object.result.now
    = subst (λ (z : ℕ → Layer). bytes_there c.in-Some.here.1.0 (z c.in-Some.here.0).objects ≡ Some c.object.result.now) same.layers c.object.ensures in
    record {
      layers = same-over same c.walk_next-at.ensures.unchanged.layers;
      stays = g.met.Y.Layers.transitive c.args.layers.now c.loop-at.layers c.walk_next-at.new.layers c.loop-at.invariant.stays c.walk_next-at.ensures.unchanged.stays;
      walked = walked-on all c.args.paths.now c.args.d c.in-Some.here c.walk_next-at.result c.loop-at.items c.push.new.self c.object.result.now
          lawful c.show_invariant.ensures c.requires (here g (goal.at.loop-at-preserved g c).In-Some) there c.in_ok-push.ensures.pushed
          (subst (λ z. Answers c.walk_next-at.result (behind_last (is_at (numbers_of c.in-Some.here)) z)) (visible-kept c.args.paths.now c.args.d same) c.walk_next-at.ensures.found);
    }

pub loop-at-smaller : goal.loop-at-smaller
loop-at-smaller g c =
    let less = left-before (g.Y.Layers.layered c.args.layers.now) c.args.paths.now c.args.d c.in-Some.here c.loop-at.items (here g (goal.at.loop-at-smaller g c).In-Some) in
    omega (arith, less, ap length c.in_ok-push.ensures.pushed, length-append c.loop-at.items (c.object.result.now ∷ []))
