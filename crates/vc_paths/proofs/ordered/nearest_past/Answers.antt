use Rattle.vc_base.proofs.Common.{ℕ, ap, ◌∙◌, is_ordered}
use Rattle.vc_paths.specs.Layers.{Layer}
use Rattle.vc_paths.specs.Path.{IsAlike}
use Rattle.vc_paths.proofs.DownLemmas.{down-next, on-head}
use Rattle.vc_paths.proofs.OrderedLemmas.{nearest_before, nearest_end, nearest_kept, nearest_next, nearest_start, stands_along}
use Rattle.vc_paths.proofs.StayLemmas.{apart-kept, path-kept, same-itself, same-over, standing-kept}
use Rattle.vc_paths.proofs.ordered.nearest_past.Given.{Over}
use Rattle.vc_paths.proofs.ordered.nearest_past.Goals as goal
use Rattle.vc_paths.proofs.ordered.nearest_past.Goals.{In-Some}

-- the layer to which the walk has come is like the first
alike : (g : Over) (c : In-Some g) → IsAlike (g.Y.Layers.layered c.loop-next.layers) c.args.d c.in-Some.e
alike g c = on-head c.show_invariant.ensures c.in-Some.is c.loop-next.invariant.nearest.on

pub loop-next-init : goal.loop-next-init
loop-next-init g c = record {
  same = same-itself (g.Y.Layers.layered c.args.layers.now);
  stays = g.met.Y.Layers.reflexive c.args.layers.now;
  nearest = nearest_start (g.met.Y.Layers.lawful c.args.layers.now) c.requires.path.path c.requires.path.method;
}

pub nearer_with-best-requires : goal.nearer_with-best-requires
nearer_with-best-requires g c =
    let like = alike g (goal.at.nearer_with-best-requires g c).In-Some in
    let same = c.loop-next.invariant.same in
    record {
      seek = record {
        dict = like.there;
        method = ap is_ordered (like.method ∙ ap (λ (z : ℕ → Layer). (z c.args.d).method) same.layers) ∙ c.requires.path.method;
        compared = stands_along c.args.other like (standing-kept c.args.d c.args.other same c.requires.other);
      };
      apart = apart-kept c.args.back c.args.other same c.requires.apart;
      best = stands_along c.loop-next.best like c.loop-next.invariant.nearest.stands;
    }

pub loop-next-smaller : goal.loop-next-smaller
loop-next-smaller g c = down-next c.show_invariant.ensures c.in-Some.is c.below-next.ensures

pub loop-next-preserved : goal.loop-next-preserved
loop-next-preserved g c =
    let better = c.nearer_with-best.ensures in
    let path = path-kept c.args.paths.now c.args.d c.loop-next.invariant.same c.requires.path.path in
    record {
      same = same-over c.loop-next.invariant.same better.unchanged.layers;
      stays = g.met.Y.Layers.transitive c.args.layers.now c.loop-next.layers c.nearer_with-best.new.layers c.loop-next.invariant.stays better.unchanged.stays;
      nearest = nearest_kept c.args.other better.unchanged.layers
          (nearest_next (g.met.Y.Layers.lawful c.loop-next.layers) path c.show_invariant.ensures c.in-Some.is c.below-next.ensures c.loop-next.invariant.nearest better.stands better.object);
    }

pub returns : goal.returns
returns g c = record {
  found = nearest_before c.args.back c.args.paths.now c.args.d c.args.other c.loop-next.best c.loop-next.invariant.same (nearest_end c.in_default.is c.loop-next.invariant.nearest);
  unchanged = record { layers = c.loop-next.invariant.same; stays = c.loop-next.invariant.stays };
}
