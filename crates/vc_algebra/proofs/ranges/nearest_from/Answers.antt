use Rattle.vc_base.proofs.Common.{ℕ, ap, ◌∙◌, option_copied, is_ordered}
use Rattle.vc_paths.specs.Layers.{Layer}
use Rattle.vc_paths.specs.Path.{IsAlike}
use Rattle.vc_paths.proofs.DownLemmas.{down-next, on-head}
use Rattle.vc_paths.proofs.OrderedLemmas.{stands_along}
use Rattle.vc_paths.proofs.StayLemmas.{path-kept, same-itself, same-over}
use Rattle.vc_algebra.proofs.RangeLemmas.{from_before, from_end, from_kept, from_next, from_start}
use Rattle.vc_algebra.proofs.ranges.nearest_from.Given.{Over}
use Rattle.vc_algebra.proofs.ranges.nearest_from.Goals as goal
use Rattle.vc_algebra.proofs.ranges.nearest_from.Goals.{In-Some}

-- the layer to which the walk has come is like the first
alike : (g : Over) (c : In-Some g) → IsAlike (g.Y.Layers.layered c.loop-next.layers) c.args.d c.in-Some.e
alike g c = on-head c.show_invariant.ensures c.in-Some.is c.loop-next.invariant.nearest.on

pub loop-next-init : goal.loop-next-init
loop-next-init g c = record {
  same = same-itself (g.Y.Layers.layered c.args.layers.now);
  stays = g.met.Y.Layers.reflexive c.args.layers.now;
  nearest = from_start (g.met.Y.Layers.lawful c.args.layers.now) c.requires.path c.requires.method;
}

pub nearer_from-best-requires : goal.nearer_from-best-requires
nearer_from-best-requires g c =
    let like = alike g (goal.at.nearer_from-best-requires g c).In-Some in
    record {
      dict = like.there;
      method = ap is_ordered (like.method ∙ ap (λ (z : ℕ → Layer). (z c.args.d).method) c.loop-next.invariant.same.layers) ∙ c.requires.method;
      best = stands_along c.loop-next.best like c.loop-next.invariant.nearest.stands;
    }

pub loop-next-smaller : goal.loop-next-smaller
loop-next-smaller g c = down-next c.show_invariant.ensures c.in-Some.is c.below-next.ensures

pub loop-next-preserved : goal.loop-next-preserved
loop-next-preserved g c =
    let better = c.nearer_from-best.ensures in
    record {
      same = same-over c.loop-next.invariant.same better.unchanged.layers;
      stays = g.met.Y.Layers.transitive c.args.layers.now c.loop-next.layers c.nearer_from-best.new.layers c.loop-next.invariant.stays better.unchanged.stays;
      nearest = from_kept better.unchanged.layers
          (from_next (g.met.Y.Layers.lawful c.loop-next.layers) (path-kept c.args.paths.now c.args.d c.loop-next.invariant.same c.requires.path) c.show_invariant.ensures c.in-Some.is c.below-next.ensures c.loop-next.invariant.nearest better.stands better.object);
    }

pub returns : goal.returns
returns g c = record {
  found = from_before c.args.paths.now c.args.d (option_copied c.args.low) c.loop-next.best c.loop-next.invariant.same (from_end c.in_default.is c.loop-next.invariant.nearest);
  unchanged = record { layers = c.loop-next.invariant.same; stays = c.loop-next.invariant.stays };
}
