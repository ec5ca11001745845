use Rattle.vc_base.proofs.Common.{◌≡◌, option_map, sym, refl, ap, ◌∙◌}
use Rattle.vc_base.proofs.Options.{is_some-map}
use Rattle.vc_dtdisc.specs.Finding.{first_of}
use Rattle.vc_paths.specs.Path.{numbers_of}
use Rattle.vc_paths.specs.Shown.{shown_in}
use Rattle.vc_paths.proofs.DescentLemmas.{below-end, below-found, below-past}
use Rattle.vc_paths.proofs.DownLemmas.{down-next, on-head, on-next}
use Rattle.vc_paths.proofs.StayLemmas.{same-itself, same-over, alike-kept, on-kept, shown-kept}
use Rattle.vc_paths.proofs.plain.first_below.Given.{Over}
use Rattle.vc_paths.proofs.plain.first_below.Goals as goal
use Rattle.vc_paths.proofs.plain.first_below.Goals.{After-end_in-found}

-- what the layer at which the walk is shows first
first : (g : Over) (c : After-end_in-found g)
    → option_map numbers_of c.end_in-found.result ≡ first_of (shown_in (g.Y.Layers.layered c.args.layers.now) c.args.paths.now c.args.d c.in-Some.e)
first g c = c.end_in-found.ensures.found ∙ ap (λ z. first_of (z c.in-Some.e)) (shown-kept c.args.paths.now c.args.d c.loop-layer.invariant.same)

stays : (g : Over) (c : After-end_in-found g) → g.Y.Layers.Stays c.args.layers.now c.end_in-found.new.layers
stays g c =
    g.met.Y.Layers.transitive c.args.layers.now c.loop-layer.layers c.end_in-found.new.layers c.loop-layer.invariant.stays c.end_in-found.ensures.unchanged.stays

pub loop-layer-init : goal.loop-layer-init
loop-layer-init g c = record {
  same = same-itself (g.Y.Layers.layered c.args.layers.now);
  stays = g.met.Y.Layers.reflexive c.args.layers.now;
  path = c.requires.from;
  answer = refl;
}

pub end_in-found-requires : goal.end_in-found-requires
end_in-found-requires g c =
    record { path = on-kept c.loop-layer.invariant.same c.requires.path; other = alike-kept c.loop-layer.invariant.same (on-head c.show_invariant.ensures c.in-Some.is c.loop-layer.invariant.path) }

pub returns-then-is_some : goal.returns-then-is_some
returns-then-is_some g c =
    let after = (goal.at.returns-then-is_some g c).After-end_in-found in
    let some = is_some-map numbers_of c.end_in-found.result ∙ sym c.is_some.ensures ∙ c.if-is_some.true in
    let shows = shown_in (g.Y.Layers.layered c.args.layers.now) c.args.paths.now c.args.d in
    record {
      found = below-found shows c.show_invariant.ensures c.in-Some.is (first g after) some ∙ sym c.loop-layer.invariant.answer;
      unchanged = record {
        layers = same-over c.loop-layer.invariant.same c.end_in-found.ensures.unchanged.layers;
        stays = stays g after;
      };
    }

pub below-layer-requires : goal.below-layer-requires
below-layer-requires g c = c.loop-layer.invariant.path.number c.in-Some.e c.in-Some.is

pub loop-layer-smaller : goal.loop-layer-smaller
loop-layer-smaller g c = down-next c.show_invariant.ensures c.in-Some.is c.below-layer.ensures

pub loop-layer-preserved : goal.loop-layer-preserved
loop-layer-preserved g c =
    let paths = c.show_invariant.ensures in
    let after = (goal.at.loop-layer-preserved g c).After-end_in-found in
    let none = is_some-map numbers_of c.end_in-found.result ∙ sym c.is_some.ensures ∙ c.if-is_some.false in
    record {
      same = same-over c.loop-layer.invariant.same c.end_in-found.ensures.unchanged.layers;
      stays = stays g after;
      path = on-next paths c.in-Some.is c.below-layer.ensures c.loop-layer.invariant.path;
      answer = c.loop-layer.invariant.answer
          ∙ below-past (shown_in (g.Y.Layers.layered c.args.layers.now) c.args.paths.now c.args.d) paths c.in-Some.is c.below-layer.ensures (first g after) none;
    }

pub returns : goal.returns
returns g c =
    record {
      found = below-end (shown_in (g.Y.Layers.layered c.args.layers.now) c.args.paths.now c.args.d) c.show_invariant.ensures c.in_default.is ∙ sym c.loop-layer.invariant.answer;
      unchanged = record {
        layers = c.loop-layer.invariant.same;
        stays = c.loop-layer.invariant.stays;
      };
    }
