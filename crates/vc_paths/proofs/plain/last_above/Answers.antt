use Rattle.vc_base.proofs.Common.{option_map, flat_map, sym, ap, ◌∙◌}
use Rattle.vc_dtdisc.specs.Finding.{last_from, last_of}
use Rattle.vc_paths.specs.Path.{numbers_of}
use Rattle.vc_paths.specs.Shown.{above, down, shown_in}
use Rattle.vc_paths.proofs.DescentLemmas.{above-end, above-last, above-past, or-mapped}
use Rattle.vc_paths.proofs.DownLemmas.{down-next, on-head, on-next}
use Rattle.vc_paths.proofs.StayLemmas.{alike-kept, on-kept, same-over, shown-kept}
use Rattle.vc_paths.proofs.plain.last_above.Goals as goal

pub returns-then-is_link_to-clause-found : goal.returns-then-is_link_to-clause-found
returns-then-is_link_to-clause-found g c =
    let shows = shown_in (g.Y.Layers.layered c.args.layers.now) c.args.paths.now c.args.d in
    sym (c.loop-layer.invariant.answer
    ∙ above-last shows c.show_invariant.ensures c.args.end (option_map numbers_of c.loop-layer.best) c.in-Some.is (sym c.is_link_to.ensures ∙ c.if-is_link_to.true))

pub end_in-requires : goal.end_in-requires
end_in-requires g c = record {
  path = on-kept c.loop-layer.invariant.same c.requires.path;
  other = alike-kept c.loop-layer.invariant.same (on-head c.show_invariant.ensures c.in-Some.is c.loop-layer.invariant.path);
}

pub loop-layer-smaller : goal.loop-layer-smaller
loop-layer-smaller g c = down-next c.show_invariant.ensures c.in-Some.is c.below-layer.ensures

pub loop-layer-preserved : goal.loop-layer-preserved
loop-layer-preserved g c =
    let i = c.loop-layer.invariant in
    let links = c.args.paths.now in
    let paths = c.show_invariant.ensures in
    let shows = shown_in (g.Y.Layers.layered c.args.layers.now) links c.args.d in
    let last = c.end_in.ensures.found ∙ ap (λ z. last_of (z c.in-Some.e)) (shown-kept links c.args.d i.same) in
    let rest = flat_map shows (above c.args.end (down links c.below-layer.result)) in
    record {
      same = same-over i.same c.end_in.ensures.unchanged.layers;
      stays = g.met.Y.Layers.transitive c.args.layers.now c.loop-layer.layers c.end_in.new.layers i.stays c.end_in.ensures.unchanged.stays;
      path = on-next paths c.in-Some.is c.below-layer.ensures i.path;
      answer = i.answer
          ∙ above-past shows paths c.args.end (option_map numbers_of c.loop-layer.best) c.in-Some.is c.below-layer.ensures (sym c.is_link_to.ensures ∙ c.if-is_link_to.false) last
          ∙ ap (λ z. last_from z rest) (sym (ap (option_map numbers_of) c.or-best.ensures ∙ or-mapped numbers_of c.end_in.result c.loop-layer.best));
    }

pub returns-clause-found : goal.returns-clause-found
returns-clause-found g c =
    sym (c.loop-layer.invariant.answer
    ∙ above-end (shown_in (g.Y.Layers.layered c.args.layers.now) c.args.paths.now c.args.d) c.show_invariant.ensures c.args.end (option_map numbers_of c.loop-layer.best) c.in_default.is)
