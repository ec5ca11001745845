use Rattle.vc_base.proofs.Common.{option_map, sym, refl, ap, ◌∙◌, number_of}
use Rattle.vc_paths.specs.Layers.{place_in}
use Rattle.vc_paths.proofs.SeenLemmas.{Stop, stop-at, fewer-next, end-none, end-past, end-seen, next-place, place-kept, there-still}
use Rattle.vc_paths.proofs.StayLemmas.{same-itself, alike-kept, on-kept}
use Rattle.vc_paths.proofs.plain.seen_along.Given.{Over}
use Rattle.vc_paths.proofs.plain.seen_along.Goals as goal
use Rattle.vc_paths.proofs.plain.seen_along.Goals.{After-is_hidden}

-- the walk behind the test of an object
here : (g : Over) (c : After-is_hidden g)
    → Stop (g.Y.Layers.layered c.args.layers.now) (g.Y.Layers.layered c.is_hidden.new.layers)
    c.args.paths.now c.args.d c.args.e c.in-Some.place.0 (option_map number_of c.loop-here.here) c.is_hidden.result
here g c =
    let i = c.loop-here.invariant in
    stop-at (g.met.Y.Layers.lawful c.args.layers.now) c.requires.layer.other i.place (ap (option_map number_of) c.in-Some.is) i.same
    c.is_hidden.ensures.hidden c.is_hidden.ensures.unchanged.layers

stays : (g : Over) (c : After-is_hidden g) → g.Y.Layers.Stays c.args.layers.now c.is_hidden.new.layers
stays g c =
    g.met.Y.Layers.transitive c.args.layers.now c.loop-here.layers c.is_hidden.new.layers c.loop-here.invariant.stays c.is_hidden.ensures.unchanged.stays

pub loop-here-init : goal.loop-here-init
loop-here-init g c = record {
  same = same-itself (g.Y.Layers.layered c.args.layers.now);
  stays = g.met.Y.Layers.reflexive c.args.layers.now;
  place = c.requires.place;
  answer = refl;
}

pub is_hidden-requires : goal.is_hidden-requires
is_hidden-requires g c =
    let same = c.loop-here.invariant.same in
    let a = c.in-Some.place.0 in
    record {
      layer = record { path = on-kept same c.requires.layer.path; other = alike-kept same c.requires.layer.other };
      place = place-kept c.args.e a same (c.loop-here.invariant.place a (ap (option_map number_of) c.in-Some.is));
    }

pub returns-then-not-is_hidden : goal.returns-then-not-is_hidden
returns-then-not-is_hidden g c =
    let after = (goal.at.returns-then-not-is_hidden g c).After-is_hidden in
    record {
      found = end-seen (here g after) c.args.back c.if-not-is_hidden.true ∙ sym (ap place_in c.loop-here.invariant.answer);
      unchanged = record {
        layers = (here g after).same;
        stays = stays g after;
      };
    }

pub beside-here-requires : goal.beside-here-requires
beside-here-requires g c =
    let w = here g (goal.at.beside-here-requires g c).After-is_hidden in
    record { dict = w.same.has c.args.e c.requires.layer.other.there; place = there-still w }

pub loop-here-smaller : goal.loop-here-smaller
loop-here-smaller g c = fewer-next (here g (goal.at.loop-here-smaller g c).After-is_hidden) c.args.back c.beside-here.ensures

pub loop-here-preserved : goal.loop-here-preserved
loop-here-preserved g c =
    let after = (goal.at.loop-here-preserved g c).After-is_hidden in
    let w = here g after in
    record {
      same = w.same;
      stays = stays g after;
      place = next-place w c.args.back c.beside-here.ensures;
      answer = c.loop-here.invariant.answer ∙ end-past w c.args.back c.beside-here.ensures c.if-not-is_hidden.false;
    }

pub returns : goal.returns
returns g c =
    record {
      found = end-none c.args.back (g.Y.Layers.layered c.args.layers.now) c.args.paths.now c.args.d c.args.e (ap (option_map number_of) c.in_default.is)
          ∙ sym (ap place_in c.loop-here.invariant.answer);
      unchanged = record {
        layers = c.loop-here.invariant.same;
        stays = c.loop-here.invariant.stays;
      };
    }
