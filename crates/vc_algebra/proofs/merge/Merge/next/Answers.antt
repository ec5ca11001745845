use Rattle.vc_base.proofs.Common.{drop, option_map, sym, ap, ◌∙◌, subst}
use Rattle.vc_dtdisc.specs.Finding.{first_of}
use Rattle.vc_paths.specs.Path.{Answers, place_of}
use Rattle.vc_paths.proofs.StayLemmas.{same-over, standing-kept}
use Rattle.vc_algebra.specs.ToCome.{comes}
use Rattle.vc_algebra.proofs.ComeLemmas.{come-kept, fewer-kept, finished, left-head, merge-kept, right-head, same-merge, step}
use Rattle.vc_algebra.proofs.merge.Merge.next.Goals as goal

pub turn-requires-clause-left : goal.turn-requires-clause-left
turn-requires-clause-left g c = (left-head c.loop-turn.self (g.met.Y.Layers.lawful c.loop-turn.layers) c.loop-turn.invariant.merge).stands

pub turn-requires-clause-right : goal.turn-requires-clause-right
turn-requires-clause-right g c = (right-head c.loop-turn.self (g.met.Y.Layers.lawful c.loop-turn.layers) c.loop-turn.invariant.merge).stands

pub returns-then-comes-clause-next : goal.returns-then-comes-clause-next
returns-then-comes-clause-next g c =
    let s = step c.loop-turn.self c.pass-place.new.self c.in-Some.turn c.turn.result c.takes_left.result c.comes.result c.pass-place.result (g.met.Y.Layers.lawful c.loop-turn.layers) c.loop-turn.invariant.merge
    c.turn.ensures c.in-Some.is c.takes_left.ensures (c.comes.ensures ∙ ap (λ z. comes z c.in-Some.turn) c.pass-place.ensures.passes.same.op) c.pass-place.ensures.passes in
    record {
      place = subst (λ z. Answers c.pass-place.result (first_of z)) c.loop-turn.invariant.rest (s.comes c.if-comes.true).0;
      rest = come-kept c.args.paths.now c.pass-place.new.self c.pass-place.ensures.unchanged.layers ∙ (s.comes c.if-comes.true).1 ∙ ap (drop 1) c.loop-turn.invariant.rest;
    }

pub returns-then-comes-clause-stands : goal.returns-then-comes-clause-stands
returns-then-comes-clause-stands g c = standing-kept c.pass-place.new.self.d c.pass-place.result c.pass-place.ensures.unchanged.layers c.pass-place.ensures.passes.stands

pub returns-then-comes-clause-merge : goal.returns-then-comes-clause-merge
returns-then-comes-clause-merge g c = merge-kept c.args.paths.now c.pass-place.new.self c.pass-place.ensures.unchanged.layers c.pass-place.ensures.passes.merge

pub loop-turn-smaller : goal.loop-turn-smaller
loop-turn-smaller g c =
    let s = step c.loop-turn.self c.pass-place.new.self c.in-Some.turn c.turn.result c.takes_left.result c.comes.result c.pass-place.result (g.met.Y.Layers.lawful c.loop-turn.layers) c.loop-turn.invariant.merge
    c.turn.ensures c.in-Some.is c.takes_left.ensures (c.comes.ensures ∙ ap (λ z. comes z c.in-Some.turn) c.pass-place.ensures.passes.same.op) c.pass-place.ensures.passes in
    fewer-kept c.args.paths.now c.pass-place.new.self _ c.pass-place.ensures.unchanged.layers s.fewer

pub loop-turn-preserved : goal.loop-turn-preserved
loop-turn-preserved g c =
    let s = step c.loop-turn.self c.pass-place.new.self c.in-Some.turn c.turn.result c.takes_left.result c.comes.result c.pass-place.result (g.met.Y.Layers.lawful c.loop-turn.layers) c.loop-turn.invariant.merge
    c.turn.ensures c.in-Some.is c.takes_left.ensures (c.comes.ensures ∙ ap (λ z. comes z c.in-Some.turn) c.pass-place.ensures.passes.same.op) c.pass-place.ensures.passes in
    let unchanged = c.pass-place.ensures.unchanged in
    record {
      layers = same-over c.loop-turn.invariant.layers unchanged.layers;
      stays = g.met.Y.Layers.transitive c.args.layers.now c.loop-turn.layers c.pass-place.new.layers c.loop-turn.invariant.stays unchanged.stays;
      merge = merge-kept c.args.paths.now c.pass-place.new.self unchanged.layers c.pass-place.ensures.passes.merge;
      same = same-merge c.loop-turn.invariant.same c.pass-place.ensures.passes.same;
      rest = come-kept c.args.paths.now c.pass-place.new.self unchanged.layers ∙ s.goes c.if-comes.false ∙ c.loop-turn.invariant.rest;
    }

pub returns-clause-next : goal.returns-clause-next
returns-clause-next g c =
    let end = finished c.loop-turn.self c.turn.result (g.met.Y.Layers.lawful c.loop-turn.layers) c.loop-turn.invariant.merge c.turn.ensures c.in_default.is in
    record {
      place = sym (ap (λ z. option_map place_of (first_of z)) (sym c.loop-turn.invariant.rest ∙ end));
      rest = end ∙ sym (ap (drop 1) (sym c.loop-turn.invariant.rest ∙ end));
    }
