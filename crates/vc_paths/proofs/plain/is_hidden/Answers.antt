use Rattle.vc_base.proofs.Common.{◌≡◌, ℕ, List, Some, sym, refl, ◌∙◌}
use Rattle.vc_paths.specs.Layers.{bytes_there}
use Rattle.vc_paths.specs.Shown.{has_match}
use Rattle.vc_paths.proofs.CoverLemmas.{cover-end, cover-is, cover-less, cover-stop, cover-there, match-told}
use Rattle.vc_paths.proofs.DownLemmas.{down-next, on-head, on-next}
use Rattle.vc_paths.proofs.StayLemmas.{alike-kept, same-itself, same-over}
use Rattle.vc_paths.proofs.plain.is_hidden.Given.{Over}
use Rattle.vc_paths.proofs.plain.is_hidden.Goals as goal
use Rattle.vc_paths.proofs.plain.is_hidden.Goals.{After-has_like}

-- whether the layer at which the walk is has a match, by the rules of the path
matched : (g : Over) (c : After-has_like g) (bytes : List ℕ)
    → bytes_there c.args.at.0 ((g.Y.Layers.layered c.args.layers.now).layer c.args.e).objects ≡ Some bytes
    → has_match (g.Y.Layers.layered c.args.layers.now) c.args.d bytes c.in-Some.u ≡ c.has_like.result
matched g c =
    match-told c.args.e c.args.at.0 c.loop-upper.invariant.same (g.met.Y.Layers.lawful c.args.layers.now)
    (on-head c.show_invariant.ensures refl c.requires.layer.path) (on-head c.show_invariant.ensures c.in-Some.is c.loop-upper.invariant.path) c.has_like.ensures.found

pub loop-upper-init : goal.loop-upper-init
loop-upper-init g c =
    let all = g.Y.Layers.layered c.args.layers.now in
    record {
      same = same-itself all;
      stays = g.met.Y.Layers.reflexive c.args.layers.now;
      path = c.requires.layer.path;
      answer = λ bytes _. cover-is all c.args.paths.now c.args.d c.args.e bytes;
    }

pub returns-then-e-u-clause-hidden : goal.returns-then-e-u-clause-hidden
returns-then-e-u-clause-hidden g c = λ bytes there.
    sym (c.loop-upper.invariant.answer bytes there
    ∙ cover-stop (has_match (g.Y.Layers.layered c.args.layers.now) c.args.d bytes) c.show_invariant.ensures c.args.e c.in-Some.is c.if-e-u.true)

pub has_like-requires-clause-upper : goal.has_like-requires-clause-upper
has_like-requires-clause-upper g c =
    c.loop-upper.invariant.same.has c.in-Some.u (on-head c.show_invariant.ensures c.in-Some.is c.loop-upper.invariant.path).there

pub has_like-requires-clause-kinds : goal.has_like-requires-clause-kinds
has_like-requires-clause-kinds g c =
    let same = c.loop-upper.invariant.same in
    (alike-kept same c.requires.layer.other).kind ∙ sym (alike-kept same (on-head c.show_invariant.ensures c.in-Some.is c.loop-upper.invariant.path)).kind

pub returns-then-has_like-clause-hidden : goal.returns-then-has_like-clause-hidden
returns-then-has_like-clause-hidden g c = λ bytes there.
    let found = matched g (goal.at.returns-then-has_like-clause-hidden g c).After-has_like bytes there ∙ c.if-has_like.true in
    sym (c.loop-upper.invariant.answer bytes there
    ∙ cover-there (has_match (g.Y.Layers.layered c.args.layers.now) c.args.d bytes) c.show_invariant.ensures c.args.e c.in-Some.is c.if-e-u.false found)

pub loop-upper-smaller : goal.loop-upper-smaller
loop-upper-smaller g c = down-next c.show_invariant.ensures c.in-Some.is c.below-upper.ensures

pub loop-upper-preserved : goal.loop-upper-preserved
loop-upper-preserved g c =
    record {
      same = same-over c.loop-upper.invariant.same c.has_like.ensures.unchanged.layers;
      stays = g.met.Y.Layers.transitive c.args.layers.now c.loop-upper.layers c.has_like.new.layers c.loop-upper.invariant.stays c.has_like.ensures.unchanged.stays;
      path = on-next c.show_invariant.ensures c.in-Some.is c.below-upper.ensures c.loop-upper.invariant.path;
      answer = λ bytes there.
          let none = matched g (goal.at.loop-upper-preserved g c).After-has_like bytes there ∙ c.if-has_like.false in
          let likes = has_match (g.Y.Layers.layered c.args.layers.now) c.args.d bytes in
          c.loop-upper.invariant.answer bytes there ∙ cover-less likes c.show_invariant.ensures c.args.e c.in-Some.is c.if-e-u.false c.below-upper.ensures none;
    }

pub returns-clause-hidden : goal.returns-clause-hidden
returns-clause-hidden g c = λ bytes there.
    sym (c.loop-upper.invariant.answer bytes there
    ∙ cover-end (has_match (g.Y.Layers.layered c.args.layers.now) c.args.d bytes) c.show_invariant.ensures c.args.e c.in_default.is)
