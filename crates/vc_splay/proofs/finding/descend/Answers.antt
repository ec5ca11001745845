use Rattle.vc_base.proofs.Common.{◌≡◌, ◌+◌, ◌<◌, ◌^◌, Bool, cond, is_eq, is_ge, sym, refl, ap, ◌∙◌, subst, arith}
use Rattle.vc_splay.specs.Searches.{is_found}
use Rattle.vc_splay.specs.Walks.{run}
use Rattle.vc_splay.proofs.SearchLemmas.{Searching, found_next, run-fuel, search_end, search_next, search_start}
use Rattle.vc_splay.proofs.WalkLemmas.{names_fit}
use Rattle.vc_splay.proofs.finding.descend.Goals as goal

pub loop-at-init : goal.loop-at-init
loop-at-init g c = (
  refl,
  omega arith,
  let most = run-fuel (2 ^ 32) (λ n. (g.N.Nodes.store c.args.nodes.now).kid (is_ge (g.G.Guide.side_of c.args.guide.now c.args.nodes.now n)) n) c.args.root in omega (arith, most),
  λ t k.
      search_start (g.N.Nodes.store c.args.nodes.now) (g.G.Guide.side_of c.args.guide.now c.args.nodes.now) c.args.root t c.args.steps.now (g.met.N.Nodes.none c.args.nodes.now) c.requires.tree c.requires.some k,
)

pub side-answer-requires : goal.side-answer-requires
side-answer-requires g c =
    (search_next (g.N.Nodes.store c.args.nodes.now) (g.G.Guide.side_of c.args.guide.now c.args.nodes.now) c.requires.tree.tree c.loop-at.deepest c.loop-at.least c.loop-at.at c.args.steps.now c.loop-at.steps (g.met.N.Nodes.none c.args.nodes.now) (c.loop-at.invariant.3 c.requires.tree.tree c.requires.tree.is_tree) c.loop-at-test.true).held

pub kid-at-requires : goal.kid-at-requires
kid-at-requires g c =
    (search_next (g.N.Nodes.store c.args.nodes.now) (g.G.Guide.side_of c.args.guide.now c.args.nodes.now) c.requires.tree.tree c.loop-at.deepest c.loop-at.least c.loop-at.at c.args.steps.now c.loop-at.steps (g.met.N.Nodes.none c.args.nodes.now) (c.loop-at.invariant.3 c.requires.tree.tree c.requires.tree.is_tree) c.loop-at-test.true).held

pub loop-at-preserved : goal.loop-at-preserved
loop-at-preserved g c =
    let s = g.N.Nodes.store c.args.nodes.now in
    let side = g.G.Guide.side_of c.args.guide.now c.args.nodes.now in
    let at = c.loop-at.at in
    let left : c.is_ge-left.result ≡ is_ge (side at) = c.is_ge-left.ensures ∙ ap is_ge c.side-answer.ensures.side in
    let equal : c.equal_by-equal.result ≡ cond (is_ge (side at)) (is_eq (side at)) c.loop-at.equal = c.equal_by-equal.ensures ∙ ap (λ o. cond (is_ge o) (is_eq o) c.loop-at.equal) c.side-answer.ensures.side in
    let least : c.chosen-least.result ≡ cond (is_ge (side at)) at c.loop-at.least = c.chosen-least.ensures ∙ ap (λ z. cond z at c.loop-at.least) left in (
      equal ∙ found_next side at c.loop-at.least c.loop-at.equal c.loop-at-test.true c.loop-at.invariant.0 ∙ ap (is_found side) (sym least),
      let before = c.loop-at.invariant.1 in let one = c.side-answer.ensures.step in omega (arith, before, one),
      let kid : c.kid-at.result ≡ s.kid (is_ge (side at)) at = c.kid-at.ensures ∙ ap (λ z. s.kid z at) left in
          let less : run (2 ^ 32) (λ n. s.kid (is_ge (side n)) n) c.kid-at.result < run (2 ^ 32) (λ n. s.kid (is_ge (side n)) n) at = rw kid
          ((search_next s side c.requires.tree.tree c.loop-at.deepest c.loop-at.least at c.args.steps.now c.loop-at.steps (g.met.N.Nodes.none c.args.nodes.now) (c.loop-at.invariant.3 c.requires.tree.tree c.requires.tree.is_tree) c.loop-at-test.true).less
          (names_fit s 0 c.requires.tree.tree (g.met.N.Nodes.fits c.args.nodes.now) c.requires.tree.is_tree.stands c.requires.tree.is_tree.distinct)) in
          let most = c.loop-at.invariant.2 in
          omega (arith, less, most),
      λ t k.
          let on : Searching s side t at (cond (is_ge (side at)) at c.loop-at.least) (s.kid (is_ge (side at)) at) c.args.steps.now (c.loop-at.steps + 1) =
          (search_next s side t c.loop-at.deepest c.loop-at.least at c.args.steps.now c.loop-at.steps (g.met.N.Nodes.none c.args.nodes.now) (c.loop-at.invariant.3 t k) c.loop-at-test.true).on in
          let with_left : Searching s side t at (cond c.is_ge-left.result at c.loop-at.least) (s.kid c.is_ge-left.result at) c.args.steps.now (c.loop-at.steps + 1) =
          subst (λ (z : Bool). Searching s side t at (cond z at c.loop-at.least) (s.kid z at) c.args.steps.now (c.loop-at.steps + 1)) (sym left) on in
          rw (c.chosen-least.ensures, c.kid-at.ensures, c.side-answer.ensures.step) with_left,
    )

pub loop-at-smaller : goal.loop-at-smaller
loop-at-smaller g c =
    let s = g.N.Nodes.store c.args.nodes.now in
    let side = g.G.Guide.side_of c.args.guide.now c.args.nodes.now in
    let left : c.is_ge-left.result ≡ is_ge (side c.loop-at.at) = c.is_ge-left.ensures ∙ ap is_ge c.side-answer.ensures.side in
    let kid : c.kid-at.result ≡ s.kid (is_ge (side c.loop-at.at)) c.loop-at.at = c.kid-at.ensures ∙ ap (λ z. s.kid z c.loop-at.at) left in
    rw kid
    ((search_next s side c.requires.tree.tree c.loop-at.deepest c.loop-at.least c.loop-at.at c.args.steps.now c.loop-at.steps (g.met.N.Nodes.none c.args.nodes.now) (c.loop-at.invariant.3 c.requires.tree.tree c.requires.tree.is_tree) c.loop-at-test.true).less
    (names_fit s 0 c.requires.tree.tree (g.met.N.Nodes.fits c.args.nodes.now) c.requires.tree.is_tree.stands c.requires.tree.is_tree.distinct))

pub returns-clause-search : goal.returns-clause-search
returns-clause-search g c = λ t k.
    search_end (g.N.Nodes.store c.args.nodes.now) (g.G.Guide.side_of c.args.guide.now c.args.nodes.now) t c.loop-at.deepest c.loop-at.least c.loop-at.at c.args.steps.now c.loop-at.steps (g.met.N.Nodes.none c.args.nodes.now) (c.loop-at.invariant.3 t k) c.loop-at-test.false
