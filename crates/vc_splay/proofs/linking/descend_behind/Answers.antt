use Rattle.vc_base.proofs.Common.{◌≡◌, ◌+◌, ◌<◌, ◌^◌, Bool, is_gt, sym, ap, ◌∙◌, subst, arith}
use Rattle.vc_splay.proofs.LeafLemmas.{Seeking, seek_end, seek_next, seek_start}
use Rattle.vc_splay.specs.Walks.{run}
use Rattle.vc_splay.proofs.SearchLemmas.{run-fuel}
use Rattle.vc_splay.proofs.WalkLemmas.{names_fit}
use Rattle.vc_splay.proofs.linking.descend_behind.Goals as goal

pub loop-at-init : goal.loop-at-init
loop-at-init g c = (
  omega arith,
  let most = run-fuel (2 ^ 32) (λ n. (g.N.Nodes.store c.args.nodes.now).kid (is_gt (g.G.Guide.side_of c.args.guide.now c.args.nodes.now n)) n) c.args.root in omega (arith, most),
  λ t k. seek_start (g.N.Nodes.store c.args.nodes.now) (g.G.Guide.side_of c.args.guide.now c.args.nodes.now) c.args.root t c.args.steps.now (g.met.N.Nodes.none c.args.nodes.now) c.requires k,
)

pub side-requires : goal.side-requires
side-requires g c =
    (seek_next (g.N.Nodes.store c.args.nodes.now) (g.G.Guide.side_of c.args.guide.now c.args.nodes.now) c.requires.tree c.loop-at.above c.loop-at.left c.loop-at.at c.args.steps.now c.loop-at.steps (g.met.N.Nodes.none c.args.nodes.now) (c.loop-at.invariant.2 c.requires.tree c.requires.is_tree) c.loop-at-test.true).held

pub kid-at-requires : goal.kid-at-requires
kid-at-requires g c =
    (seek_next (g.N.Nodes.store c.args.nodes.now) (g.G.Guide.side_of c.args.guide.now c.args.nodes.now) c.requires.tree c.loop-at.above c.loop-at.left c.loop-at.at c.args.steps.now c.loop-at.steps (g.met.N.Nodes.none c.args.nodes.now) (c.loop-at.invariant.2 c.requires.tree c.requires.is_tree) c.loop-at-test.true).held

pub loop-at-preserved : goal.loop-at-preserved
loop-at-preserved g c =
    let s = g.N.Nodes.store c.args.nodes.now in
    let side = g.G.Guide.side_of c.args.guide.now c.args.nodes.now in
    let at = c.loop-at.at in
    let left : c.is_gt-left.result ≡ is_gt (side at) = c.is_gt-left.ensures ∙ ap is_gt c.side.ensures.side in (
      let before = c.loop-at.invariant.0 in let one = c.side.ensures.step in omega (arith, before, one),
      let kid : c.kid-at.result ≡ s.kid (is_gt (side at)) at = c.kid-at.ensures ∙ ap (λ z. s.kid z at) left in
          let less : run (2 ^ 32) (λ n. s.kid (is_gt (side n)) n) c.kid-at.result < run (2 ^ 32) (λ n. s.kid (is_gt (side n)) n) at = rw kid
          ((seek_next s side c.requires.tree c.loop-at.above c.loop-at.left at c.args.steps.now c.loop-at.steps (g.met.N.Nodes.none c.args.nodes.now) (c.loop-at.invariant.2 c.requires.tree c.requires.is_tree) c.loop-at-test.true).less
          (names_fit s 0 c.requires.tree (g.met.N.Nodes.fits c.args.nodes.now) c.requires.is_tree.stands c.requires.is_tree.distinct)) in
          let most = c.loop-at.invariant.1 in
          omega (arith, less, most),
      λ t k.
          let on : Seeking s side t at (is_gt (side at)) (s.kid (is_gt (side at)) at) c.args.steps.now (c.loop-at.steps + 1) =
          (seek_next s side t c.loop-at.above c.loop-at.left at c.args.steps.now c.loop-at.steps (g.met.N.Nodes.none c.args.nodes.now) (c.loop-at.invariant.2 t k) c.loop-at-test.true).on in
          let with_left : Seeking s side t at c.is_gt-left.result (s.kid c.is_gt-left.result at) c.args.steps.now (c.loop-at.steps + 1) =
          subst (λ (z : Bool). Seeking s side t at z (s.kid z at) c.args.steps.now (c.loop-at.steps + 1)) (sym left) on in
          rw (c.kid-at.ensures, c.side.ensures.step) with_left,
    )

pub loop-at-smaller : goal.loop-at-smaller
loop-at-smaller g c =
    let s = g.N.Nodes.store c.args.nodes.now in
    let side = g.G.Guide.side_of c.args.guide.now c.args.nodes.now in
    let left : c.is_gt-left.result ≡ is_gt (side c.loop-at.at) = c.is_gt-left.ensures ∙ ap is_gt c.side.ensures.side in
    let kid : c.kid-at.result ≡ s.kid (is_gt (side c.loop-at.at)) c.loop-at.at = c.kid-at.ensures ∙ ap (λ z. s.kid z c.loop-at.at) left in
    rw kid
    ((seek_next s side c.requires.tree c.loop-at.above c.loop-at.left c.loop-at.at c.args.steps.now c.loop-at.steps (g.met.N.Nodes.none c.args.nodes.now) (c.loop-at.invariant.2 c.requires.tree c.requires.is_tree) c.loop-at-test.true).less
    (names_fit s 0 c.requires.tree (g.met.N.Nodes.fits c.args.nodes.now) c.requires.is_tree.stands c.requires.is_tree.distinct))

pub returns-clause-gap : goal.returns-clause-gap
returns-clause-gap g c = λ t k.
    seek_end (g.N.Nodes.store c.args.nodes.now) (g.G.Guide.side_of c.args.guide.now c.args.nodes.now) t c.loop-at.above c.loop-at.left c.loop-at.at c.args.steps.now c.loop-at.steps (g.met.N.Nodes.none c.args.nodes.now) (c.loop-at.invariant.2 t k) c.loop-at-test.false

pub returns-clause-read : goal.returns-clause-read
returns-clause-read g c = c.loop-at.invariant.0
