use Rattle.vc_base.proofs.Common.{◌≡◌, ◌+◌, Bool, is_eq, is_gt, true, false, sym, ap, ◌∙◌, subst}
use Rattle.vc_objects.proofs.WayLemmas.{Reading, answered, read_free, read_less, read_next, read_start, read_taken}
use Rattle.vc_splay.proofs.WalkLemmas.{names_fit}
use Rattle.vc_objects.proofs.puts.reading.read_down.Goals as goal

pub loop-at-init : goal.loop-at-init
loop-at-init g c = λ t k.
    read_start (g.N.Nodes.store c.args.nodes.now) (g.G.Guide.side_of c.args.guide.now c.args.nodes.now) c.args.root t c.args.steps.now (g.met.N.Nodes.none c.args.nodes.now) c.requires k

pub returns-then-is_eq : goal.returns-then-is_eq
returns-then-is_eq g c = λ t k.
    let s = g.N.Nodes.store c.args.nodes.now in
    let side = g.G.Guide.side_of c.args.guide.now c.args.nodes.now in
    let at = c.loop-at.at in
    let equal : is_eq (side at) ≡ true = sym (answered is_eq c.side-answer.result (side at) c.is_eq.result c.is_eq.ensures c.side-answer.ensures.side) ∙ c.if-is_eq.true in
    rw c.side-answer.ensures.step
    (read_taken s side t c.loop-at.above c.loop-at.left at c.args.steps.now c.loop-at.steps (c.loop-at.invariant t k) c.loop-at-test.true equal)

pub loop-at-preserved : goal.loop-at-preserved
loop-at-preserved g c = λ t k.
    let s = g.N.Nodes.store c.args.nodes.now in
    let side = g.G.Guide.side_of c.args.guide.now c.args.nodes.now in
    let at = c.loop-at.at in
    let left : c.is_gt-left.result ≡ is_gt (side at) = answered is_gt c.side-answer.result (side at) c.is_gt-left.result c.is_gt-left.ensures c.side-answer.ensures.side in
    let other : is_eq (side at) ≡ false = sym (answered is_eq c.side-answer.result (side at) c.is_eq.result c.is_eq.ensures c.side-answer.ensures.side) ∙ c.if-is_eq.false in
    let on : Reading s side t at (is_gt (side at)) (s.kid (is_gt (side at)) at) c.args.steps.now (c.loop-at.steps + 1) =
    read_next s side t c.loop-at.above c.loop-at.left at c.args.steps.now c.loop-at.steps (g.met.N.Nodes.none c.args.nodes.now) (c.loop-at.invariant t k) c.loop-at-test.true other in
    let with_left : Reading s side t at c.is_gt-left.result (s.kid c.is_gt-left.result at) c.args.steps.now (c.loop-at.steps + 1) =
    subst (λ (z : Bool). Reading s side t at z (s.kid z at) c.args.steps.now (c.loop-at.steps + 1)) (sym left) on in
    rw (c.kid-at.ensures, c.side-answer.ensures.step) with_left

pub loop-at-smaller : goal.loop-at-smaller
loop-at-smaller g c =
    let s = g.N.Nodes.store c.args.nodes.now in
    let side = g.G.Guide.side_of c.args.guide.now c.args.nodes.now in
    let left : c.is_gt-left.result ≡ is_gt (side c.loop-at.at) = answered is_gt c.side-answer.result (side c.loop-at.at) c.is_gt-left.result c.is_gt-left.ensures c.side-answer.ensures.side in
    let kid : c.kid-at.result ≡ s.kid (is_gt (side c.loop-at.at)) c.loop-at.at = c.kid-at.ensures ∙ ap (λ z. s.kid z c.loop-at.at) left in
    rw kid
    (read_less s side c.requires.tree c.loop-at.above c.loop-at.left c.loop-at.at c.args.steps.now c.loop-at.steps (g.met.N.Nodes.none c.args.nodes.now) (c.loop-at.invariant c.requires.tree c.requires.is_tree) c.loop-at-test.true
    (names_fit s 0 c.requires.tree (g.met.N.Nodes.fits c.args.nodes.now) c.requires.is_tree.stands c.requires.is_tree.distinct))

pub returns : goal.returns
returns g c = λ t k.
    read_free (g.N.Nodes.store c.args.nodes.now) (g.G.Guide.side_of c.args.guide.now c.args.nodes.now) t c.loop-at.above c.loop-at.left c.loop-at.at c.args.steps.now c.loop-at.steps (g.met.N.Nodes.none c.args.nodes.now) (c.loop-at.invariant t k) c.loop-at-test.false
