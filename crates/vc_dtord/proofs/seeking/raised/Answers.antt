use Rattle.vc_base.proofs.Common.{◌≡◌, true, sym, ap, subst, arith, contains}
use Rattle.vc_splay.specs.Rank.{rank}
use Rattle.vc_splay.specs.Stands.{IsTree}
use Rattle.vc_splay.specs.Tree.{names}
use Rattle.vc_splay.specs.Unique.{IsTree-one}
use Rattle.vc_dtord.proofs.CostLemmas.{raised-cost}
use Rattle.vc_dtord.proofs.seeking.raised.Goals as goal

pub returns-then-at-eq0-clause-law : goal.returns-then-at-eq0-clause-law
returns-then-at-eq0-clause-law g c = λ t after k j.
    let same = ap rank (IsTree-one (g.N.Nodes.store c.args.nodes.now) c.args.root after t (g.met.N.Nodes.none c.args.nodes.now) j k) in
    record { cost = omega arith }

pub returns-clause-law : goal.returns-clause-law
returns-clause-law g c = λ t after k j.
    let s = g.N.Nodes.store c.args.nodes.now in
    let root = c.args.root in
    let at = c.args.at in
    let one = IsTree-one s root c.requires.tree t (g.met.N.Nodes.none c.args.nodes.now) c.requires.is_tree k in
    let within : contains (names t) at ≡ true = subst (λ z. contains (names z) at ≡ true) one (c.requires.within c.if-at-eq0.false) in
    raised-cost s (g.N.Nodes.store c.splay.new.nodes) root c.splay.result at
    (λ p h q u i. c.splay.ensures.law q.context q.left q.right u (subst (λ z. IsTree s root z) (sym q.whole) h) i)
    t after k within j
