use Rattle.vc_base.proofs.Common.{◌≡◌, true, cond, None, sym, ap, ◌∙◌, subst, ne_eqb, contains, last_in, previous_in}
use Rattle.vc_splay.specs.Tree.{names}
use Rattle.vc_splay.specs.Unique.{IsTree-one}
use Rattle.vc_dtord.proofs.seeking.node_before.Goals as goal

pub returns-else-at-eq0 : goal.returns-else-at-eq0
returns-else-at-eq0 g c = λ t k.
    let one = IsTree-one (g.N.Nodes.store c.args.nodes.now) c.args.root c.requires.tree t (g.met.N.Nodes.none c.args.nodes.now) c.requires.is_tree k in
    let within : contains (names t) c.args.at ≡ true = subst (λ z. contains (names z) c.args.at ≡ true) one (c.requires.within c.if-at-eq0.false) in
    c.prev.ensures c.args.root t k within
    ∙ sym (ap (λ z. cond z (last_in (names t)) (previous_in None c.args.at (names t))) (ne_eqb c.args.at 0 c.if-at-eq0.false))
