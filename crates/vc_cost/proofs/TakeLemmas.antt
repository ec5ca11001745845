-- What it costs to find a holder and take it out.
use Rattle.vc_base.proofs.Common.{◌≡◌, ℕ, ◌+◌, List, sym, ap, ◌∙◌, arith, Blocks}
use Rattle.vc_dtdisc.specs.Rules.{Rules}
use Rattle.vc_splay.specs.Rank.{binary_digits, size}
use Rattle.vc_splay.specs.Stands.{IsTree}
use Rattle.vc_splay.specs.Tree.{Tree, names}
use Rattle.vc_splay.specs.Unique.{IsTree-one}
use Rattle.vc_splay.proofs.SplayLemmas.{size_same}
use Rattle.vc_dtord.specs.declared.dt_ord.DtOrd.{DtOrd}
use Rattle.vc_dtord.specs.Cost.{CallCosts}
use Rattle.vc_dtord.specs.Nodes.{node_store}
use Rattle.vc_dtord.specs.NodeLaws.{node-none}
use Rattle.vc_dtord.specs.Ordered.{OrdFor}
use Rattle.vc_cost.specs.Costs.{TakeCosts}

-- each tree that an ordered set or bag stands for has its holders as names
pub names-holders : (rules : Rules) (ord : DtOrd) (b : Blocks) (holders : List ℕ) (t : Tree) → OrdFor rules ord b holders → IsTree (node_store b) ord.root.0 t → names t ≡ holders
names-holders rules ord b holders t s h =
    ap names (IsTree-one (node_store b) ord.root.0 t s.tree (node-none b) h s.is_tree) ∙ s.list

-- a search, and then an unlink
pub take_costs : (rules : Rules) (ord mid new : DtOrd) (b b' b'' : Blocks) (holders : List ℕ) (start now : ℕ) → OrdFor rules ord b holders → OrdFor rules mid b' holders → CallCosts ord b mid b' 0 start now → CallCosts mid b' new b'' 0 0 0 → TakeCosts ord b new b'' start now
take_costs rules ord mid new b b' b'' holders start now s m p q = record {
  law = λ t u h k.
      let same : size m.tree ≡ size t = size_same m.tree t (m.list ∙ sym (names-holders rules ord b holders t s h)) in
      let first = (p.law t m.tree h m.is_tree).cost in
      let second = (q.law m.tree u m.is_tree k).cost in
      let none : size t + 0 ≡ size t = omega arith in
      let e = ap binary_digits none in
      let none_mid : size m.tree + 0 ≡ size t = omega arith in
      let f = ap binary_digits none_mid in
      record { cost = omega arith };
}
