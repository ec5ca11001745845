-- What the calls cost, over the holders alone.
use Rattle.vc_base.proofs.Common.{◌≡◌, ℕ, ◌+◌, ◌*◌, ◌≤◌, List, true, false, sym, ap, ◌∙◌, subst, true≢false, arith, Blocks, contains}
use Rattle.vc_dtdisc.specs.Rules.{Rules}
use Rattle.vc_splay.specs.Moves.{Paid}
use Rattle.vc_splay.specs.Rank.{Costs, binary_digits, level, rank, size}
use Rattle.vc_splay.specs.Stands.{HasTree, IsTree, TreeAfter}
use Rattle.vc_splay.specs.Store.{Store}
use Rattle.vc_splay.specs.Tree.{Tree, Node, names}
use Rattle.vc_splay.specs.Unique.{IsTree-one}
use Rattle.vc_splay.proofs.DigitLemmas.{level-few}
use Rattle.vc_splay.proofs.PlugLemmas.{Place, place}
use Rattle.vc_splay.proofs.SplayLemmas.{size_same, tally-within}
use Rattle.vc_dtord.specs.declared.dt_ord.DtOrd.{DtOrd}
use Rattle.vc_dtord.specs.Cost.{CallCosts}
use Rattle.vc_dtord.specs.Nodes.{beside, node_store}
use Rattle.vc_dtord.specs.NodeLaws.{node-none}
use Rattle.vc_dtord.specs.Ordered.{CanLink}
use Rattle.vc_dtord.specs.WordWrites.{IsHolderCleared}
use Rattle.vc_dtord.proofs.TreeLemmas.{tree-alone, tree-beside, tree-over}

-- a call's tree is one
pub tree-of : (old new : Store) (touched : List ℕ) (root : ℕ) (ys : List ℕ) → TreeAfter old new touched root ys → HasTree new root
tree-of old new touched root ys a = record { tree = a.tree; is_tree = a.is_tree }

-- what a call costs beside a mark it costs over the holders alone
module _ (ord new : DtOrd) (b b' : Blocks) (store : Store) (mark' more before now : ℕ)
    (here : (t : Tree) → IsTree (node_store b) ord.root.0 t → IsTree store ord.root.0 t)
    (kept : (t : Tree) → IsTree store ord.root.0 t → HasTree (beside mark' (node_store b')) new.root.0)
    (most : ℕ → ℕ) (few : (n : ℕ) → most n ≤ 30 * binary_digits (n + more) + 30)
    (cost : (t u : Tree) → IsTree store ord.root.0 t → IsTree (beside mark' (node_store b')) new.root.0 u → Costs t u before now (most (size t))) where
  pub call_costs : CallCosts ord b new b' more before now
  call_costs = record {
    law = λ t u h k.
        let s = here t h in
        let a = kept t s in
        let same : a.tree ≡ u = IsTree-one (node_store b') new.root.0 a.tree u (node-none b') (tree-alone b' mark' new.root.0 a.tree a.is_tree) k in
        let c : Costs t u before now (most (size t)) = subst (λ z. Costs t z before now (most (size t))) same (cost t a.tree s a.is_tree) in
        record { cost = let i = c.cost in let j = few (size t) in omega arith };
  }

-- a link: the tree stands over blocks in which the words of the new holder are 0
pub tree-linked : (rules : Rules) (ord : DtOrd) (b b' : Blocks) (at : ℕ) → CanLink rules ord b at → IsHolderCleared b b' at → (t : Tree) → IsTree (node_store b) ord.root.0 t → IsTree (beside at (node_store b')) ord.root.0 t
tree-linked rules ord b b' at c w t h =
    let one : c.stands.tree ≡ t = IsTree-one (node_store b) ord.root.0 c.stands.tree t (node-none b) c.stands.is_tree h in
    let list : names t ≡ c.holders = ap names (sym one) ∙ c.stands.list in
    let apart : contains (names t) at ≡ false = ap (λ ys. contains ys at) list ∙ c.apart in
    tree-beside b' at ord.root.0 t w.node
    (tree-over b b' ord.root.0 t (λ a i. w.written.others a (λ e. true≢false (sym i ∙ ap (contains (names t)) e ∙ apart))) h)

-- a node that is made the root, where it is in the tree
module _ (s now : Store) (root top at : ℕ) (law : (p : Tree) → IsTree s root p → (q : Place p at) → (after : Tree) → IsTree now top after → Paid q.context (Node q.left at q.right) after) where
  pub raised-cost : (t after : Tree) → IsTree s root t → contains (names t) at ≡ true → IsTree now top after → Costs t after 0 0 (6 * binary_digits (size t))
  raised-cost t after h within k =
      let q = place t at (tally-within at t within) in
      let paid = law t h q after k in
      record {
        cost =
            let i = paid.paid in
            let x = ap rank q.whole in
            let y = ap size q.whole in
            let z = ap level y in
            let few = level-few (size t) in
            omega arith;
      }

-- one cost after another, where the tree keeps its names
pub costs_then : (t mid after : Tree) (before now : ℕ) → names mid ≡ names t → Costs t mid before now (12 * binary_digits (size t)) → Costs mid after 0 0 (6 * binary_digits (size mid)) → Costs t after before now (18 * binary_digits (size t))
costs_then t mid after before now e h k = record {
  cost =
      let i = h.cost in
      let j = k.cost in
      let s = ap binary_digits (size_same mid t e) in
      omega arith;
}
