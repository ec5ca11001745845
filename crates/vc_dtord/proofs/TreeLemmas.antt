-- Trees of holders: over blocks in which their holders stay, and beside another holder.
use Rattle.vc_base.proofs.Common.{◌≡◌, ℕ, zero, suc, ◌≤◌, true, false, cond, List, [], ◌∷◌, ◌++◌, length, is_some, Some, None, All, Option, unwrap_or, sym, refl, ap, ◌∙◌, subst, true≢false, arith, length-append, ne_eqb, and_from, All-cons, All-head, All-nil, All-tail, Blocks, body_of, word, word_at, AreDistinct, contains}
use Rattle.vc_base.proofs.Members.{within-head, within-tail, within-front, within-rest}
use Rattle.vc_dtdisc.specs.Rules.{Rules}
use Rattle.vc_dtlist.proofs.AddressLemmas.{AreHolders}
use Rattle.vc_splay.specs.Stands.{IsTree, Stands}
use Rattle.vc_splay.specs.Store.{SameLinks, Store}
use Rattle.vc_splay.specs.Tree.{Tree, Leaf, Node, names, name_of}
use Rattle.vc_splay.specs.Unique.{IsTree-one}
use Rattle.vc_splay.proofs.StandsLemmas.{Stands-there}
use Rattle.vc_dtord.specs.declared.dt_ord.DtOrd.{DtOrd}
use Rattle.vc_dtord.specs.Nodes.{beside, is_node, is_node_of, node_store}
use Rattle.vc_dtord.specs.NodeLaws.{IsNodeAt, and-right, node-is, node-none}
use Rattle.vc_dtord.specs.Ordered.{IsPlain, OrdFor, in_order}
use Rattle.vc_dtord.proofs.SortedLemmas.{IsSorted-same}

-- a tree stands in another store where its names are there and keep their links
Stands-same : (s s' : Store) (up : ℕ) (t : Tree) → ((n : ℕ) → contains (names t) n ≡ true → s.has n ≡ true → s'.has n ≡ true) → ((n : ℕ) → contains (names t) n ≡ true → SameLinks s s' n) → Stands s up t → Stands s' up t
Stands-same s s' up Leaf held same h = tt
Stands-same s s' up (Node l n r) held same h =
    let here : contains (names (Node l n r)) n ≡ true = within-rest (names l) (n ∷ names r) n (within-head n (names r)) in
    let left : (m : ℕ) → contains (names l) m ≡ true → contains (names (Node l n r)) m ≡ true = λ m w. within-front (names l) (n ∷ names r) m w in
    let right : (m : ℕ) → contains (names r) m ≡ true → contains (names (Node l n r)) m ≡ true = λ m w. within-rest (names l) (n ∷ names r) m (within-tail n (names r) m w) in (
      record {
        held = held n here h.0.held;
        parent = (same n here).parent ∙ h.0.parent;
        left_kid = (same n here).kid true ∙ h.0.left_kid;
        right_kid = (same n here).kid false ∙ h.0.right_kid;
      },
      Stands-same s s' n l (λ m w. held m (left m w)) (λ m w. same m (left m w)) h.1,
      Stands-same s s' n r (λ m w. held m (right m w)) (λ m w. same m (right m w)) h.2,
    )

IsTree-same : (s s' : Store) (root : ℕ) (t : Tree) → ((n : ℕ) → contains (names t) n ≡ true → s.has n ≡ true → s'.has n ≡ true) → ((n : ℕ) → contains (names t) n ≡ true → SameLinks s s' n) → IsTree s root t → IsTree s' root t
IsTree-same s s' root t held same h = record { top = h.top; stands = Stands-same s s' 0 t held same h.stands; distinct = h.distinct }

-- beside a holder that is there, and without it
pub tree-beside : (b : Blocks) (mark root : ℕ) (t : Tree) → is_node b mark ≡ true → IsTree (node_store b) root t → IsTree (beside mark (node_store b)) root t
tree-beside b mark root t there h =
    IsTree-same (node_store b) (beside mark (node_store b)) root t (λ n w k. and_from (is_node b mark) (is_node b n) there k) (λ n w. record { kid = λ d. refl; parent = refl }) h

pub tree-alone : (b : Blocks) (mark root : ℕ) (t : Tree) → IsTree (beside mark (node_store b)) root t → IsTree (node_store b) root t
tree-alone b mark root t h =
    IsTree-same (beside mark (node_store b)) (node_store b) root t (λ n w k. and-right (is_node b mark) (is_node b n) k) (λ n w. record { kid = λ d. refl; parent = refl }) h

-- beside its root
pub tree-beside_root : (b : Blocks) (mark root : ℕ) (t : Tree) → mark ≡ root → IsTree (node_store b) root t → IsTree (beside mark (node_store b)) root t
tree-beside_root b mark root Leaf e h = record { top = h.top; stands = tt; distinct = tt }
tree-beside_root b mark root (Node l n r) e h = tree-beside b mark root (Node l n r) (subst (λ z. is_node b z ≡ true) (sym (e ∙ h.top)) h.stands.0.held) h

-- what stays of each of them stays of all
pub All-within : (P Q : ℕ → Type 0) (xs : List ℕ) → ((a : ℕ) → contains xs a ≡ true → P a → Q a) → All P xs → All Q xs
All-within P Q [] f h = All-nil Q
All-within P Q (x ∷ xs) f h = All-cons Q x xs (f x (within-head x xs) (All-head P x xs h)) (All-within P Q xs (λ a w. f a (within-tail x xs a w)) (All-tail P x xs h))

-- each of the holders is a node
pub OrdFor-node : (rules : Rules) (ord : DtOrd) (b : Blocks) (xs : List ℕ) (a : ℕ) → OrdFor rules ord b xs → contains xs a ≡ true → is_node b a ≡ true
OrdFor-node rules ord b xs a s w = Stands-there (node_store b) 0 s.tree a s.is_tree.stands (ap (λ ys. contains ys a) s.list ∙ w)

some-long : (o : Option (List ℕ)) → 33 ≤ length (unwrap_or o []) → is_some o ≡ true
some-long None h = absurd (omega (arith, h))
some-long (Some x) h = refl

-- at an address of its own
pub OrdFor-holders : (rules : Rules) (ord : DtOrd) (b : Blocks) (xs : List ℕ) → OrdFor rules ord b xs → AreHolders b xs
OrdFor-holders rules ord b xs s =
    let node : (a : ℕ) → contains xs a ≡ true → IsNodeAt b a = λ a w. node-is b a (OrdFor-node rules ord b xs a s w) in
    record {
      addresses = λ a w. (node a w).address;
      there = λ a w. record { there = some-long (b a) (node a w).long; enough = (node a w).long };
      distinct = subst (λ z. AreDistinct z) s.list s.is_tree.distinct;
    }

-- over the same blocks there is one list of them
pub OrdFor-one : (rules others : Rules) (ord : DtOrd) (b : Blocks) (xs ys : List ℕ) → OrdFor rules ord b xs → OrdFor others ord b ys → xs ≡ ys
OrdFor-one rules others ord b xs ys s t =
    sym s.list ∙ ap names (IsTree-one (node_store b) ord.root.0 s.tree t.tree (node-none b) s.is_tree t.is_tree) ∙ t.list

-- a tree stands over blocks in which its holders stay
pub tree-over : (b b' : Blocks) (root : ℕ) (t : Tree) → ((n : ℕ) → contains (names t) n ≡ true → b' n ≡ b n) → IsTree (node_store b) root t → IsTree (node_store b') root t
tree-over b b' root t at h =
    IsTree-same (node_store b) (node_store b') root t
    (λ n w k. ap (λ o. is_node_of n (unwrap_or o [])) (at n w) ∙ k)
    (λ n w. record {
      kid = λ d. ap (λ o. word (cond d 0 1) (unwrap_or o [])) (at n w);
      parent = ap (λ o. word 2 (unwrap_or o [])) (at n w);
    })
    h

-- and over blocks in which they stay they are the same
pub OrdFor-same : (rules : Rules) (ord : DtOrd) (b b' : Blocks) (xs : List ℕ) → ((a : ℕ) → contains xs a ≡ true → b' a ≡ b a) → OrdFor rules ord b xs → OrdFor rules ord b' xs
OrdFor-same rules ord b b' xs e s =
    let at : (n : ℕ) → contains (names s.tree) n ≡ true → b' n ≡ b n = λ n w. e n (ap (λ ys. contains ys n) (sym s.list) ∙ w) in
    record {
      tree = s.tree;
      is_tree = tree-over b b' ord.root.0 s.tree at s.is_tree;
      list = s.list;
      plain = All-within (IsPlain b) (IsPlain b') xs (λ a w p. ap (λ o. word 3 (unwrap_or o [])) (e a w) ∙ p) s.plain;
      sorted = IsSorted-same rules b b' xs (λ a w. ap (λ o. body_of (unwrap_or o [])) (e a w)) s.sorted;
    }

-- read from the bytes they are those
in_order-names : (b : Blocks) (depth up : ℕ) (t : Tree) → Stands (node_store b) up t → length (names t) ≤ depth → in_order b depth (name_of t) ≡ names t
in_order-names b zero up Leaf h few = refl
in_order-names b zero up (Node l n r) h few = let e = length-append (names l) (n ∷ names r) in absurd (omega arith)
in_order-names b (suc depth) up Leaf h few = refl
in_order-names b (suc depth) up (Node l n r) h few =
    let e = length-append (names l) (n ∷ names r) in
    let left = in_order-names b depth n l h.1 (omega arith) in
    let right = in_order-names b depth n r h.2 (omega arith) in
    rw (ne_eqb n 0 (λ z. true≢false (sym h.0.held ∙ ap (is_node b) z ∙ node-none b)))
    (ap (λ xs. xs ++ n ∷ in_order b depth (word_at b n 1)) (ap (in_order b depth) h.0.left_kid ∙ left)
    ∙ ap (λ xs. names l ++ n ∷ xs) (ap (in_order b depth) h.0.right_kid ∙ right))

pub OrdFor-in_order : (rules : Rules) (ord : DtOrd) (b : Blocks) (xs : List ℕ) (depth : ℕ) → OrdFor rules ord b xs → length xs ≤ depth → in_order b depth ord.root.0 ≡ xs
OrdFor-in_order rules ord b xs depth s few =
    let long = ap length s.list in
    ap (in_order b depth) s.is_tree.top ∙ in_order-names b depth 0 s.tree s.is_tree.stands (omega arith) ∙ s.list
