-- A root stands for one tree at most.
use Rattle.std.specs.Prelude.{◌≡◌, ℕ, true, false, List, [], ◌∷◌, refl}
use Rattle.std.specs.Coded.{Coded-set, coded_bool, coded_ℕ, Unit-prop, ×_prop}
use Rattle.std.proofs.Common.{sym, ap, ◌∙◌}
use Rattle.std.proofs.lemmas.Bool.{true≢false}
use mathlib.Core.HLevel.{Σ_prop_path}
use Rattle.vc_base.specs.Holders.{AreDistinct, contains}
use Rattle.vc_splay.specs.Store.{Store}
use Rattle.vc_splay.specs.Tree.{Tree, Leaf, Node, name_of, names}
use Rattle.vc_splay.specs.Stands.{HasTree, IsNode, IsTree, Stands}

-- 0 is no name that is there
none_there : {A : Type 0} (s : Store) (n : ℕ) → s.has 0 ≡ false → s.has n ≡ true → 0 ≡ n → A
none_there s n none held e = absurd (true≢false (sym held ∙ ap s.has (sym e) ∙ none))

node_same : (l m : Tree) (n k : ℕ) (r q : Tree) → l ≡ m → n ≡ k → r ≡ q → Node l n r ≡ Node m k q
node_same l m n k r q a b c = ap (λ z. Node z n r) a ∙ ap (λ z. Node m z r) b ∙ ap (λ z. Node m k z) c

-- two trees that stand at one name are one
pub one_tree : (s : Store) (up over : ℕ) (t u : Tree) → s.has 0 ≡ false → Stands s up t → Stands s over u → name_of t ≡ name_of u → t ≡ u
one_tree s up over Leaf Leaf none a b e = refl
one_tree s up over Leaf (Node m k q) none a b e = none_there s k none b.0.held e
one_tree s up over (Node l n r) Leaf none a b e = none_there s n none a.0.held (sym e)
one_tree s up over (Node l n r) (Node m k q) none a b e =
    node_same l m n k r q
    (one_tree s n k l m none a.1 b.1 (sym a.0.left_kid ∙ ap (s.kid true) e ∙ b.0.left_kid))
    e
    (one_tree s n k r q none a.2 b.2 (sym a.0.right_kid ∙ ap (s.kid false) e ∙ b.0.right_kid))

-- two trees that a root stands for are one
pub IsTree-one : (s : Store) (root : ℕ) (t u : Tree) → s.has 0 ≡ false → IsTree s root t → IsTree s root u → t ≡ u
IsTree-one s root t u none a b = one_tree s 0 0 t u none a.stands b.stands (sym a.top ∙ b.top)

-- it stands for that one in one way
IsNode-prop : (s : Store) (up n left right : ℕ) → IsProp (IsNode s up n left right)
IsNode-prop s up n left right a b = λ i. record {
  held = Coded-set coded_bool (s.has n) true a.held b.held i;
  parent = Coded-set coded_ℕ (s.parent n) up a.parent b.parent i;
  left_kid = Coded-set coded_ℕ (s.kid true n) left a.left_kid b.left_kid i;
  right_kid = Coded-set coded_ℕ (s.kid false n) right a.right_kid b.right_kid i;
}

Stands-prop : (s : Store) (up : ℕ) (t : Tree) → IsProp (Stands s up t)
Stands-prop s up Leaf = Unit-prop
Stands-prop s up (Node l n r) = λ a b. λ i. (
  IsNode-prop s up n (name_of l) (name_of r) a.0 b.0 i,
  Stands-prop s n l a.1 b.1 i,
  Stands-prop s n r a.2 b.2 i,
)

AreDistinct-prop : (xs : List ℕ) → IsProp (AreDistinct xs)
AreDistinct-prop [] = Unit-prop
AreDistinct-prop (x ∷ xs) = ×_prop (Coded-set coded_bool (contains xs x) false) (AreDistinct-prop xs)

pub IsTree-prop : (s : Store) (root : ℕ) (t : Tree) → IsProp (IsTree s root t)
IsTree-prop s root t a b = λ i. record {
  top = Coded-set coded_ℕ root (name_of t) a.top b.top i;
  stands = Stands-prop s 0 t a.stands b.stands i;
  distinct = AreDistinct-prop (names t) a.distinct b.distinct i;
}

-- so that there is one is a fact, of which a type may keep the proof
pub HasTree-prop : (s : Store) (root : ℕ) → s.has 0 ≡ false → IsProp (HasTree s root)
HasTree-prop s root none a b =
    let pair : (t : Tree) × IsTree s root t = (a.tree, a.is_tree) in
    let other : (t : Tree) × IsTree s root t = (b.tree, b.is_tree) in
    let same : pair ≡ other = Σ_prop_path (IsTree-prop s root) (IsTree-one s root a.tree b.tree none a.is_tree b.is_tree) in
    λ i. record { tree = (same i).0; is_tree = (same i).1 }
