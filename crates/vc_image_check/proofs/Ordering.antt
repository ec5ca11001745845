-- Names that a walk met, and what is asked of each.
use Rattle.vc_base.proofs.Common.{◌≡◌, ℕ, ◌+◌, ◌<◌, true, List, [], ◌∷◌, length, get_or, drop, contains, sym, ap, ◌∙◌, subst, arith, drop-cons, add-one}
use Rattle.vc_base.specs.Cells.{Blocks, IsHolder}
use Rattle.vc_dtord.specs.NodeLaws.{node-none}
use Rattle.vc_dtord.specs.Nodes.{node_store}
use Rattle.vc_splay.specs.Tree.{names}
use Rattle.vc_splay.specs.Unique.{one_tree}
use Rattle.vc_splay.proofs.StandsLemmas.{Stands-there}
use Rattle.vc_image_check.specs.Walks.Spelled.{IsSpelled}
use Rattle.vc_image_check.specs.Orders.Sound.{ArePlain, IsPlainNode}
use Rattle.vc_image_check.proofs.NodeWords.{node-bytes}

-- each name of a spelled list is a holder
pub spelled-holders : (blocks : Blocks) (root : ℕ) (xs : List ℕ) → IsSpelled (node_store blocks) 0 root xs → (a : ℕ) → contains xs a ≡ true → IsHolder blocks a
spelled-holders blocks root xs s a w = node-bytes blocks a 33 (omega arith) (omega arith) (Stands-there (node_store blocks) 0 s.tree a s.stands (subst (λ ys. contains ys a ≡ true) (sym s.list) w))

-- two spelled lists of a root are one
pub spelled-same : (blocks : Blocks) (root : ℕ) (xs ys : List ℕ) → IsSpelled (node_store blocks) 0 root xs → IsSpelled (node_store blocks) 0 root ys → ys ≡ xs
spelled-same blocks root xs ys s t =
    sym t.list ∙ ap names (one_tree (node_store blocks) 0 0 t.tree s.tree (node-none blocks) t.stands s.stands (sym t.top ∙ s.top)) ∙ s.list

-- the whole is plain exactly where what is left is
pub record Plain (blocks : Blocks) (xs : List ℕ) (i : ℕ) : Type 0 where
  pub to : ArePlain blocks xs → ArePlain blocks (drop i xs)
  pub from : ArePlain blocks (drop i xs) → ArePlain blocks xs

at-place : (xs : List ℕ) (i : ℕ) → i < length xs → drop i xs ≡ get_or xs i 0 ∷ drop (i + 1) xs
at-place xs i lt = drop-cons xs i 0 lt ∙ ap (λ k. get_or xs i 0 ∷ drop k xs) (sym (add-one i))

pub plain-start : (blocks : Blocks) (xs : List ℕ) → Plain blocks xs 0
plain-start blocks xs = record { to = λ h. h; from = λ h. h }

pub plain-next : (blocks : Blocks) (xs : List ℕ) (i : ℕ) → i < length xs → IsPlainNode blocks (get_or xs i 0) → Plain blocks xs i → Plain blocks xs (i + 1)
plain-next blocks xs i lt one p = record {
  to = λ h. (subst (ArePlain blocks) (at-place xs i lt) (p.to h)).1;
  from = λ h. p.from (subst (ArePlain blocks) (sym (at-place xs i lt)) (one, h));
}

pub plain-not : (blocks : Blocks) (xs : List ℕ) (i : ℕ) → i < length xs → (IsPlainNode blocks (get_or xs i 0) → ⊥) → Plain blocks xs i → ArePlain blocks xs → ⊥
plain-not blocks xs i lt never p h = never (subst (ArePlain blocks) (at-place xs i lt) (p.to h)).0

pub plain-end : (blocks : Blocks) (xs : List ℕ) (i : ℕ) → drop i xs ≡ [] → Plain blocks xs i → ArePlain blocks xs
plain-end blocks xs i e p = p.from (subst (ArePlain blocks) (sym e) tt)
