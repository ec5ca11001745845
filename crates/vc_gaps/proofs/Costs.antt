-- What calls on a tree of gaps cost.
use Rattle.vc_base.proofs.Common.{◌≡◌, ℕ, ◌+◌, ◌*◌, ◌≤◌, true, false, cond, eqb, List, [], ◌∷◌, length, refl, ap, ◌∙◌, arith, without}
use Rattle.std.specs.Ordering.{is_gt}
use Rattle.std.specs.declared.cmp.Ordering.{Ordering}
use Rattle.vc_splay.specs.Guide.{order_with_name}
use Rattle.vc_splay.specs.Rank.{Costs, binary_digits, size}
use Rattle.vc_splay.specs.Stands.{IsTree, TreeAfter}
use Rattle.vc_splay.specs.Store.{Store}
use Rattle.vc_splay.specs.Tree.{Tree, names}
use Rattle.vc_splay.specs.Unique.{IsTree-one}
use Rattle.vc_gaps.specs.Cost.{GapsCost}
use Rattle.vc_gaps.proofs.Common.{AreExtents, Bytes, HasGapTree, StaysButLinks, Tiling, gap_none, gap_side, gap_store, is_free, is_free-stays, tiling}

-- how many names a tree has
size-names : (t : Tree) (ys : List ℕ) → names t ≡ ys → size t ≡ length ys
unfolding size
size-names t ys e = ap (λ xs. length xs) e

length-ordered : (side : ℕ → Ordering) (a : ℕ) (xs : List ℕ) → length (order_with_name side a xs) ≡ length xs + 1
length-ordered side a [] = refl
length-ordered side a (x ∷ xs) =
    let h = length-ordered side a xs in
    elim (is_gt (side x)) as (λ b. length (cond b (a ∷ x ∷ xs) (x ∷ order_with_name side a xs)) ≡ length (x ∷ xs) + 1) [ true ↦ omega arith | false ↦ omega arith ]

length-without : (a : ℕ) (xs : List ℕ) → length (without a xs) ≤ length xs
length-without a [] = omega arith
length-without a (x ∷ xs) =
    let h = length-without a xs in
    elim (eqb x a) as (λ b. length (cond b xs (x ∷ without a xs)) ≤ length (x ∷ xs)) [ true ↦ omega arith | false ↦ omega arith ]

-- a root's tree has as many gaps as its list
pub size-list : (t : Tiling) (root : ℕ) (xs : List ℕ) → is_free t 0 ≡ false → HasGapTree t root xs → (u : Tree) → IsTree (gap_store t) root u → size u ≡ length xs
size-list t root xs none h u k = ap (λ z. size z) (IsTree-one (gap_store t) root u h.tree none k h.is_tree) ∙ size-names h.tree xs h.list

module _ (old new : List Bytes) (index : List ℕ) (kept : ∥ AreExtents old index ∥₁) (rest : StaysButLinks old new) (root result : ℕ) where
  abbrev from : Store
  from = gap_store (tiling old)

  abbrev to : Store
  to = gap_store (tiling new)

  size-after : (touched ys : List ℕ) → TreeAfter from to touched result ys → (u : Tree) → IsTree to result u → size u ≡ length ys
  size-after touched ys a u k =
      let none : is_free (tiling new) 0 ≡ false = is_free-stays (tiling old) (tiling new) rest.extents 0 ∙ gap_none old index kept in
      ap (λ z. size z) (IsTree-one to result u a.tree none k a.is_tree) ∙ size-names a.tree ys a.list

  -- a search, a link and an unlink
  pub found-cost : (before now : ℕ) → ((t u : Tree) → IsTree from root t → IsTree to result u → Costs t u before now (12 * binary_digits (size t)))
      → ((t : Tree) → IsTree from root t → TreeAfter from to (names t) result (names t)) → GapsCost (tiling old) (tiling new) root result before now 12 0 0
  found-cost before now law after = record {
    law = λ t u h k. record { cost = let i = (law t u h k).cost in let same : size t + 0 ≡ size t = omega arith in let e = ap binary_digits same in omega arith };
    few = λ t u h k. let e = size-after (names t) (names t) (after t h) u k in let s = size-names t (names t) refl in omega arith;
  }

  pub linked-cost : (a span before start now : ℕ) → start ≡ before + 1 → ((t u : Tree) → IsTree from root t → IsTree to result u → Costs t u start now (8 * binary_digits (size t + 1)))
      → ((t : Tree) → IsTree from root t → TreeAfter from to (a ∷ names t) result (order_with_name (gap_side (tiling old) span a) a (names t))) → GapsCost (tiling old) (tiling new) root result before now 8 1 1
  linked-cost a span before start now one law after = record {
    law = λ t u h k. record { cost = let i = (law t u h k).cost in omega arith };
    few = λ t u h k.
        let e = size-after (a ∷ names t) (order_with_name (gap_side (tiling old) span a) a (names t)) (after t h) u k in
        let s = size-names t (names t) refl in
        let l = length-ordered (gap_side (tiling old) span a) a (names t) in
        omega arith;
  }

  pub unlinked-cost : (a : ℕ) → ((t u : Tree) → IsTree from root t → IsTree to result u → Costs t u 0 0 (12 * binary_digits (size t)))
      → ((t : Tree) → IsTree from root t → TreeAfter from to (names t) result (without a (names t))) → GapsCost (tiling old) (tiling new) root result 0 0 12 0 0
  unlinked-cost a law after = record {
    law = λ t u h k. record { cost = let i = (law t u h k).cost in let same : size t + 0 ≡ size t = omega arith in let e = ap binary_digits same in omega arith };
    few = λ t u h k.
        let e = size-after (names t) (without a (names t)) (after t h) u k in
        let s = size-names t (names t) refl in
        let l = length-without a (names t) in
        omega arith;
  }
