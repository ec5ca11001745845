-- What one call after another costs the tree of gaps.
use Rattle.vc_base.proofs.Common.{◌≡◌, ℕ, ◌+◌, ◌≤◌, List, [], ◌++◌, sym, ap, ◌∙◌, arith}
use Rattle.std.proofs.lemmas.Nat.{mul-le}
use Rattle.vc_splay.specs.Rank.{binary_digits, rank, size}
use Rattle.vc_splay.specs.Stands.{IsTree}
use Rattle.vc_splay.specs.Tree.{Tree}
use Rattle.vc_splay.specs.Unique.{IsTree-one}
use Rattle.vc_splay.proofs.DigitLemmas.{digits-rise}
use Rattle.vc_gaps.specs.Cost.{GapsCost}
use Rattle.vc_gaps.specs.GapLaws.{gap_none}
use Rattle.vc_gaps.specs.GapStore.{gap_store}
use Rattle.vc_gaps.proofs.GapTrees.{gaps-own}
use Rattle.vc_best.proofs.Common.{AreExtents, Bytes, GapsChange, HasGaps, HasGapsBy, Tiling, tiling}
use Rattle.vc_best.proofs.Linking.{gaps-none_more}

-- a cost is within a greater one
module _ {a b : Tiling} {root result before now per plus more : ℕ} (g : GapsCost a b root result before now per plus more) where
  pub cost_within : (per2 plus2 more2 : ℕ) → per ≤ per2 → plus ≤ plus2 → more ≤ more2 → GapsCost a b root result before now per2 plus2 more2
  cost_within per2 plus2 more2 p q m = record {
    law = λ t u h k. record {
      cost =
          let i = (g.law t u h k).cost in
          let d = digits-rise (size t + more) (size t + more2) (omega arith) in
          let e = mul-le per (binary_digits (size t + more)) per2 (binary_digits (size t + more2)) p d in
          omega arith;
    };
    few = λ t u h k. let i = g.few t u h k in omega arith;
  }

-- what takes no step takes none from any count on
pub cost_from : {a b : Tiling} {root result per plus more : ℕ} (at : ℕ) → GapsCost a b root result 0 0 per plus more → GapsCost a b root result at at per plus more
cost_from at g = record { law = λ t u h k. record { cost = let i = (g.law t u h k).cost in omega arith }; few = g.few }

-- one call and then another, where a tree stands between them
module _ {a b c : Tiling} {root mid result start between now p q m p2 q2 m2 : ℕ} {out : List ℕ} (w : HasGaps b mid out)
    (g : GapsCost a b root mid start between p q m) (l : GapsCost b c mid result between now p2 q2 m2) where
  pub then_cost : GapsCost a c root result start now (p + p2) (q + q2) (m + m2)
  then_cost = record {
    law = λ t u h k. record {
      cost =
          let v = w.tree.tree in
          let i = (g.law t v h w.tree.is_tree).cost in
          let j = (l.law v u w.tree.is_tree k).cost in
          let f = g.few t v h w.tree.is_tree in
          let most = binary_digits (size t + (m + m2)) in
          let d = digits-rise (size t + m) (size t + (m + m2)) (omega arith) in
          let e = digits-rise (size v + m2) (size t + (m + m2)) (omega arith) in
          let x = mul-le p (binary_digits (size t + m)) p most (omega arith) d in
          let y = mul-le p2 (binary_digits (size v + m2)) p2 most (omega arith) e in
          omega arith;
    };
    few = λ t u h k. let f = g.few t w.tree.tree h w.tree.is_tree in let j = l.few w.tree.tree u w.tree.is_tree k in omega arith;
  }

-- a tree that stays costs what is read
stays_cost : (a b : Tiling) (root before now per plus more : ℕ) → ((t u : Tree) → IsTree (gap_store a) root t → IsTree (gap_store b) root u → t ≡ u) → now ≤ before + plus → GapsCost a b root root before now per plus more
stays_cost a b root before now per plus more same le = record {
  law = λ t u h k. record { cost = let r = ap rank (same t u h k) in omega arith };
  few = λ t u h k. let s = ap (λ z. size z) (same t u h k) in omega arith;
}

pub still_cost : (segs : List Bytes) (index : List ℕ) → ∥ AreExtents segs index ∥₁ → (root before now per plus more : ℕ) → now ≤ before + plus → GapsCost (tiling segs) (tiling segs) root root before now per plus more
still_cost segs index kept root before now per plus more le =
    stays_cost (tiling segs) (tiling segs) root before now per plus more (λ t u h k. IsTree-one (gap_store (tiling segs)) root t u (gap_none segs index kept) h k) le

pub changed_cost : (old new : List Bytes) (i j : List ℕ) → ∥ AreExtents old i ∥₁ → ∥ AreExtents new j ∥₁ → (root before now plus : ℕ) (gone come : List ℕ) → GapsChange (tiling old) (tiling new) gone come → HasGaps (tiling old) root gone
    → now ≤ before + plus → GapsCost (tiling old) (tiling new) root root before now 0 plus 0
changed_cost old new i j ko kn root before now plus gone come g w le =
    let v : Tree = w.tree.tree in
    let after : HasGapsBy v (tiling new) root (come ++ []) = g v root [] (gaps-none_more (tiling old) root gone (gaps-own (tiling old) root gone w)) in
    stays_cost (tiling old) (tiling new) root before now 0 plus 0
    (λ t u h k.
    IsTree-one (gap_store (tiling old)) root t v (gap_none old i ko) h w.tree.is_tree
    ∙ sym after.is
    ∙ IsTree-one (gap_store (tiling new)) root after.gaps.tree.tree u (gap_none new j kn) after.gaps.tree.is_tree k)
    le
