-- A root stands for the gaps of one list at most: that it stands for one is a fact, of which a type
-- may keep the proof.
use Rattle.std.specs.Prelude.{◌≡◌, ℕ, ◌+◌, List, [], ◌∷◌, false, not, ◌&&◌}
use Rattle.std.specs.Coded.{Coded-set, coded_bool, Unit-prop, ×_prop}
use Rattle.std.proofs.Common.{sym, ap, ◌∙◌}
use Rattle.std.proofs.Math.Bridge.{le_prop}
use Rattle.std.proofs.Math.Nat.{ℕ_set}
use mathlib.Core.HLevel.{Σ_prop_path}
use mathlib.Core.List.{is_set}
use Rattle.vc_base.specs.Holders.{contains}
use Rattle.vc_splay.specs.Stands.{IsTree}
use Rattle.vc_splay.specs.Tree.{Tree, names}
use Rattle.vc_splay.specs.Unique.{IsTree-one, IsTree-prop}
use Rattle.vc_gaps.specs.ButLinks.{Tiling}
use Rattle.vc_gaps.specs.GapStore.{gap_store, is_free, key_of}
use Rattle.vc_gaps.specs.GapTree.{AscendFrom, HasGapTree, HasGaps}

names-set : IsSet (List ℕ)
names-set = is_set ℕ_set

Ascend-prop : (key : ℕ → ℕ) (low : ℕ) (xs : List ℕ) → IsProp (AscendFrom key low xs)
Ascend-prop key low [] = Unit-prop
Ascend-prop key low (x ∷ xs) = ×_prop le_prop (Ascend-prop key (key x + 1) xs)

module _ (t : Tiling) (root : ℕ) (none : is_free t 0 ≡ false) where
  -- the lists of two are one
  pub one_list : (xs ys : List ℕ) → HasGapTree t root xs → HasGapTree t root ys → xs ≡ ys
  one_list xs ys h k =
      sym h.list ∙ ap names (IsTree-one (gap_store t) root h.tree k.tree none h.is_tree k.is_tree) ∙ k.list

  -- a root stands for the gaps of a list in one way
  pub HasGapTree-prop : (xs : List ℕ) → IsProp (HasGapTree t root xs)
  HasGapTree-prop xs a b =
      let B : Tree → Type 0 = λ u. IsTree (gap_store t) root u × (names u ≡ xs) in
      let prop : (u : Tree) → IsProp (B u) = λ u. ×_prop (IsTree-prop (gap_store t) root u) (names-set (names u) xs) in
      let pair : (u : Tree) × B u = (a.tree, (a.is_tree, a.list)) in
      let other : (u : Tree) × B u = (b.tree, (b.is_tree, b.list)) in
      let same : pair ≡ other = Σ_prop_path prop (IsTree-one (gap_store t) root a.tree b.tree none a.is_tree b.is_tree) in
      λ i. record {
        tree = (same i).0;
        is_tree = (same i).1.0;
        list = (same i).1.1;
        ascending = Ascend-prop (key_of t) 0 xs a.ascending b.ascending i;
      }

  pub HasGaps-prop : (out : List ℕ) → IsProp (HasGaps t root out)
  HasGaps-prop out a b =
      let E : List ℕ → Type 0 = λ xs. (n : ℕ) → contains xs n ≡ (is_free t n && not (contains out n)) in
      let exact_prop : (xs : List ℕ) → IsProp (E xs) =
      λ xs p q. λ i n. Coded-set coded_bool (contains xs n) (is_free t n && not (contains out n)) (p n) (q n) i in
      let B : List ℕ → Type 0 = λ xs. HasGapTree t root xs × E xs in
      let prop : (xs : List ℕ) → IsProp (B xs) = λ xs. ×_prop (HasGapTree-prop xs) (exact_prop xs) in
      let pair : (xs : List ℕ) × B xs = (a.names, (a.tree, a.exact)) in
      let other : (xs : List ℕ) × B xs = (b.names, (b.tree, b.exact)) in
      let same : pair ≡ other = Σ_prop_path prop (one_list a.names b.names a.tree b.tree) in
      λ i. record { names = (same i).0; tree = (same i).1.0; exact = (same i).1.1 }
