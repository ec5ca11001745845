-- A root stands for one map at most: that it stands for one is a fact, of which a type may keep the proof.
use Rattle.std.specs.Prelude.{◌≡◌, ℕ, ◌+◌, List, [], ◌∷◌, length, refl}
use Rattle.std.specs.Coded.{Coded-set, coded_ℕ, Unit-prop, ×_prop}
use Rattle.std.proofs.Common.{ap}
use Rattle.std.proofs.Math.Bridge.{le_prop}
use mathlib.Core.HLevel.{Σ_prop_path}
use Rattle.slab.specs.Slab.{Slab, slab_len}
use Rattle.vc_splay.specs.Stands.{IsTree}
use Rattle.vc_splay.specs.Tree.{Tree, names}
use Rattle.vc_splay.specs.Unique.{IsTree-one, IsTree-prop}
use Rattle.vc_addrmap.specs.declared.entries.Entry.{Entry}
use Rattle.vc_addrmap.specs.Entries.{address_at, entry_store}
use Rattle.vc_addrmap.specs.Map.{AscendFrom, IsMap}

Ascend-prop : (address : ℕ → ℕ) (low : ℕ) (ns : List ℕ) → IsProp (AscendFrom address low ns)
Ascend-prop address low [] = Unit-prop
Ascend-prop address low (n ∷ ns) = ×_prop le_prop (Ascend-prop address (address n + 1) ns)

module _ (s : Slab Entry) (root : ℕ) where
  -- its tree is the one that the root stands for
  pub IsMap-names : (a : IsMap s root) (t : Tree) → IsTree (entry_store s) root t → names a.tree ≡ names t
  IsMap-names a t h = ap names (IsTree-one (entry_store s) root a.tree t refl a.is_tree h)

  pub IsMap-prop : IsProp (IsMap s root)
  IsMap-prop a b =
      let B : Tree → Type 0 = λ t. IsTree (entry_store s) root t × (AscendFrom (address_at s) 0 (names t) × (slab_len s ≡ length (names t))) in
      let prop : (t : Tree) → IsProp (B t) =
      λ t. ×_prop (IsTree-prop (entry_store s) root t) (×_prop (Ascend-prop (address_at s) 0 (names t)) (Coded-set coded_ℕ (slab_len s) (length (names t)))) in
      let pair : (t : Tree) × B t = (a.tree, (a.is_tree, (a.ascending, a.count))) in
      let other : (t : Tree) × B t = (b.tree, (b.is_tree, (b.ascending, b.count))) in
      let same : pair ≡ other = Σ_prop_path prop (IsTree-one (entry_store s) root a.tree b.tree refl a.is_tree b.is_tree) in
      λ i. record { tree = (same i).0; is_tree = (same i).1.0; ascending = (same i).1.1.0; count = (same i).1.1.1 }
