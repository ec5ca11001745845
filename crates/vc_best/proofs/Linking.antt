-- The free extents beside one that are taken out of the tree of gaps and put into it.
use Rattle.vc_base.proofs.Common.{◌≡◌, ℕ, ◌<◌, true, false, ◌||◌, List, [], ◌∷◌, ◌++◌, Some, None, Option, option_map, sym, refl, ap, ◌∙◌, ⊎_elim, arith, lt-ltb, ne_eqb, or-false, le_prop, ∥∥₁_elim, ℕ_set, cases_Bool, contains, address, place_of}
use Rattle.vc_best.proofs.Common.{AreExtents, Bytes, Extent, GapsChange, HasGaps, HasGapsBy, IsInGaps, IsNamed, Tiling, extent_of, free_before, free_name, free_next, is_busy, next_of, previous_of, tiling}
use Rattle.vc_splay.specs.Tree.{Tree}
use Rattle.vc_gaps.proofs.GapTrees.{free-bool, gaps-own, gaps-same, in_gaps-of}
use Rattle.vc_best.proofs.Known.{cut-of}
use Rattle.vc_best.proofs.Nexts.{next-extent, next-off, some-address}
use Rattle.vc_best.proofs.Outs.{contains-append}
use Rattle.vc_best.proofs.FreeBlocks.{busy-free, extent, lower-before}

-- the name of an extent beside one
pub name-none : (n : ℕ) (o : Option Extent) → o ≡ None → free_name n o ≡ []
name-none n o e = ap (free_name n) e

pub name-free : (n b : ℕ) (o : Option Extent) (y : Extent) → o ≡ Some y → b ≡ address (n, y.off) → y.size ≡ 0 → free_name n o ≡ b ∷ []
name-free n b o y e value free = ap (free_name n) e ∙ rw (busy-free y free) (ap (λ z. z ∷ []) (sym value))

pub name-busy : (n : ℕ) (o : Option Extent) (y : Extent) → o ≡ Some y → 0 < y.size → free_name n o ≡ []
name-busy n o y e some = ap (free_name n) e ∙ (let yes : is_busy y ≡ true = lt-ltb 0 y.size some in rw yes refl)

module _ (segs : List Bytes) (index : List ℕ) (k : ∥ AreExtents segs index ∥₁) (a : ℕ) (named : IsNamed (tiling segs) a) where
  -- the size of the one behind and of the one before, by their addresses
  pub next-size : (b : ℕ) (y : Extent) → next_of (tiling segs) a ≡ Some y → b ≡ address ((place_of a).0, y.off) → (extent_of (tiling segs) b).size ≡ y.size
  next-size b y next value = ∥∥₁_elim k (hlevel (ℕ_set)) (λ h. ap (λ (x : Extent). x.size) (next-extent (tiling segs) a b y (cut-of segs index a h named) next value))

  pub before-size : (b : ℕ) (p : Extent) → previous_of (tiling segs) a ≡ Some p → b ≡ address ((place_of a).0, p.off) → (extent_of (tiling segs) b).size ≡ p.size
  before-size b p prev value = ∥∥₁_elim k (hlevel (ℕ_set)) (λ h. ap (λ (x : Extent). x.size) (extent (tiling segs) a (cut-of segs index a h named) b p prev named value))

  -- the names of both, where they are there
  module _ (b : ℕ) (value : Some b ≡ option_map (λ (e : Extent). address ((place_of a).0, e.off)) (next_of (tiling segs) a)) where
    next-is : (y : Extent) × (next_of (tiling segs) a ≡ Some y) × (b ≡ address ((place_of a).0, y.off))
    next-is = some-address (place_of a).0 b (next_of (tiling segs) a) value

    next-own : (extent_of (tiling segs) b).size ≡ next-is.0.size
    next-own = next-size b next-is.0 next-is.1 next-is.2

    pub next-one : (extent_of (tiling segs) b).size ≡ 0 → free_next (tiling segs) a ≡ b ∷ []
    next-one free = name-free (place_of a).0 b (next_of (tiling segs) a) next-is.0 next-is.1 next-is.2 (sym next-own ∙ free)

    pub next-not : 0 < (extent_of (tiling segs) b).size → free_next (tiling segs) a ≡ []
    next-not busy = name-busy (place_of a).0 (next_of (tiling segs) a) next-is.0 next-is.1 (omega (arith, next-own, busy))

  module _ (b : ℕ) (value : Some b ≡ option_map (λ (e : Extent). address ((place_of a).0, e.off)) (previous_of (tiling segs) a)) where
    before-is : (y : Extent) × (previous_of (tiling segs) a ≡ Some y) × (b ≡ address ((place_of a).0, y.off))
    before-is = some-address (place_of a).0 b (previous_of (tiling segs) a) value

    before-own : (extent_of (tiling segs) b).size ≡ before-is.0.size
    before-own = before-size b before-is.0 before-is.1 before-is.2

    pub before-one : (extent_of (tiling segs) b).size ≡ 0 → free_before (tiling segs) a ≡ b ∷ []
    before-one free = name-free (place_of a).0 b (previous_of (tiling segs) a) before-is.0 before-is.1 before-is.2 (sym before-own ∙ free)

    pub before-not : 0 < (extent_of (tiling segs) b).size → free_before (tiling segs) a ≡ []
    before-not busy = name-busy (place_of a).0 (previous_of (tiling segs) a) before-is.0 before-is.1 (omega (arith, before-own, busy))

  -- the address of the one before is less, and that of the one behind isn't
  pub before-less : (b : ℕ) (p : Extent) → previous_of (tiling segs) a ≡ Some p → b ≡ address ((place_of a).0, p.off) → b < a
  before-less b p prev value =
      let below : p.off < (place_of a).1 = ∥∥₁_elim k le_prop (λ h. lower-before (tiling segs) a (cut-of segs index a h named) b p prev named value) in
      omega (arith, below, value)

  pub next-later : (b : ℕ) → b < a → contains (free_next (tiling segs) a) b ≡ false
  next-later b lt = later (next_of (tiling segs) a) refl
    where
      later : (o : Option Extent) → next_of (tiling segs) a ≡ o → contains (free_name (place_of a).0 o) b ≡ false
      later None e = refl
      later (Some y) e =
          ⊎_elim
          (λ (t : is_busy y ≡ true). rw t refl)
          (λ (t : is_busy y ≡ false).
          let o = ∥∥₁_elim k (hlevel (ℕ_set)) (λ h. next-off (tiling segs) a (address ((place_of a).0, y.off)) y (cut-of segs index a h named) e refl) in
          rw t (ap (λ z. z || false) (ne_eqb (address ((place_of a).0, y.off)) b (λ q. omega (arith, o, lt, q)))))
          (cases_Bool (is_busy y))

-- a free extent that isn't out is in the tree
pub in-tree : (t : Tiling) (root : ℕ) (out : List ℕ) (b : ℕ) → HasGaps t root out → IsNamed t b → (extent_of t b).size ≡ 0 → contains out b ≡ false → IsInGaps t root b
in-tree t root out b h named free apart = in_gaps-of t root out b h (free-bool t b (record { named = named; free = free })) apart

pub gaps-whole : {u : Tree} (t : Tiling) (root : ℕ) (xs : List ℕ) → HasGapsBy u t root (xs ++ []) → HasGapsBy u t root xs
gaps-whole t root xs h = gaps-same t root (xs ++ []) xs (λ a. sym (contains-append xs [] a ∙ or-false (contains xs a))) h

pub gaps-none_more : {u : Tree} (t : Tiling) (root : ℕ) (xs : List ℕ) → HasGapsBy u t root xs → HasGapsBy u t root (xs ++ [])
gaps-none_more t root xs h = gaps-same t root xs (xs ++ []) (λ a. contains-append xs [] a ∙ or-false (contains xs a)) h

-- a whole list that is out, through a change
pub gaps-changed : (old new : Tiling) (root : ℕ) (gone come : List ℕ) → GapsChange old new gone come → HasGaps old root gone → HasGaps new root come
gaps-changed old new root gone come g h = (gaps-whole new root come (g h.tree.tree root [] (gaps-none_more old root gone (gaps-own old root gone h)))).gaps

pub gaps-more : (t : Tiling) (root : ℕ) (xs : List ℕ) → HasGaps t root xs → HasGaps t root (xs ++ [])
gaps-more t root xs h = (gaps-none_more t root xs (gaps-own t root xs h)).gaps
