-- A search along the gaps of a tree.
use Rattle.vc_base.proofs.Common.{◌≡◌, ℕ, ◌+◌, ◌-◌, ◌^◌, ◌<◌, Bool, true, false, cond, eqb, ◌≢◌, List, sym, ◌∙◌, subst, ⊎_elim, true≢false, arith, ne_eqb, cases_Bool, eqb-false, contains, next_in, some_address}
use Rattle.vc_gaps.proofs.Common.{AreExtents, Bytes, Extent, HasGapTree, IsAmongGaps, IsInGaps, extent_of, gap_none, gap_store, is_free, key_of, tiling}
use Rattle.vc_splay.specs.Stands.{IsTree, IsWithin}
use Rattle.vc_splay.specs.Tree.{Tree, names}
use Rattle.vc_gaps.proofs.GapTrees.{is_in, tree-distinct, tree-free}
use Rattle.vc_gaps.proofs.Walking.{IsNext, Walked, is_next, walk-on}

module _ (segs : List Bytes) (index : List ℕ) (kept : ∥ AreExtents segs index ∥₁) where
  pub no-zero : (root : ℕ) (xs : List ℕ) → HasGapTree (tiling segs) root xs → contains xs 0 ≡ false
  no-zero root xs h =
      ⊎_elim
      (λ (t : contains xs 0 ≡ true). absurd (true≢false (sym (tree-free (tiling segs) root xs h 0 t) ∙ gap_none segs index kept)))
      (λ (t : contains xs 0 ≡ false). t)
      (cases_Bool (contains xs 0))

  -- what stands behind one of a tree's gaps
  pub next-gap : (root : ℕ) (xs : List ℕ) (h : HasGapTree (tiling segs) root xs) (a b : ℕ) → contains xs a ≡ true
      → ((top : ℕ) (tree : Tree) → IsTree (gap_store (tiling segs)) top tree → contains (names tree) a ≡ true → some_address b ≡ next_in a (names tree)) → IsNext xs a b
  next-gap root xs h a b w n =
      is_next xs a b (tree-distinct (tiling segs) root xs h) (no-zero root xs h) w
      (subst (λ ys. some_address b ≡ next_in a ys) h.list (n root h.tree h.is_tree (subst (λ ys. contains ys a ≡ true) (sym h.list) w)))

  -- a search that has come to a gap, and goes on from it
  module _ (p : ℕ → Bool) (first at start now : ℕ) (some : at ≢ 0)
      (walked : (root : ℕ) (xs : List ℕ) → HasGapTree (tiling segs) root xs → (first ≢ 0 → contains xs first ≡ true) → Walked p xs first at start now)
      (none : first ≡ 0 → at ≡ 0) (within : first ≢ 0 → IsAmongGaps (tiling segs) first) where
    pub at-gap : IsAmongGaps (tiling segs) at
    at-gap =
        let r : IsAmongGaps (tiling segs) first = within (λ z. some (none z)) in
        let i : IsInGaps (tiling segs) r.root first = r.is_in in
        record {
          root = r.root;
          is_in = record { names = i.names; tree = i.tree; within = (walked r.root i.names i.tree (λ z. i.within)).within some };
        }

    pub on-gap : (b after : ℕ) → after ≡ now + 1 → p at ≡ false
        → ((top : ℕ) (tree : Tree) → IsTree (gap_store (tiling segs)) top tree → contains (names tree) at ≡ true → some_address b ≡ next_in at (names tree))
        → (root : ℕ) (xs : List ℕ) → HasGapTree (tiling segs) root xs → (first ≢ 0 → contains xs first ≡ true) → Walked p xs first b start after
    on-gap b after e fails n root xs h w =
        let there = walked root xs h w in
        subst (Walked p xs first b start) (sym e) (walk-on p xs first at b start now (next-gap root xs h at b (there.within some) n) fails there)

pub gap-free : (t : List (ℕ × List Extent)) (a : ℕ) → IsAmongGaps t a → is_free t a ≡ true
gap-free t a r = tree-free t r.root r.is_in.names r.is_in.tree a r.is_in.within

pub gap-within : (t : List (ℕ × List Extent)) (a : ℕ) → IsAmongGaps t a → IsWithin (gap_store t) a
gap-within t a r = record { root = r.root; is_in = is_in t r.root r.is_in.names r.is_in.tree a r.is_in.within }

-- what is left of the keys above one
abbrev pub above : ℕ → ℕ → ℕ
above key a = cond (eqb a 0) 0 (18446744073709551616 - key)

pub above-less : (j k a b : ℕ) → a ≢ 0 → j < 18446744073709551616 → (b ≢ 0 → j < k) → above k b < above j a
above-less j k a b some small more =
    ⊎_elim
    (λ (t : eqb b 0 ≡ true). rw (t, ne_eqb a 0 some) (omega arith))
    (λ (t : eqb b 0 ≡ false). let lt = more (eqb-false b 0 t) in rw (t, ne_eqb a 0 some) (omega arith))
    (cases_Bool (eqb b 0))

pub key-small : (t : List (ℕ × List Extent)) (a : ℕ) → (extent_of t a).span < 4294967296 → a < 2 ^ 32 → key_of t a < 18446744073709551616
key-small t a span small = omega arith
