-- A tree of gaps in a tiling that changes elsewhere: no link, span or state of a gap that is in it changes.
use Rattle.vc_base.proofs.Common.{◌≡◌, ℕ, Bool, true, false, not, ◌&&◌, eqb, ltb, List, [], ◌∷◌, sym, refl, ap, ◌∙◌, subst, ⊎_elim, true≢false, cases_Bool, contains}
use Rattle.vc_gaps.proofs.Common.{Extent, HasGapTree, HasGaps, HasGapsBy, Tiling, extent_of, gap_key, gap_store, is_free, key_of}
use Rattle.vc_base.proofs.Members.{within-head, within-tail, within-front, within-rest}
use Rattle.vc_splay.specs.Stands.{IsNode, Stands}
use Rattle.vc_splay.specs.Tree.{Tree, Leaf, Node, name_of, names}
use Rattle.vc_gaps.proofs.Ascending.{ascend-same}
use Rattle.vc_gaps.proofs.GapTrees.{tree-free}

module _ (old new : Tiling) where
  node-carried : (up n l r : ℕ) → extent_of new n ≡ extent_of old n → IsNode (gap_store old) up n l r → IsNode (gap_store new) up n l r
  node-carried up n l r e k = record {
    held = rw e k.held;
    parent = ap (λ (x : Extent). x.links.third) e ∙ k.parent;
    left_kid = ap (λ (x : Extent). x.links.first) e ∙ k.left_kid;
    right_kid = ap (λ (x : Extent). x.links.second) e ∙ k.right_kid;
  }

  pub stands-carried : (up : ℕ) (u : Tree) → ((n : ℕ) → contains (names u) n ≡ true → extent_of new n ≡ extent_of old n) → Stands (gap_store old) up u → Stands (gap_store new) up u
  stands-carried up Leaf same h = tt
  stands-carried up (Node l m r) same h = (
    node-carried up m (name_of l) (name_of r) (same m (within-rest (names l) (m ∷ names r) m (within-head m (names r)))) h.0,
    stands-carried m l (λ n w. same n (within-front (names l) (m ∷ names r) n w)) h.1,
    stands-carried m r (λ n w. same n (within-rest (names l) (m ∷ names r) n (within-tail m (names r) n w))) h.2,
  )

  pub tree-carried : (root : ℕ) (xs : List ℕ) → ((a : ℕ) → contains xs a ≡ true → extent_of new a ≡ extent_of old a) → HasGapTree old root xs → HasGapTree new root xs
  tree-carried root xs same h = record {
    tree = h.tree;
    is_tree = record {
      top = h.is_tree.top;
      stands = stands-carried 0 h.tree (subst (λ ys. (a : ℕ) → contains ys a ≡ true → extent_of new a ≡ extent_of old a) (sym h.list) same) h.is_tree.stands;
      distinct = h.is_tree.distinct;
    };
    list = h.list;
    ascending = ascend-same (key_of old) (key_of new) 0 xs (λ a w. ap (λ (x : Extent). gap_key x.span a) (same a w)) h.ascending;
  }

  pub tree-still : (root : ℕ) (xs : List ℕ) (same : (a : ℕ) → contains xs a ≡ true → extent_of new a ≡ extent_of old a) (h : HasGapTree old root xs) → (tree-carried root xs same h).tree ≡ h.tree
  unfolding tree-carried
  tree-still root xs same h = refl

  carried : (root : ℕ) (out after : List ℕ) → ((a : ℕ) → is_free old a ≡ true → contains out a ≡ false → extent_of new a ≡ extent_of old a)
      → ((a : ℕ) → (is_free new a && not (contains after a)) ≡ (is_free old a && not (contains out a))) → HasGaps old root out → HasGaps new root after
  carried root out after same exact h = record {
    names = h.names;
    tree = tree-carried root h.names
        (λ a w.
        let both : (is_free old a && not (contains out a)) ≡ true = sym (h.exact a) ∙ w in
        same a (tree-free old root h.names h.tree a w) (apart (is_free old a) (contains out a) both))
        h.tree;
    exact = λ a. h.exact a ∙ sym (exact a);
  }
    where
      apart : (f o : Bool) → f && not o ≡ true → o ≡ false
      apart f false e = refl
      apart true true e = sym e
      apart false true e = sym (absurd (true≢false (sym e)))

  -- no gap of the tree changes, and each free extent that is out before and isn't then, or the other way round, is none
  pub gaps-carried : {u : Tree} (root : ℕ) (out after : List ℕ) → ((a : ℕ) → is_free old a ≡ true → contains out a ≡ false → extent_of new a ≡ extent_of old a)
      → ((a : ℕ) → (is_free new a && not (contains after a)) ≡ (is_free old a && not (contains out a))) → HasGapsBy u old root out → HasGapsBy u new root after
  unfolding carried tree-carried
  gaps-carried root out after same exact h = record { gaps = carried root out after same exact h.gaps; is = h.is }

-- touched addresses are in no tree, before and then; all others name what they named, and are out where they were
pub gaps-touched : {u : Tree} (old new : Tiling) (root : ℕ) (touched out after : List ℕ)
    → ((a : ℕ) → contains touched a ≡ false → (extent_of new a ≡ extent_of old a) × (contains after a ≡ contains out a))
    → ((a : ℕ) → contains touched a ≡ true → ((is_free old a && not (contains out a)) ≡ false) × ((is_free new a && not (contains after a)) ≡ false))
    → HasGapsBy u old root out → HasGapsBy u new root after
gaps-touched old new root touched out after same gone h =
    gaps-carried old new root out after
    (λ a f o.
    ⊎_elim
    (λ (t : contains touched a ≡ true). absurd (true≢false (sym (ap (λ z. z && not (contains out a)) f ∙ ap not o) ∙ (gone a t).0)))
    (λ (t : contains touched a ≡ false). (same a t).0)
    (cases_Bool (contains touched a)))
    (λ a.
    ⊎_elim
    (λ (t : contains touched a ≡ true). let g = gone a t in g.1 ∙ sym g.0)
    (λ (t : contains touched a ≡ false).
    let g = same a t in
    ap (λ (x : Extent). (ltb 0 x.span && eqb x.size 0) && not (contains after a)) g.0 ∙ ap (λ z. is_free old a && not z) g.1)
    (cases_Bool (contains touched a)))
    h

-- no tree, whatever lies in the bytes: no free extent is in it
pub tree-none : (t : Tiling) → HasGapTree t 0 []
tree-none t = record { tree = Leaf; is_tree = record { top = refl; stands = tt; distinct = tt }; list = refl; ascending = tt }
