-- Trees of gaps before and after a call on them.
use Rattle.vc_base.proofs.Common.{◌≡◌, ℕ, ◌^◌, ◌<◌, Bool, true, false, not, ◌&&◌, ◌||◌, eqb, List, ◌∷◌, ◌==◌, sym, refl, ap, ◌∙◌, subst, ⊎_elim, true≢false, arith, lt-ltb, eq-eqb, eqb-true, cases_Bool, AreDistinct, contains, without, put_by}
use Rattle.vc_gaps.proofs.Common.{AreExtents, AscendFrom, Bytes, CanLinkGap, GapLinked, GapTreeAfter, GapUnlinked, HasGapTree, HasGaps, HasGapsBy, IsFree, IsGapTree, IsInGaps, StaysButLinks, Tiling, extent_of, gap_fits, gap_key, gap_none, gap_side, gap_store, is_free, is_free-stays, key-stays, key_of, plain, tiling}
use Rattle.vc_splay.proofs.StandsLemmas.{Stands-there}
use Rattle.vc_splay.specs.Guide.{CanFind, CanLink, Rises, order_with_name}
use Rattle.vc_splay.specs.Stands.{IsIn, IsTree, TreeAfter}
use Rattle.vc_splay.specs.Store.{SameLinks, Store}
use Rattle.vc_splay.specs.Tree.{Tree, names}
use Rattle.vc_gaps.specs.GapUnique.{one_list}
use Rattle.vc_gaps.proofs.Ascending.{ascend-put, ascend-rises, ascend-same, ascend-without, contains-put, contains-without, linked-put}

module _ (t : Tiling) (root : ℕ) (xs : List ℕ) (h : HasGapTree t root xs) where
  pub tree-free : (n : ℕ) → contains xs n ≡ true → is_free t n ≡ true
  tree-free n w = Stands-there (gap_store t) 0 h.tree n h.is_tree.stands (subst (λ ys. contains ys n ≡ true) (sym h.list) w)

  pub tree-distinct : AreDistinct xs
  tree-distinct = subst AreDistinct h.list h.is_tree.distinct

  pub can_find : (span at : ℕ) → CanFind (gap_store t) (gap_side t span at) root
  can_find span at = record {
    tree = h.tree;
    is_tree = h.is_tree;
    rises = subst (λ ys. Rises (gap_side t span at) ys) (sym h.list) (ascend-rises (key_of t) (gap_key span at) 0 0 xs (omega arith) h.ascending);
  }

  pub can_link : (span a : ℕ) → is_free t a ≡ true → contains xs a ≡ false → CanLink (gap_store t) (gap_side t span a) root a
  unfolding can_find
  can_link span a free apart =
      let c = can_find span a in
      record {
        tree = c.tree;
        is_tree = c.is_tree;
        rises = c.rises;
        held = free;
        apart = subst (λ ys. contains ys a ≡ false) (sym h.list) apart;
      }

  pub is_in : (a : ℕ) → contains xs a ≡ true → IsIn (gap_store t) root a
  is_in a w = record { tree = h.tree; is_tree = h.is_tree; within = subst (λ ys. contains ys a ≡ true) (sym h.list) w }

-- an address that names a free extent
pub free-bool : (t : Tiling) (a : ℕ) → IsFree t a → is_free t a ≡ true
free-bool t a f = rw (lt-ltb 0 (extent_of t a).span f.named, eq-eqb (extent_of t a).size 0 f.free) refl

-- free extents below 2^32 with one key are one
one_key : (t : Tiling) (a b : ℕ) → a < 2 ^ 32 → b < 2 ^ 32 → key_of t a ≡ key_of t b → a ≡ b
one_key t a b h k e = omega arith

module _ (old new : Tiling) (same : plain new ≡ plain old) (touched : List ℕ) (root : ℕ) (ys : List ℕ) where
  links-after : TreeAfter (gap_store old) (gap_store new) touched root ys → (a : ℕ) → contains touched a ≡ false → (extent_of new a).links ≡ (extent_of old a).links
  links-after a n w =
      let s : SameLinks (gap_store old) (gap_store new) n = a.others n w in
      let first : (extent_of new n).links.first ≡ (extent_of old n).links.first = s.kid true in
      let second : (extent_of new n).links.second ≡ (extent_of old n).links.second = s.kid false in
      let third : (extent_of new n).links.third ≡ (extent_of old n).links.third = s.parent in
      λ i. record { first = first i; second = second i; third = third i }

  pub gap_tree-after : TreeAfter (gap_store old) (gap_store new) touched root ys → AscendFrom (key_of old) 0 ys → GapTreeAfter old new touched root ys
  gap_tree-after a h = record {
    tree = record { tree = a.tree; is_tree = a.is_tree; list = a.list; ascending = ascend-same (key_of old) (key_of new) 0 ys (λ n w. key-stays old new same n) h };
    links = links-after a;
  }

module _ (old new : List Bytes) (index : List ℕ) (kept : ∥ AreExtents old index ∥₁) (rest : StaysButLinks old new) (root result a : ℕ) where
  none : is_free (tiling old) 0 ≡ false
  none = gap_none old index kept

  -- a link: with one more name
  gap-linked : (span : ℕ) (xs : List ℕ) (h : HasGapTree (tiling old) root xs) → span ≡ (extent_of (tiling old) a).span → is_free (tiling old) a ≡ true → contains xs a ≡ false
      → TreeAfter (gap_store (tiling old)) (gap_store (tiling new)) (a ∷ names h.tree) result (order_with_name (gap_side (tiling old) span a) a (names h.tree))
      → GapTreeAfter (tiling old) (tiling new) (a ∷ xs) result (put_by (key_of (tiling old)) a xs)
  gap-linked span xs h own free apart t =
      let key = key_of (tiling old) in
      let s : Store = gap_store (tiling old) in
      let fits : (n : ℕ) → is_free (tiling old) n ≡ true → n < 2 ^ 32 = gap_fits old index kept in
      let there : TreeAfter s (gap_store (tiling new)) (a ∷ xs) result (order_with_name (gap_side (tiling old) span a) a xs) =
      subst (λ ys. TreeAfter s (gap_store (tiling new)) (a ∷ ys) result (order_with_name (gap_side (tiling old) span a) a ys)) h.list t in
      let by : TreeAfter s (gap_store (tiling new)) (a ∷ xs) result (order_with_name (gap_side (tiling old) (extent_of (tiling old) a).span a) a xs) =
      subst (λ z. TreeAfter s (gap_store (tiling new)) (a ∷ xs) result (order_with_name (gap_side (tiling old) z a) a xs)) own there in
      gap_tree-after (tiling old) (tiling new) rest.extents (a ∷ xs) result (put_by key a xs)
      (subst (TreeAfter s (gap_store (tiling new)) (a ∷ xs) result) (linked-put key a xs) by)
      (ascend-put key 0 a xs h.ascending (omega arith)
      (λ n w e. true≢false (sym w ∙ ap (contains xs) (one_key (tiling old) n a (fits n (tree-free (tiling old) root xs h n w)) (fits a free) e) ∙ apart)))

  -- an unlink: without one
  gap-unlinked : (xs : List ℕ) (h : HasGapTree (tiling old) root xs) → TreeAfter (gap_store (tiling old)) (gap_store (tiling new)) (names h.tree) result (without a (names h.tree))
      → GapTreeAfter (tiling old) (tiling new) xs result (without a xs)
  gap-unlinked xs h t =
      gap_tree-after (tiling old) (tiling new) rest.extents xs result (without a xs)
      (subst (λ ys. TreeAfter (gap_store (tiling old)) (gap_store (tiling new)) ys result (without a ys)) h.list t)
      (ascend-without (key_of (tiling old)) 0 a xs h.ascending)

  -- a find: the same names
  pub gap-found : (xs : List ℕ) (h : HasGapTree (tiling old) root xs) → TreeAfter (gap_store (tiling old)) (gap_store (tiling new)) (names h.tree) result (names h.tree)
      → GapTreeAfter (tiling old) (tiling new) xs result xs
  gap-found xs h t =
      gap_tree-after (tiling old) (tiling new) rest.extents xs result xs
      (subst (λ ys. TreeAfter (gap_store (tiling old)) (gap_store (tiling new)) ys result ys) h.list t)
      h.ascending

  -- which gaps are in a tree then
  gaps-linked : (out : List ℕ) (h : HasGaps (tiling old) root (a ∷ out)) → is_free (tiling old) a ≡ true → contains out a ≡ false
      → HasGapTree (tiling new) result (put_by (key_of (tiling old)) a h.names) → HasGaps (tiling new) result out
  gaps-linked out h free apart t = record {
    names = put_by (key_of (tiling old)) a h.names;
    tree = t;
    exact = λ n.
        contains-put (key_of (tiling old)) a h.names n
        ∙ ap (λ z. (a == n) || z) (h.exact n)
        ∙ ⊎_elim
        (λ (e : eqb a n ≡ true).
        let same = eqb-true a n e in
        rw (e, is_free-stays (tiling old) (tiling new) rest.extents n) (sym (rw (ap (is_free (tiling old)) (sym same) ∙ free, ap (contains out) (sym same) ∙ apart) refl)))
        (λ (e : eqb a n ≡ false). rw (e, is_free-stays (tiling old) (tiling new) rest.extents n) refl)
        (cases_Bool (eqb a n));
  }

  gaps-unlinked : (out : List ℕ) (h : HasGaps (tiling old) root out) → HasGapTree (tiling new) result (without a h.names) → HasGaps (tiling new) result (a ∷ out)
  gaps-unlinked out h t = record {
    names = without a h.names;
    tree = t;
    exact = λ n.
        contains-without a h.names n (tree-distinct (tiling old) root h.names h.tree)
        ∙ ap (λ z. z && not (a == n)) (h.exact n)
        ∙ rw (is_free-stays (tiling old) (tiling new) rest.extents n) (both (is_free (tiling old) n) (contains out n) (a == n));
  }
    where
      both : (f o e : Bool) → (f && not o) && not e ≡ f && not (e || o)
      both true true true = refl
      both true true false = refl
      both true false true = refl
      both true false false = refl
      both false o e = refl

  -- each that can be linked is apart from all lists that the root stands for, and each that is in one is in all
  apart-each : (xs : List ℕ) → CanLinkGap (tiling old) root a → HasGapTree (tiling old) root xs → contains xs a ≡ false
  apart-each xs c h = subst (λ ys. contains ys a ≡ false) (one_list (tiling old) root none c.names xs c.tree h) c.apart

  pub linked-gap : (span : ℕ) → span ≡ (extent_of (tiling old) a).span → CanLinkGap (tiling old) root a
      → ((tree : Tree) → IsTree (gap_store (tiling old)) root tree → TreeAfter (gap_store (tiling old)) (gap_store (tiling new)) (a ∷ names tree) result (order_with_name (gap_side (tiling old) span a) a (names tree)))
      → GapLinked (tiling old) (tiling new) root a result
  linked-gap span own c t =
      let free = free-bool (tiling old) a c.free in
      let there : (xs : List ℕ) → HasGapTree (tiling old) root xs → GapTreeAfter (tiling old) (tiling new) (a ∷ xs) result (put_by (key_of (tiling old)) a xs) =
      λ xs h. gap-linked span xs h own free (apart-each xs c h) (t h.tree h.is_tree) in
      record { tree = there; gaps = λ out h apart. gaps-linked out h free apart (there h.names h.tree).tree }

  pub unlinked-gap : ((tree : Tree) → IsTree (gap_store (tiling old)) root tree → TreeAfter (gap_store (tiling old)) (gap_store (tiling new)) (names tree) result (without a (names tree)))
      → GapUnlinked (tiling old) (tiling new) root a result
  unlinked-gap t =
      let there : (xs : List ℕ) → HasGapTree (tiling old) root xs → GapTreeAfter (tiling old) (tiling new) xs result (without a xs) = λ xs h. gap-unlinked xs h (t h.tree h.is_tree) in
      record { tree = there; gaps = λ out h. gaps-unlinked out h (there h.names h.tree).tree }

-- what a tree of gaps is for a call: a tree, one that a gap that is out can be linked into, and one that a gap is in
module _ (t : Tiling) (root : ℕ) (out : List ℕ) where
  pub gap_tree-of : HasGaps t root out → IsGapTree t root
  gap_tree-of h = record { names = h.names; tree = h.tree }

  pub can_link-out : (a : ℕ) → HasGaps t root out → contains out a ≡ true → IsFree t a → CanLinkGap t root a
  can_link-out a h o f = record { names = h.names; tree = h.tree; free = f; apart = h.exact a ∙ ap (λ z. is_free t a && not z) o ∙ and-false (is_free t a) }
    where
      and-false : (b : Bool) → b && false ≡ false
      and-false true = refl
      and-false false = refl

  pub in_gaps-of : (a : ℕ) → HasGaps t root out → is_free t a ≡ true → contains out a ≡ false → IsInGaps t root a
  in_gaps-of a h f o = record { names = h.names; tree = h.tree; within = h.exact a ∙ ap (λ z. z && not (contains out a)) f ∙ ap not o }

  -- it is told apart from others by what is out, and not by the order in which that is told
  out-same : (after : List ℕ) → ((a : ℕ) → contains after a ≡ contains out a) → HasGaps t root out → HasGaps t root after
  out-same after same h = record { names = h.names; tree = h.tree; exact = λ a. h.exact a ∙ ap (λ z. is_free t a && not z) (sym (same a)) }

  pub gaps-same : {u : Tree} (after : List ℕ) → ((a : ℕ) → contains after a ≡ contains out a) → HasGapsBy u t root out → HasGapsBy u t root after
  unfolding out-same
  gaps-same after same h = record { gaps = out-same after same h.gaps; is = h.is }

  -- it is its own tree
  pub gaps-own : (h : HasGaps t root out) → HasGapsBy h.tree.tree t root out
  gaps-own h = record { gaps = h; is = refl }
