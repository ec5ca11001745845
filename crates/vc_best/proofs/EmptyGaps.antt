-- The tree of gaps where each segment becomes one free extent, by ascending number; and the first extent of a segment.
use Rattle.vc_base.proofs.Common.{◌≡◌, ℕ, ◌+◌, ◌-◌, ◌*◌, ◌<◌, ◌≤◌, Bool, true, false, cond, ◌&&◌, ◌||◌, eqb, ltb, ◌≢◌, List, [], ◌∷◌, map, Some, All, option_map, sym, refl, ap, ◌∙◌, subst, ⊎_elim, arith, ltb-false, ltb-true, le-ltb, lt-ltb, eq-eqb, ne_eqb, and-false, le_prop, ∥∥₁_elim, ℕ_set, cases_Bool, cases_eq, All-cons, All-head, All-tail, contains, address, place_of, put_by}
use Rattle.vc_best.proofs.Common.{AreExtents, Bytes, CanLinkGap, Extent, GapLinked, HasGapTree, HasGaps, HasGapsBelow, IsFree, IsOneFree, IsThere, Tiling, change_in, extent_in, extent_of, extents_of, first_of, free_extent, no_links, one_free, plain, spans, tiling, without_links}
use Rattle.vc_gaps.proofs.Added.{first-place}
use Rattle.vc_model.proofs.Owned.{address-place_of}
use Rattle.vc_gaps.specs.GapLaws.{is_free-named, is_free-stays}
use Rattle.vc_gaps.specs.GapStore.{gap_store, is_free, key_of}
use Rattle.vc_gaps.proofs.Ascending.{contains-put}
use Rattle.vc_gaps.proofs.Carried.{tree-carried, tree-none, tree-still}
use Rattle.vc_gaps.specs.Cost.{GapsCost}
use Rattle.vc_gaps.proofs.Costs.{size-list}
use Rattle.vc_gaps.proofs.GapTrees.{free-bool}
use Rattle.vc_gaps.proofs.Named.{extents_of-other}
use Rattle.std.proofs.lemmas.Nat.{mul-le}
use Rattle.vc_splay.proofs.DigitLemmas.{digits-rise}
use Rattle.vc_splay.specs.Rank.{binary_digits, rank, size}
use Rattle.vc_splay.specs.Stands.{IsTree}
use Rattle.vc_splay.specs.Tree.{Tree}
use Rattle.vc_best.specs.Made.{MadeCost}
use Rattle.vc_best.proofs.Made.{length-put}
use Rattle.vc_best.proofs.EmptySegments.{AreFree}
use Rattle.vc_best.proofs.Known.{cut-of, segment-of}
use Rattle.vc_best.proofs.Lies.{Lies}
use Rattle.vc_best.proofs.Plain.{plain-one_free, one_free-plain}
use Rattle.vc_best.proofs.Walks.{start}

-- the one extent of a segment
pub one-first : (es : List Extent) → IsOneFree es → (x : Extent) × (es ≡ x ∷ [])
one-first [] h = absurd h
one-first (e ∷ es) h = (e, ap (λ (zs : List Extent). e ∷ zs) h.1)

-- the first one of a segment
module _ (segs : List Bytes) (index : List ℕ) (n : ℕ) (k : ∥ AreExtents segs index ∥₁) (there : IsThere n segs) where
  pub first-off : (x : Extent) (xs : List Extent) → extents_of n (tiling segs) ≡ x ∷ xs → x.off ≡ 32
  first-off x xs e =
      ∥∥₁_elim k (hlevel (ℕ_set))
      (λ h.
      let s = segment-of n segs index h there in
      let l : Lies (s.size - 16) 16 (x ∷ xs) = subst (λ (es : List Extent). Lies (s.size - 16) 16 es) e s.lies in
      l.0.off)

  pub some-spans : 0 < spans (extents_of n (tiling segs))
  some-spans =
      ∥∥₁_elim k le_prop
      (λ h.
      let s = segment-of n segs index h there in
      let long = s.legal.least in
      positive (extents_of n (tiling segs)) (s.size - 16) (omega arith) s.lies)
    where
      positive : (es : List Extent) (stop : ℕ) → 16 < stop → Lies stop 16 es → 0 < spans es
      positive [] stop lt l = absurd (omega arith)
      positive (e ∷ es) stop lt l = let least = l.0.legal.least in omega arith

  module _ (a : ℕ) (value : Some a ≡ option_map (λ e. address (n, e.off)) (first_of (extents_of n (tiling segs)))) where
    pub start-address : a ≡ address (n, 32)
    start-address =
        ∥∥₁_elim k (hlevel (ℕ_set))
        (λ h.
        let s = start segs index n a h there value in
        let seg = s.seg in
        let off = s.off in
        sym (address-place_of a) ∙ ap (λ (m : ℕ). address (m, (place_of a).1)) seg ∙ ap (λ (m : ℕ). address (n, m)) off)

-- the extents of a segment that changes, and of one that isn't there
changed-here : (n : ℕ) (f : List Extent → List Extent) (segs : List Bytes) → IsThere n segs → extents_of n (change_in n f (tiling segs)) ≡ f (extents_of n (tiling segs))
changed-here n f [] there = absurd (cc)
changed-here n f (s ∷ ss) there =
    ⊎_elim
    (λ (t : eqb s.number n ≡ true). rw (t, t) refl)
    (λ (t : eqb s.number n ≡ false). rw (t, t) (changed-here n f ss (rw t at there)))
    (cases_Bool (eqb s.number n))

extents-not : (n : ℕ) (t : Tiling) → All (λ s. s.0 ≢ n) t → extents_of n t ≡ []
extents-not n [] h = refl
extents-not n (s ∷ ss) h =
    let P : ℕ × List Extent → Type 0 = λ q. q.0 ≢ n in
    rw (ne_eqb s.0 n (All-head P s ss h)) (extents-not n ss (All-tail P s ss h))

same-below : (m n : ℕ) → m ≢ n → ltb m n ≡ ltb m (n + 1)
same-below m n ne =
    ⊎_elim
    (λ (t : ltb m n ≡ true). let lt = ltb-true m n t in t ∙ sym (lt-ltb m (n + 1) (omega arith)))
    (λ (t : ltb m n ≡ false). let le = ltb-false m n t in t ∙ sym (le-ltb m (n + 1) (omega (arith, le, ne))))
    (cases_Bool (ltb m n))

-- where no segment has a number
pub below-none : (n : ℕ) (t : Tiling) (root : ℕ) → All (λ s. s.0 ≢ n) t → HasGapsBelow n t root → HasGapsBelow (n + 1) t root
below-none n t root none h = record {
  names = h.names;
  tree = h.tree;
  exact = λ b.
      h.exact b
      ∙ ⊎_elim
      (λ (q : (place_of b).0 ≡ n).
      let no : is_free t b ≡ false = ap (λ (es : List Extent). ltb 0 (extent_in (place_of b).1 es).span && eqb (extent_in (place_of b).1 es).size 0) (ap (λ (m : ℕ). extents_of m t) q ∙ extents-not n t none) in
      ap (λ z. z && ltb (place_of b).0 n) no ∙ sym (ap (λ z. z && ltb (place_of b).0 (n + 1)) no))
      (λ (q : (place_of b).0 ≡ n → ⊥). ap (λ z. is_free t b && z) (same-below (place_of b).0 n q))
      (cases_eq (place_of b).0 n);
}

-- where a segment becomes one free extent, which isn't in the tree
module _ (segs : List Bytes) (index : List ℕ) (n root : ℕ) (k : ∥ AreExtents segs index ∥₁) (there : IsThere n segs) (mid : Tiling) (is : mid ≡ change_in n one_free (tiling segs)) (h : HasGapsBelow n (tiling segs) root) where
  abbrev a : ℕ
  a = address (n, 32)

  abbrev one : Extent
  one = free_extent 32 (spans (extents_of n (tiling segs))) no_links

  own : extents_of n mid ≡ one ∷ []
  own = ap (extents_of n) is ∙ changed-here n one_free segs there

  other : (b : ℕ) → (place_of b).0 ≢ n → extent_of mid b ≡ extent_of (tiling segs) b
  other b ne = ap (extent_in (place_of b).1) (ap (extents_of (place_of b).0) is ∙ extents_of-other n (place_of b).0 one_free (tiling segs) ne)

  extent : extent_of mid a ≡ one
  extent = ap (λ (q : ℕ × ℕ). extent_in q.1 (extents_of q.0 mid)) (first-place n) ∙ ap (extent_in 32) own

  free : IsFree mid a
  free = record { named = subst (λ (x : Extent). 0 < x.span) (sym extent) (some-spans segs index n k there); free = ap (λ (x : Extent). x.size) extent }

  seg : (place_of a).0 ≡ n
  seg = ap (λ (q : ℕ × ℕ). q.0) (first-place n)

  below : (b : ℕ) → contains h.names b ≡ true → (place_of b).0 < n
  below b w = both (is_free (tiling segs) b) (sym (h.exact b) ∙ w)
    where
      both : (f : Bool) → f && ltb (place_of b).0 n ≡ true → (place_of b).0 < n
      both true e = ltb-true (place_of b).0 n e
      both false e = absurd (cc)

  tree : HasGapTree mid root h.names
  tree = tree-carried (tiling segs) mid root h.names (λ b w. let lt = below b w in other b (λ q. omega arith)) h.tree

  tree-same : tree.tree ≡ h.tree.tree
  unfolding tree
  tree-same = tree-still (tiling segs) mid root h.names (λ b w. let lt = below b w in other b (λ q. omega arith)) h.tree

  apart : contains h.names a ≡ false
  apart = h.exact a ∙ ap (λ z. is_free (tiling segs) a && z) (le-ltb (place_of a).0 n (let s = seg in omega arith)) ∙ and-false (is_free (tiling segs) a)

  pub can-clear : CanLinkGap mid root a
  can-clear = record { names = h.names; tree = tree; free = free; apart = apart }

  -- which of them are in it then
  exact : (b : ℕ) → (eqb a b || contains h.names b) ≡ (is_free mid b && ltb (place_of b).0 (n + 1))
  exact b =
      ⊎_elim
      (λ (q : (place_of b).0 ≡ n).
      let none : contains h.names b ≡ false = h.exact b ∙ ap (λ z. is_free (tiling segs) b && z) (le-ltb (place_of b).0 n (omega arith)) ∙ and-false (is_free (tiling segs) b) in
      let yes : ltb (place_of b).0 (n + 1) ≡ true = lt-ltb (place_of b).0 (n + 1) (omega arith) in
      ⊎_elim
      (λ (e : a ≡ b).
      let named : is_free mid b ≡ true = subst (λ z. is_free mid z ≡ true) e (free-bool mid a free) in
      ap (λ z. z || contains h.names b) (eq-eqb a b e) ∙ sym (ap (λ z. z && ltb (place_of b).0 (n + 1)) named ∙ yes))
      (λ (e : a ≡ b → ⊥).
      let off : 32 ≢ (place_of b).1 = λ z. e (ap (λ (m : ℕ). address (m, 32)) (sym q) ∙ ap (λ (m : ℕ). address ((place_of b).0, m)) z ∙ address-place_of b) in
      let span : (extent_of mid b).span ≡ 0 =
      ap (λ (x : Extent). x.span) (ap (λ (m : ℕ). extent_in (place_of b).1 (extents_of m mid)) q ∙ ap (extent_in (place_of b).1) own ∙ ap (λ z. cond z one (free_extent (place_of b).1 0 no_links)) (ne_eqb 32 (place_of b).1 off)) in
      let no : is_free mid b ≡ false = ap (λ z. ltb 0 z && eqb (extent_of mid b).size 0) span in
      ap (λ z. z || contains h.names b) (ne_eqb a b e) ∙ none ∙ sym (ap (λ z. z && ltb (place_of b).0 (n + 1)) no))
      (cases_eq a b))
      (λ (q : (place_of b).0 ≡ n → ⊥).
      let ne : a ≢ b = λ e. q (ap (λ z. (place_of z).0) (sym e) ∙ seg) in
      let same : is_free mid b ≡ is_free (tiling segs) b = ap (λ (x : Extent). ltb 0 x.span && eqb x.size 0) (other b q) in
      ap (λ z. z || contains h.names b) (ne_eqb a b ne) ∙ h.exact b
      ∙ ap (λ z. z && ltb (place_of b).0 n) (sym same)
      ∙ ap (λ z. is_free mid b && z) (same-below (place_of b).0 n q))
      (cases_eq (place_of b).0 n)

  pub below-linked : (new : Tiling) (result : ℕ) → plain new ≡ plain mid → GapLinked mid new root a result → HasGapsBelow (n + 1) new result
  below-linked new result same l = record {
    names = put_by (key_of mid) a h.names;
    tree = (l.tree h.names tree).tree;
    exact = λ b. contains-put (key_of mid) a h.names b ∙ exact b ∙ ap (λ z. z && ltb (place_of b).0 (n + 1)) (sym (is_free-stays mid new same b));
  }

  pub made-linked : (new : Tiling) (result start before now most : ℕ) → is_free mid 0 ≡ false → plain new ≡ plain mid → GapLinked mid new root a result → GapsCost mid new root result before now 8 1 1 → before + 1 ≤ now
      → MadeCost (tiling segs) root start before most → MadeCost new result start now (most + 1)
  made-linked new result start before now most none same l g one m =
      let v : Tree = h.tree.tree in
      let still : size tree.tree ≡ size v = ap (λ z. size z) tree-same in
      let grown : (u : Tree) → IsTree (gap_store new) result u → size u ≡ size v + 1 =
      λ u k.
      let after = size-list new result (put_by (key_of mid) a h.names) (is_free-stays mid new same 0 ∙ none) (l.tree h.names tree).tree u k in
      let long = length-put (key_of mid) a h.names in
      let own = size-list mid root h.names none tree tree.tree tree.is_tree in
      omega arith in
      record {
        law = λ u k. record {
          cost =
              let i = (m.law v h.tree.is_tree).cost in
              let j = (g.law tree.tree u tree.is_tree k).cost in
              let r = ap rank tree-same in
              let e = grown u k in
              let last : size tree.tree + 1 ≡ size u = omega arith in
              let s = ap binary_digits last in
              let d = digits-rise (size v) (size u) (omega arith) in
              let x = mul-le (size v) (8 * binary_digits (size v) + 1) (size v) (8 * binary_digits (size u) + 1) (omega arith) (omega arith) in
              let y = ap (λ z. z * (8 * binary_digits (size u) + 1)) e in
              omega arith;
        };
        few = λ u k. let f = m.few v h.tree.is_tree in let e = grown u k in omega arith;
        least = λ u k. let f = m.least v h.tree.is_tree in let e = grown u k in omega (arith, f, e, one);
      }

module _ (segs : List Bytes) (index : List ℕ) (k : ∥ AreExtents segs index ∥₁) where
  -- below the first number there are none, and below 1,024 are all
  pub below-first : HasGapsBelow 1 (tiling segs) 0
  below-first = record {
    names = [];
    tree = tree-none (tiling segs);
    exact = λ b.
        ⊎_elim
        (λ (t : is_free (tiling segs) b ≡ true).
        let first = ∥∥₁_elim k le_prop (λ h. (cut-of segs index b h (is_free-named (tiling segs) b t)).first) in
        sym (ap (λ z. is_free (tiling segs) b && z) (le-ltb (place_of b).0 1 first) ∙ and-false (is_free (tiling segs) b)))
        (λ (t : is_free (tiling segs) b ≡ false). sym (ap (λ z. z && ltb (place_of b).0 1) t))
        (cases_Bool (is_free (tiling segs) b));
  }

  pub below-last : (n root : ℕ) → 1024 ≤ n → HasGapsBelow n (tiling segs) root → HasGaps (tiling segs) root []
  below-last n root le h = record {
    names = h.names;
    tree = h.tree;
    exact = λ b.
        h.exact b
        ∙ ⊎_elim
        (λ (t : is_free (tiling segs) b ≡ true).
        let last = ∥∥₁_elim k le_prop (λ h. (cut-of segs index b h (is_free-named (tiling segs) b t)).last) in
        ap (λ z. is_free (tiling segs) b && z) (lt-ltb (place_of b).0 n (omega arith)))
        (λ (t : is_free (tiling segs) b ≡ false). ap (λ z. z && ltb (place_of b).0 n) t ∙ sym (ap (λ z. z && true) t))
        (cases_Bool (is_free (tiling segs) b));
  }

-- those below a number are free whatever the links are
free-plain : (n : ℕ) (t : Tiling) → AreFree n t → AreFree n (plain t)
free-plain n [] h = h
free-plain n (s ∷ ss) h =
    let P : ℕ × List Extent → Type 0 = λ q. q.0 < n → IsOneFree q.1 in
    All-cons P (s.0, map without_links s.1) (plain ss) (λ lt. one_free-plain s.1 (All-head P s ss h lt)) (free-plain n ss (All-tail P s ss h))

plain-free : (n : ℕ) (t : Tiling) → AreFree n (plain t) → AreFree n t
plain-free n [] h = h
plain-free n (s ∷ ss) h =
    let P : ℕ × List Extent → Type 0 = λ q. q.0 < n → IsOneFree q.1 in
    All-cons P s ss (λ lt. plain-one_free s.1 (All-head P (s.0, map without_links s.1) (plain ss) h lt)) (plain-free n ss (All-tail P (s.0, map without_links s.1) (plain ss) h))

pub still-free : (n : ℕ) (t u : Tiling) → plain u ≡ plain t → AreFree n t → AreFree n u
still-free n t u same h = plain-free n u (subst (AreFree n) (sym same) (free-plain n t h))
