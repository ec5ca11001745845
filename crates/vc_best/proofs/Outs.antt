-- The tree of gaps where a free extent is cut, call by call, and which gaps are out of it then.
use Rattle.vc_base.proofs.Common.{◌≡◌, ℕ, ◌+◌, ◌-◌, ◌/◌, ◌%◌, ◌<◌, ◌≤◌, Bool, true, false, ◌||◌, eqb, List, [], ◌∷◌, ◌++◌, sym, refl, ap, ◌∙◌, subst, ⊎_elim, arith, ∥∥₁_elim, cases_Bool, contains, address, place_of, with_bytes}
use Rattle.vc_best.proofs.Common.{AreExtents, Bytes, Extent, GapsChange, HasGapsBy, IsBusy, IsNamed, Tiling, behind, behind_of, busy_extent, change_extent, extent_of, extents_of, first_of, free_name, free_next, mark_busy, split, tiling, write}
use Rattle.vc_base.proofs.Booleans.{or-swap}
use Rattle.vc_base.proofs.Sets.{bytes-set}
use Rattle.vc_seg.proofs.Blocks.{place_of-address}
use Rattle.vc_splay.specs.Tree.{Tree}
use Rattle.vc_gaps.specs.GapStore.{is_free}
use Rattle.vc_gaps.proofs.GapTrees.{gaps-same}
use Rattle.vc_gaps.proofs.Joined.{inside-none}
use Rattle.vc_gaps.proofs.Marked.{gaps-busy, gaps-split, gaps-stay}
use Rattle.vc_gaps.proofs.Named.{extent_in-off, extent_of-here}
use Rattle.vc_best.proofs.Cuts.{behind-here}
use Rattle.vc_best.proofs.Known.{cut-of, then-behind}
use Rattle.vc_best.proofs.Walks.{named-end}

-- lists of names one behind the other
pub contains-append : (xs ys : List ℕ) (a : ℕ) → contains (xs ++ ys) a ≡ contains xs a || contains ys a
contains-append [] ys a = refl
contains-append (x ∷ xs) ys a =
    ⊎_elim
    (λ (t : eqb x a ≡ true). rw t refl)
    (λ (t : eqb x a ≡ false). rw t (contains-append xs ys a))
    (cases_Bool (eqb x a))

pub gaps-swap : {u : Tree} (t : Tiling) (root : ℕ) (xs ys out : List ℕ) → HasGapsBy u t root (xs ++ (ys ++ out)) → HasGapsBy u t root (ys ++ (xs ++ out))
gaps-swap t root xs ys out h =
    gaps-same t root (xs ++ (ys ++ out)) (ys ++ (xs ++ out))
    (λ a.
    contains-append ys (xs ++ out) a ∙ ap (λ z. contains ys a || z) (contains-append xs out a)
    ∙ or-swap (contains ys a) (contains xs a) (contains out a)
    ∙ sym (contains-append xs (ys ++ out) a ∙ ap (λ z. contains xs a || z) (contains-append ys out a)))
    h

or-group : (p q r : Bool) → (p || q) || r ≡ p || (q || r)
or-group true q r = refl
or-group false q r = refl

pub gaps-group : {u : Tree} (t : Tiling) (root : ℕ) (xs ys out : List ℕ) → HasGapsBy u t root (xs ++ (ys ++ out)) → HasGapsBy u t root ((xs ++ ys) ++ out)
gaps-group t root xs ys out h =
    gaps-same t root (xs ++ (ys ++ out)) ((xs ++ ys) ++ out)
    (λ a.
    contains-append (xs ++ ys) out a ∙ ap (λ z. z || contains out a) (contains-append xs ys a)
    ∙ or-group (contains xs a) (contains ys a) (contains out a)
    ∙ sym (contains-append xs (ys ++ out) a ∙ ap (λ z. contains xs a || z) (contains-append ys out a)))
    h

-- a gap is cut in front and behind, and what is left becomes busy
pub gaps-put : (t t1 t2 t3 : Tiling) (a to : ℕ) (ps qs : List ℕ) → GapsChange t t1 (a ∷ []) (to ∷ ps) → GapsChange t1 t2 (to ∷ []) (to ∷ qs) → GapsChange t2 t3 (to ∷ []) []
    → GapsChange t t3 (a ∷ []) (ps ++ qs)
gaps-put t t1 t2 t3 a to ps qs g1 g2 g3 u root out h = gaps-group t3 root ps qs out (gaps-swap t3 root qs ps out (g3 u root (qs ++ (ps ++ out)) (g2 u root (ps ++ out) (g1 u root out h))))

module _ (segs : List Bytes) (index : List ℕ) (k : ∥ AreExtents segs index ∥₁) (a : ℕ) (named : IsNamed (tiling segs) a) where
  -- no address names what lies in it
  pub inside-not : (b off : ℕ) → b ≡ address ((place_of a).0, off) → off % 32 ≡ 0 → (place_of a).1 < off → off < (place_of a).1 + (extent_of (tiling segs) a).span
      → is_free (tiling segs) b ≡ false
  inside-not b off value multiple low high =
      let most = named-end segs index a k named in
      let place : place_of b ≡ ((place_of a).0, off) = ap place_of value ∙ place_of-address (place_of a).0 off (omega arith) multiple in
      let seg : b / 1048576 ≡ a / 1048576 = ap (λ (p : ℕ × ℕ). p.0) place in
      let at : (place_of b).1 ≡ off = ap (λ (p : ℕ × ℕ). p.1) place in
      inside-none segs index k a b named seg (omega (arith, at, low)) (omega (arith, at, high))

  module _ (new : Tiling) where
    -- what lies before an offset is split from it
    pub gaps-front : (off b : ℕ) → (place_of a).1 < off → off < (place_of a).1 + (extent_of (tiling segs) a).span → off % 32 ≡ 0
        → new ≡ change_extent a (split (off - (place_of a).1)) (tiling segs) → b ≡ address ((place_of a).0, off) → GapsChange (tiling segs) new (a ∷ []) (b ∷ a ∷ [])
    gaps-front off b low high multiple e value u root out h =
        let sum : (place_of a).1 + (off - (place_of a).1) ≡ off = omega arith in
        let is : b ≡ address ((place_of a).0, (place_of a).1 + (off - (place_of a).1)) = value ∙ ap (λ n. address ((place_of a).0, n)) (sym sum) in
        gaps-swap new root (a ∷ []) (b ∷ []) out (gaps-split (tiling segs) new root a out (off - (place_of a).1) b e is (inside-not b off value multiple low high) h)

    -- what is behind its first bytes is
    pub gaps-back : (bytes b : ℕ) → 32 ≤ bytes → bytes < (extent_of (tiling segs) a).span → bytes % 32 ≡ 0 → new ≡ change_extent a (split bytes) (tiling segs)
        → b ≡ address ((place_of a).0, (place_of a).1 + bytes) → GapsChange (tiling segs) new (a ∷ []) (a ∷ b ∷ [])
    gaps-back bytes b least less multiple e value u root out h =
        gaps-split (tiling segs) new root a out bytes b e value (inside-not b ((place_of a).1 + bytes) value (omega arith) (omega arith) (omega arith)) h

-- the bytes of a busy extent change
abbrev rewritten : Extent → ℕ → List ℕ → Extent
rewritten x off src = busy_extent x.off x.span x.size x.tag (with_bytes off src x.body)

pub gaps-written : (t new : Tiling) (a off : ℕ) (src : List ℕ) → new ≡ change_extent a (write off src) t → IsBusy t a → GapsChange t new [] []
gaps-written t new a off src e busy u root out h =
    gaps-stay t new root a out (write off src) (rewritten (extent_of t a) off src) e refl (extent_in-off (place_of a).1 (extents_of (place_of a).0 t)) busy.busy busy h

pub written-busy : (t new : Tiling) (a off : ℕ) (src : List ℕ) → new ≡ change_extent a (write off src) t → IsBusy t a → IsBusy new a
written-busy t new a off src e busy =
    let now : extent_of new a ≡ rewritten (extent_of t a) off src = extent_of-here t new a (write off src) e (rewritten (extent_of t a) off src) (behind_of t a) busy.named (extent_in-off (place_of a).1 (extents_of (place_of a).0 t)) refl in
    record { named = subst (λ (z : Extent). 0 < z.span) (sym now) busy.named; busy = subst (λ (z : Extent). 0 < z.size) (sym now) busy.busy }

-- a gap that is out becomes a block of zeros
pub gaps-laid : (t mid new : Tiling) (a size tag : ℕ) (body src : List ℕ) → mid ≡ change_extent a (mark_busy size tag body) t → 1 ≤ size → IsNamed t a → IsBusy mid a → new ≡ change_extent a (write 0 src) mid
    → GapsChange t new (a ∷ []) []
gaps-laid t mid new a size tag body src e some named busy is u root out h =
    gaps-written mid new a 0 src is busy u root out (gaps-busy t mid root a out size tag body e some named h)

-- what stands behind an extent stays where that alone changes
pub next-kept : (segs : List Bytes) (index : List ℕ) → ∥ AreExtents segs index ∥₁ → (new : Tiling) (a : ℕ) (change : Extent → List Extent → List Extent) (x : Extent) → IsNamed (tiling segs) a → new ≡ change_extent a change (tiling segs)
    → change (extent_of (tiling segs) a) (behind_of (tiling segs) a) ≡ x ∷ behind_of (tiling segs) a → x.off ≡ (place_of a).1 → free_next new a ≡ free_next (tiling segs) a
next-kept segs index k new a change x named is made off =
    ∥∥₁_elim k (hlevel (bytes-set))
    (λ h.
    let same : behind_of new a ≡ behind_of (tiling segs) a = then-behind (tiling segs) new a a change (cut-of segs index a h named) is refl (omega arith) ∙ ap (behind (place_of a).1) made ∙ behind-here (place_of a).1 x (behind_of (tiling segs) a) off in
    ap (λ (ys : List Extent). free_name (place_of a).0 (first_of ys)) same)

pub next-written : (segs : List Bytes) (index : List ℕ) → ∥ AreExtents segs index ∥₁ → (new : Tiling) (a off : ℕ) (src : List ℕ) → IsNamed (tiling segs) a → new ≡ change_extent a (write off src) (tiling segs) → free_next new a ≡ free_next (tiling segs) a
next-written segs index k new a off src named is =
    next-kept segs index k new a (write off src) (rewritten (extent_of (tiling segs) a) off src) named is refl (extent_in-off (place_of a).1 (extents_of (place_of a).0 (tiling segs)))
