-- A block of zeros at the start of a free extent, of which a part is left.
use Rattle.vc_base.proofs.Common.{◌≡◌, ℕ, ◌+◌, ◌-◌, ◌*◌, ◌<◌, ◌≤◌, Bool, true, false, cond, ◌&&◌, eqb, ltb, ◌≢◌, List, [], replicate, sym, refl, ap, ◌∙◌, arith, eq-eqb, lt-ltb, ne_eqb, ∥∥₁_elim, ℕ_set, address, place_of, span}
use Rattle.vc_best.proofs.Common.{AreExtents, Bytes, CanPutBlock, Extent, HasGaps, IsFree, IsLeastHolding, Tiling, behind_of, busy_extent, carve, change_extent, cut_back, cut_front, extent_in, extent_of, extents_of, free_extent, lay_zeros, no_links, plain, split, tiling}
use Rattle.vc_seg.specs.OneBlock.{IsGuardedSize}
use Rattle.vc_base.proofs.Places.{span-least}
use Rattle.vc_seg.proofs.Blocks.{place_of-address}
use Rattle.vc_model.proofs.Owned.{address-place_of}
use Rattle.vc_splay.specs.Moves.{Context, plug, tally}
use Rattle.vc_splay.specs.Puts.{WasPut}
use Rattle.vc_splay.specs.Seats.{IsSeat, Seated}
use Rattle.vc_splay.specs.Tree.{Tree, Node}
use Rattle.vc_splay.specs.Writes.{CanSettleNode}
use Rattle.vc_gaps.specs.Cost.{GapsCost}
use Rattle.vc_gaps.specs.GapLaws.{gap_fits}
use Rattle.vc_gaps.specs.GapStore.{gap_store, is_free}
use Rattle.vc_gaps.proofs.GapTrees.{free-bool}
use Rattle.vc_gaps.proofs.Named.{extent_in-off, extent_of-here, extent_of-other, extent_of-single, off-differs}
use Rattle.vc_gaps.proofs.Seated.{above-free, apart-b, can-settle, gaps-seated, seat-now, seated-cost}
use Rattle.vc_best.proofs.Carves.{back-free, back-some, back-span, carved-whole, front-none}
use Rattle.vc_best.proofs.Known.{IsCut, cut-of, then-extent}
use Rattle.vc_best.proofs.Outs.{inside-not}
use Rattle.vc_best.proofs.Sets.{tiling-set}
use Rattle.vc_best.proofs.Walks.{named-end}

and-false : (b : Bool) → b && false ≡ false
and-false true = refl
and-false false = refl

-- an extent is split: the second part, and what stands elsewhere
module _ (t t1 : Tiling) (a b want : ℕ) (is : t1 ≡ change_extent a (split want) t) (value : b ≡ address ((place_of a).0, (place_of a).1 + want)) where
  abbrev gap : Extent
  gap = extent_of t a

  own : gap.off ≡ (place_of a).1
  own = extent_in-off (place_of a).1 (extents_of (place_of a).0 t)

  split-other : (n : ℕ) → n ≢ a → n ≢ b → extent_of t1 n ≡ extent_of t n
  split-other n na nb =
      extent_of-other t t1 a (split want) is n na
      (λ q.
      let differs : (place_of n).1 ≢ (place_of a).1 = off-differs a n na q in
      let behind : (place_of n).1 ≢ gap.off + want = λ z. nb (let o = own in omega arith) in
      ap (λ z. cond z (free_extent gap.off want no_links) (cond (eqb (gap.off + want) (place_of n).1) (free_extent (gap.off + want) (gap.span - want) no_links) (extent_in (place_of n).1 (behind_of t a)))) (ne_eqb gap.off (place_of n).1 (λ z. differs (sym z ∙ own)))
      ∙ ap (λ z. cond z (free_extent (gap.off + want) (gap.span - want) no_links) (extent_in (place_of n).1 (behind_of t a))) (ne_eqb (gap.off + want) (place_of n).1 (λ z. behind (sym z)))
      ∙ sym (ap (λ z. cond z gap (extent_in (place_of n).1 (behind_of t a))) (ne_eqb gap.off (place_of n).1 (λ z. differs (sym z ∙ own)))))

  split-second : IsCut t a → 0 < want → place_of b ≡ ((place_of a).0, (place_of a).1 + want) → extent_of t1 b ≡ free_extent (gap.off + want) (gap.span - want) no_links
  split-second c some place =
      let at : (place_of b).1 ≡ gap.off + want = ap (λ (p : ℕ × ℕ). p.1) place ∙ ap (λ z. z + want) (sym own) in
      then-extent t t1 a b (split want) c is (ap (λ (p : ℕ × ℕ). p.0) place) (let o = own in omega arith)
      ∙ ap (λ z. cond z (free_extent gap.off want no_links) (cond (eqb (gap.off + want) (place_of b).1) (free_extent (gap.off + want) (gap.span - want) no_links) (extent_in (place_of b).1 (behind_of t a)))) (ne_eqb gap.off (place_of b).1 (λ z. omega arith))
      ∙ ap (λ z. cond z (free_extent (gap.off + want) (gap.span - want) no_links) (extent_in (place_of b).1 (behind_of t a))) (eq-eqb (gap.off + want) (place_of b).1 (sym at))

-- the first part becomes a block
module _ (segs : List Bytes) (index : List ℕ) (k : ∥ AreExtents segs index ∥₁) (a size tag : ℕ) (sized : IsGuardedSize size) (free : IsFree (tiling segs) a) (left : 2 * span size ≤ (extent_of (tiling segs) a).span) where
  pub start-room : CanPutBlock (tiling segs) a (place_of a).1 size
  start-room = record {
    free = free;
    sized = sized;
    first = omega arith;
    multiple = omega arith;
    fits = omega arith;
  }

  own-value : a ≡ address ((place_of a).0, (place_of a).1)
  own-value = sym (address-place_of a)

  no-front : tiling segs ≡ change_extent a (cut_front (place_of a).1) (tiling segs)
  no-front = ∥∥₁_elim k (hlevel (tiling-set)) (λ h. front-none (tiling segs) a (place_of a).1 (cut-of segs index a h free.named) (omega arith))

  module _ (t1 : Tiling) (want : ℕ) (w : want ≡ span size) (is1 : t1 ≡ change_extent a (split want) (tiling segs)) where
    start-cut : t1 ≡ change_extent a (cut_back (span size)) (tiling segs)
    start-cut =
        ∥∥₁_elim k (hlevel (tiling-set))
        (λ h.
        is1 ∙ ap (λ n. change_extent a (split n) (tiling segs)) w
        ∙ back-some (tiling segs) a (span size) (cut-of segs index a h free.named) (let some = span-least size in omega arith))

    pub start-free : IsFree t1 a
    start-free = back-free segs index k (tiling segs) a a (place_of a).1 size tag start-room own-value no-front t1 start-cut

    pub start-span : span size ≡ (extent_of t1 a).span
    start-span = back-span segs index k (tiling segs) a a (place_of a).1 size tag start-room own-value no-front t1 start-cut

    module _ (t2 : Tiling) (is2 : t2 ≡ change_extent a (lay_zeros size tag) t1) where
      pub start-carved : t2 ≡ change_extent a (carve (place_of a).1 size tag) (tiling segs)
      start-carved = carved-whole segs index k (tiling segs) a a (place_of a).1 size tag start-room own-value no-front t1 start-cut t2 is2

      abbrev block : Extent
      block = busy_extent (extent_of t1 a).off (extent_of t1 a).span size tag (replicate size 0)

      block-off : block.off ≡ (place_of a).1
      block-off = extent_in-off (place_of a).1 (extents_of (place_of a).0 t1)

      laid-other : (n : ℕ) → n ≢ a → extent_of t2 n ≡ extent_of t1 n
      laid-other n na = extent_of-single t1 t2 a (lay_zeros size tag) is2 block block-off refl n na

      pub start-gone : is_free t2 a ≡ false
      start-gone =
          let now : extent_of t2 a ≡ block = extent_of-here t1 t2 a (lay_zeros size tag) is2 block (behind_of t1 a) start-free.named block-off refl in
          ap (λ (x : Extent). ltb 0 x.span && eqb x.size 0) now
          ∙ ap (λ z. ltb 0 block.span && z) (ne_eqb size 0 (let some = sized.some in λ q. omega arith))
          ∙ and-false (ltb 0 block.span)

      module _ (b : ℕ) (value : b ≡ address ((place_of a).0, (place_of a).1 + want)) where
        b-place : place_of b ≡ ((place_of a).0, (place_of a).1 + want)
        b-place =
            let most = named-end segs index a k free.named in
            let some = span-least size in
            ap place_of value ∙ place_of-address (place_of a).0 ((place_of a).1 + want) (omega arith) (omega arith)

        b-other : b ≢ a
        b-other e = let p : (place_of b).1 ≡ (place_of a).1 + want = ap (λ (p : ℕ × ℕ). p.1) b-place in let some = span-least size in let q = ap (λ n. (place_of n).1) e in omega (arith, p, q, some, w)

        pub start-none : is_free (tiling segs) b ≡ false
        start-none = let some = span-least size in inside-not segs index k a free.named b ((place_of a).1 + want) value (omega arith) (omega arith) (omega arith)

        pub start-others : (n : ℕ) → n ≢ a → n ≢ b → extent_of t2 n ≡ extent_of (tiling segs) n
        start-others n na nb = laid-other n na ∙ split-other (tiling segs) t1 a b want is1 value n na nb

        second-span : (extent_of t1 b).span ≡ (extent_of (tiling segs) a).span - want
        second-span = ∥∥₁_elim k (hlevel (ℕ_set)) (λ h. ap (λ (x : Extent). x.span) (split-second (tiling segs) t1 a b want is1 value (cut-of segs index a h free.named) (let some = span-least size in omega arith) b-place))

        second-size : (extent_of t1 b).size ≡ 0
        second-size = ∥∥₁_elim k (hlevel (ℕ_set)) (λ h. ap (λ (x : Extent). x.size) (split-second (tiling segs) t1 a b want is1 value (cut-of segs index a h free.named) (let some = span-least size in omega arith) b-place))

        pub start-rest : (extent_of t2 b).span + span size ≡ (extent_of (tiling segs) a).span
        start-rest = let e : (extent_of t2 b).span ≡ (extent_of t1 b).span = ap (λ (x : Extent). x.span) (laid-other b b-other) in let s = second-span in omega (arith, e, s, w, left)

        pub start-come : is_free t2 b ≡ true
        start-come =
            let some = span-least size in
            ap (λ (x : Extent). ltb 0 x.span && eqb x.size 0) (laid-other b b-other)
            ∙ rw (lt-ltb 0 (extent_of t1 b).span (let s = second-span in omega (arith, s, w, left, some)), eq-eqb (extent_of t1 b).size 0 second-size) refl

-- the part that is left takes the gap's place in the tree, where the gap is the least that holds the block
module _ (segs mid : List Bytes) (index i : List ℕ) (k : ∥ AreExtents segs index ∥₁) (l : ∥ AreExtents mid i ∥₁) (a size tag : ℕ) (sized : IsGuardedSize size) (free : IsFree (tiling segs) a) (holds : 2 * span size ≤ (extent_of (tiling segs) a).span)
    (t1 : Tiling) (want : ℕ) (w : want ≡ span size) (is1 : t1 ≡ change_extent a (split want) (tiling segs)) (is2 : tiling mid ≡ change_extent a (lay_zeros size tag) t1)
    (b : ℕ) (value : b ≡ address ((place_of a).0, (place_of a).1 + want)) (root : ℕ) (h : HasGaps (tiling segs) root []) (least : IsLeastHolding (tiling segs) size 32 a)
    (above left right : ℕ) (side : Bool) (s : Seated (gap_store (tiling segs)) root a above side left right h.tree.tree) where
  abbrev t2 : Tiling
  t2 = tiling mid

  others : (n : ℕ) → n ≢ a → n ≢ b → extent_of (tiling mid) n ≡ extent_of (tiling segs) n
  others = start-others segs index k a size tag sized free holds t1 want w is1 (tiling mid) is2 b value

  gone : is_free (tiling mid) a ≡ false
  gone = start-gone segs index k a size tag sized free holds t1 want w is1 (tiling mid) is2

  come : is_free (tiling mid) b ≡ true
  come = start-come segs index k a size tag sized free holds t1 want w is1 (tiling mid) is2 b value

  none : is_free (tiling segs) b ≡ false
  none = start-none segs index k a size tag sized free holds t1 want w is1 (tiling mid) is2 b value

  rest : (extent_of (tiling mid) b).span + span size ≡ (extent_of (tiling segs) a).span
  rest = start-rest segs index k a size tag sized free holds t1 want w is1 (tiling mid) is2 b value

  some : 1 ≤ span size
  some = let j = span-least size in omega arith

  pub start-settle : CanSettleNode (gap_store (tiling mid)) b left right
  start-settle = can-settle segs index k (span size) a root h least (free-bool (tiling segs) a free) (tiling mid) b others gone come none (gap_fits mid i l b come) some rest holds above left right side s

  pub start-above : above ≢ 0 → is_free (tiling mid) above ≡ true
  start-above = above-free segs index k (span size) a root h least (free-bool (tiling segs) a free) (tiling mid) b others gone come none (gap_fits mid i l b come) some rest holds above left right side s

  module _ (last : List Bytes) (j : List ℕ) (m : ∥ AreExtents last j ∥₁) (result : ℕ) (same : plain (tiling last) ≡ plain (tiling mid))
      (taken : (at : ℕ) (context : Context) (l r : Tree) → IsSeat (gap_store (tiling mid)) root at above side left right context l r → tally b (plug context (Node l at r)) ≡ 0 → WasPut (gap_store (tiling mid)) (gap_store (tiling last)) context (Node l b r) result) where
    put : WasPut (gap_store (tiling mid)) (gap_store (tiling last)) s.context (Node s.left_tree b s.right_tree) result
    put =
        taken a s.context s.left_tree s.right_tree
        (seat-now segs index k (span size) a root h least (free-bool (tiling segs) a free) (tiling mid) b others gone come none (gap_fits mid i l b come) some rest holds above left right side s)
        (apart-b segs index k (span size) a root h least (free-bool (tiling segs) a free) (tiling mid) b others gone come none (gap_fits mid i l b come) some rest holds above left right side s)

    pub start-gaps : HasGaps (tiling last) result []
    start-gaps = gaps-seated segs index k (span size) a root h least (free-bool (tiling segs) a free) (tiling mid) b others gone come none (gap_fits mid i l b come) some rest holds above left right side s last j m result same put

    pub start-cost : GapsCost (tiling segs) (tiling last) root result 0 0 0 0 0
    start-cost = seated-cost segs index k (span size) a root h least (free-bool (tiling segs) a free) (tiling mid) b others gone come none (gap_fits mid i l b come) some rest holds above left right side s last j m result same put
