-- A block of zeros in a free extent, call by call.
use Rattle.vc_base.proofs.Common.{◌≡◌, ℕ, ◌+◌, ◌-◌, ◌%◌, ◌<◌, ◌≤◌, true, false, cond, ◌||◌, ltb, ◌≢◌, List, [], ◌∷◌, ◌++◌, length, replicate, IfSome, Some, None, All, Option, sym, refl, ap, ◌∙◌, subst, ⊎_elim, append-nil, arith, drop_of_length-le, ltb-false, ltb-true, le-ltb, lt-ltb, ne_eqb, le_prop, ∥∥₁_elim, ℕ_set, cases_Bool, All-cons, All-nil, length-replicate, contains, address, place_of, with_bytes, span}
use Rattle.vc_best.proofs.Common.{Addr, AreExtents, Bytes, CanLinkGap, CanPutBlock, Extent, HasGaps, IsFree, Tiling, behind_of, busy_extent, carve, change_at, change_extent, cut_back, cut_front, extent_in, extent_of, free_extent, free_part, lay_zeros, mark_busy, no_links, plain, some_name, split, tiling, write}
use Rattle.vc_seg.proofs.Blocks.{place_of-address}
use Rattle.vc_base.proofs.Members.{within-head}
use Rattle.vc_base.proofs.Places.{span-least}
use Rattle.vc_gaps.proofs.GapTrees.{can_link-out}
use Rattle.vc_best.proofs.Cuts.{change_at-here, change_at-skip, extent_in-here, extent_in-skip}
use Rattle.vc_best.proofs.Plain.{free-stays}
use Rattle.vc_best.proofs.Sets.{tiling-set}
use Rattle.vc_best.proofs.Walks.{named-end}
use Rattle.vc_best.proofs.Known.{IsCut, cut-of, end-of, now-none, now-same, off-of, then-extent, then-steps}

-- zeros over all bytes of a block
pub zeros-written : (size : ℕ) (body : List ℕ) → length body ≡ size → with_bytes 0 (replicate size 0) body ≡ replicate size 0
zeros-written size body h =
    let long = length-replicate {A = ℕ} size 0 in
    rw (drop_of_length-le body {i = 0 + length (replicate {A = ℕ} size 0)} (omega (arith, long, h))) (append-nil (replicate size 0))

module _ (t t1 : List (ℕ × List Extent)) (a size tag : ℕ) (body : List ℕ) (c : IsCut t a) (is : t1 ≡ change_extent a (mark_busy size tag body) t) where
  abbrev e : Extent
  e = extent_of t a

  pub marked : extent_of t1 a ≡ busy_extent (extent_of t a).off (extent_of t a).span size tag body
  marked =
      then-extent t t1 a a (mark_busy size tag body) c is refl (omega arith)
      ∙ extent_in-here (place_of a).1 (busy_extent e.off e.span size tag body) (behind_of t a) (off-of t a c)

  pub laid : (t2 : List (ℕ × List Extent)) → length body ≡ size → t2 ≡ change_extent a (write 0 (replicate size 0)) t1 → t2 ≡ change_extent a (lay_zeros size tag) t
  laid t2 len e2 =
      then-steps t t1 a a (mark_busy size tag body) c is refl (omega arith) t2 (write 0 (replicate size 0)) (lay_zeros size tag) e2
      (change_at-here (place_of a).1 (busy_extent e.off e.span size tag body) (behind_of t a) (off-of t a c) (write 0 (replicate size 0))
      ∙ ap (λ (bs : List ℕ). busy_extent e.off e.span size tag bs ∷ behind_of t a) (zeros-written size body len))

-- what is split from the front of a free extent
module _ (t : List (ℕ × List Extent)) (a off : ℕ) (c : IsCut t a) where
  pub front-none : off ≤ (place_of a).1 → t ≡ change_extent a (cut_front off) t
  front-none le =
      sym (now-none t a c (cut_front off) (rw (le-ltb (extent_of t a).off off (omega (arith, off-of t a c))) refl))

  pub front-some : (place_of a).1 < off → change_extent a (split (off - (place_of a).1)) t ≡ change_extent a (cut_front off) t
  front-some lt =
      let o = off-of t a c in
      now-same t a c (split (off - (place_of a).1)) (cut_front off)
      (rw (lt-ltb (extent_of t a).off off (omega arith)) (ap (λ (n : ℕ). split (off - n) (extent_of t a) (behind_of t a)) (sym o)))

-- what is split from its back
module _ (t : List (ℕ × List Extent)) (a bytes : ℕ) (c : IsCut t a) where
  pub back-none : (extent_of t a).span ≤ bytes → t ≡ change_extent a (cut_back bytes) t
  back-none le = sym (now-none t a c (cut_back bytes) (rw (le-ltb bytes (extent_of t a).span le) refl))

  pub back-some : bytes < (extent_of t a).span → change_extent a (split bytes) t ≡ change_extent a (cut_back bytes) t
  back-some lt = now-same t a c (split bytes) (cut_back bytes) (rw (lt-ltb bytes (extent_of t a).span lt) refl)

-- a free extent of an offset and a span
pub record IsSpan (at bytes : ℕ) (e : Extent) : Type 0 where
  pub off : e.off ≡ at
  pub span : e.span ≡ bytes
  pub free : e.size ≡ 0

-- a free extent from which what lies before an offset is split
front-is : (e : Extent) (ys : List Extent) (off : ℕ) → e.size ≡ 0 → e.off ≤ off → off < e.off + e.span →
    (r : Extent) × IsSpan off (e.off + e.span - off) r × (cut_front off e ys ≡ free_part e.off off ++ (r ∷ ys))
front-is e ys off free le lt =
    ⊎_elim
    (λ (h : ltb e.off off ≡ true).
    let low = ltb-true e.off off h in (
      free_extent (e.off + (off - e.off)) (e.span - (off - e.off)) no_links,
      record { off = omega arith; span = omega arith; free = refl },
      rw h refl,
    ))
    (λ (h : ltb e.off off ≡ false).
    let high = ltb-false e.off off h in
    (e, record { off = omega arith; span = omega arith; free = free }, rw h refl))
    (cases_Bool (ltb e.off off))

-- what is before an offset has a lower one
front-other : (e : Extent) (off : ℕ) → All (λ x. x.off ≢ off) (free_part e.off off)
front-other e off =
    let P : Extent → Type 0 = λ x. x.off ≢ off in
    ⊎_elim
    (λ (h : ltb e.off off ≡ true). let low = ltb-true e.off off h in rw h (All-cons P (free_extent e.off (off - e.off) no_links) [] (λ q. omega arith) (All-nil P)))
    (λ (h : ltb e.off off ≡ false). rw h (All-nil P))
    (cases_Bool (ltb e.off off))

front-lower : (e : Extent) (off to : ℕ) → off ≤ to → e.off < to → All (λ x. x.off ≢ to) (free_part e.off off)
front-lower e off to le lt =
    let P : Extent → Type 0 = λ x. x.off ≢ to in
    ⊎_elim
    (λ (h : ltb e.off off ≡ true). rw h (All-cons P (free_extent e.off (off - e.off) no_links) [] (λ q. omega arith) (All-nil P)))
    (λ (h : ltb e.off off ≡ false). rw h (All-nil P))
    (cases_Bool (ltb e.off off))

-- a free extent from whose back what a span doesn't want is split
back-is : (r : Extent) (ys : List Extent) (at bytes span : ℕ) → IsSpan at span r → bytes ≤ span →
    (x : Extent) × IsSpan at bytes x × (cut_back bytes r ys ≡ x ∷ (free_part (at + bytes) (at + span) ++ ys))
back-is r ys at bytes span is le =
    let o = is.off in
    let s = is.span in
    ⊎_elim
    (λ (h : ltb bytes r.span ≡ true).
    let low = ltb-true bytes r.span h in
    let more : ltb (at + bytes) (at + span) ≡ true = lt-ltb (at + bytes) (at + span) (omega arith) in (
      free_extent r.off bytes no_links,
      record { off = o; span = refl; free = refl },
      rw (h, more) (ap (λ (n : ℕ). free_extent r.off bytes no_links ∷ free_extent (n + bytes) (r.span - bytes) no_links ∷ ys) o ∙ ap (λ (n : ℕ). free_extent r.off bytes no_links ∷ free_extent (at + bytes) n no_links ∷ ys) (omega arith)),
    ))
    (λ (h : ltb bytes r.span ≡ false).
    let high = ltb-false bytes r.span h in
    let none : ltb (at + bytes) (at + span) ≡ false = le-ltb (at + bytes) (at + span) (omega arith) in
    (r, record { off = o; span = omega arith; free = is.free }, rw (h, none) refl))
    (cases_Bool (ltb bytes r.span))

-- both, and a block of zeros in what is left
module _ (e : Extent) (ys : List Extent) (off size tag : ℕ) (free : e.size ≡ 0) (le : e.off ≤ off) (fits : off + span size ≤ e.off + e.span) (some : 0 < span size) where
  front : (r : Extent) × IsSpan off (e.off + e.span - off) r × (cut_front off e ys ≡ free_part e.off off ++ (r ∷ ys))
  front = front-is e ys off free le (omega arith)

  back : (x : Extent) × IsSpan off (span size) x × (cut_back (span size) front.0 ys ≡ x ∷ (free_part (off + span size) (off + (e.off + e.span - off)) ++ ys))
  back = back-is front.0 ys off (span size) (e.off + e.span - off) front.1 (omega arith)

  pub front-extent : IsSpan off (e.off + e.span - off) (extent_in off (cut_front off e ys))
  front-extent =
      rw front.2
      (rw (extent_in-skip off (free_part e.off off) (front.0 ∷ ys) (front-other e off))
      (rw (extent_in-here off front.0 ys front.1.off) front.1))

  after-back : change_at off (cut_back (span size)) (cut_front off e ys) ≡ free_part e.off off ++ (back.0 ∷ (free_part (off + span size) (e.off + e.span) ++ ys))
  after-back =
      let end : off + (e.off + e.span - off) ≡ e.off + e.span = omega arith in
      ap (change_at off (cut_back (span size))) front.2
      ∙ (change_at-skip off (cut_back (span size)) (free_part e.off off) (front.0 ∷ ys) (front-other e off)
      ∙ ap (λ (zs : List Extent). free_part e.off off ++ zs)
      (change_at-here off front.0 ys front.1.off (cut_back (span size))
      ∙ (back.2 ∙ ap (λ (n : ℕ). back.0 ∷ (free_part (off + span size) n ++ ys)) end)))

  pub back-extent : IsSpan off (span size) (extent_in off (change_at off (cut_back (span size)) (cut_front off e ys)))
  back-extent =
      rw after-back
      (rw (extent_in-skip off (free_part e.off off) (back.0 ∷ (free_part (off + span size) (e.off + e.span) ++ ys)) (front-other e off))
      (rw (extent_in-here off back.0 (free_part (off + span size) (e.off + e.span) ++ ys) back.1.off) back.1))

  pub carve-is : change_at off (lay_zeros size tag) (change_at off (cut_back (span size)) (cut_front off e ys)) ≡ carve off size tag e ys
  carve-is =
      let zs : List Extent = free_part (off + span size) (e.off + e.span) ++ ys in
      ap (change_at off (lay_zeros size tag)) after-back
      ∙ (change_at-skip off (lay_zeros size tag) (free_part e.off off) (back.0 ∷ zs) (front-other e off)
      ∙ ap (λ (xs : List Extent). free_part e.off off ++ xs)
      (change_at-here off back.0 zs back.1.off (lay_zeros size tag)
      ∙ (ap (λ (n : ℕ). busy_extent n back.0.span size tag (replicate size 0) ∷ zs) back.1.off
      ∙ ap (λ (n : ℕ). busy_extent off n size tag (replicate size 0) ∷ zs) back.1.span)))

-- the calls on the segments
module _ (t t1 : List (ℕ × List Extent)) (a to off size tag : ℕ) (c : IsCut t a) (room : CanPutBlock t a off size) (value : to ≡ address ((place_of a).0, off)) (is1 : t1 ≡ change_extent a (cut_front off) t) where
  pub place : place_of to ≡ ((place_of a).0, off)
  place =
      ap place_of value ∙ place_of-address (place_of a).0 off (omega (arith, room.fits, end-of t a c, c.legal.most)) room.multiple

  seg : (place_of to).0 ≡ (place_of a).0
  seg = ap (λ (p : ℕ × ℕ). p.0) place

  at : (place_of to).1 ≡ off
  at = ap (λ (p : ℕ × ℕ). p.1) place

  span-some : 0 < span size
  span-some = omega (arith, room.sized.some)

  le : (place_of a).1 ≤ (place_of to).1
  le = omega (arith, at, room.first)

  low : (extent_of t a).off ≤ off
  low = omega (arith, off-of t a c, room.first)

  high : off + span size ≤ (extent_of t a).off + (extent_of t a).span
  high = omega (arith, off-of t a c, room.fits)

  free-from : (x : Extent) (s : ℕ) → 0 < s → IsSpan off s x → (t' : List (ℕ × List Extent)) → extent_of t' to ≡ x → IsFree t' to
  free-from x s some' is t' e =
      let span = is.span in
      record { named = rw (ap (λ (y : Extent). y.span) e) (omega arith); free = ap (λ (y : Extent). y.size) e ∙ is.free }

  -- what it is from there on
  left : IsSpan off ((extent_of t a).off + (extent_of t a).span - off) (extent_in off (cut_front off (extent_of t a) (behind_of t a)))
  left = front-extent (extent_of t a) (behind_of t a) off size tag room.free.free low high span-some

  now-left : extent_of t1 to ≡ extent_in off (cut_front off (extent_of t a) (behind_of t a))
  now-left = then-extent t t1 a to (cut_front off) c is1 seg le ∙ ap (λ (n : ℕ). extent_in n (cut_front off (extent_of t a) (behind_of t a))) at

  pub fronted : IsFree t1 to
  fronted = free-from (extent_in off (cut_front off (extent_of t a) (behind_of t a))) ((extent_of t a).off + (extent_of t a).span - off) (omega (arith, span-some, high)) left t1 now-left

  pub front-end : (place_of to).1 + (extent_of t1 to).span ≡ (place_of a).1 + (extent_of t a).span
  front-end =
      let s : (extent_of t1 to).span ≡ (extent_of t a).off + (extent_of t a).span - off = ap (λ (y : Extent). y.span) now-left ∙ left.span in
      omega (arith, off-of t a c, at, low, high, s)

  module _ (t2 : List (ℕ × List Extent)) (is2 : t2 ≡ change_extent to (cut_back (span size)) t1) where
    -- both cuts in one
    abbrev cuts : Extent → List Extent → List Extent
    cuts e ys = change_at (place_of to).1 (cut_back (span size)) (cut_front off e ys)

    is-both : t2 ≡ change_extent a cuts t
    is-both = then-steps t t1 a to (cut_front off) c is1 seg le t2 (cut_back (span size)) cuts is2 refl

    extent : (x : Extent) × IsSpan off (span size) x × (extent_of t2 to ≡ x)
    extent = (
      extent_in off (change_at off (cut_back (span size)) (cut_front off (extent_of t a) (behind_of t a))),
      back-extent (extent_of t a) (behind_of t a) off size tag room.free.free low high span-some,
      then-extent t t2 a to cuts c is-both seg le ∙ ap (λ (n : ℕ). extent_in n (change_at n (cut_back (span size)) (cut_front off (extent_of t a) (behind_of t a)))) at,
    )

    pub backed : IsFree t2 to
    backed = free-from extent.0 (span size) span-some extent.1 t2 extent.2

    pub spanned : span size ≡ (extent_of t2 to).span
    spanned = sym (ap (λ (y : Extent). y.span) extent.2 ∙ extent.1.span)

    pub carved : (t3 : List (ℕ × List Extent)) → t3 ≡ change_extent to (lay_zeros size tag) t2 → t3 ≡ change_extent a (carve off size tag) t
    carved t3 is3 =
        then-steps t t2 a to cuts c is-both seg le t3 (lay_zeros size tag) (carve off size tag) is3
        (ap (λ (n : ℕ). change_at n (lay_zeros size tag) (change_at n (cut_back (span size)) (cut_front off (extent_of t a) (behind_of t a)))) at
        ∙ carve-is (extent_of t a) (behind_of t a) off size tag room.free.free low high span-some)

-- what is before and behind the block is free
module _ (t new : List (ℕ × List Extent)) (a off size tag : ℕ) (c : IsCut t a) (free : IsFree t a) (fits : off + span size ≤ (place_of a).1 + (extent_of t a).span) (is : new ≡ change_extent a (carve off size tag) t) where
  abbrev last : List Extent
  last = free_part (off + span size) ((extent_of t a).off + (extent_of t a).span) ++ behind_of t a

  abbrev block : Extent
  block = busy_extent off (span size) size tag (replicate size 0)

  -- the free extent as it was
  abbrev gap : Extent
  gap = extent_of t a

  own-off : gap.off ≡ (place_of a).1
  own-off = off-of t a c

  pub carved-front : (place_of a).1 < off → IsFree new a
  carved-front low =
      let x : Extent = free_extent gap.off (off - gap.off) no_links in
      let yes : ltb gap.off off ≡ true = lt-ltb gap.off off (omega (arith, own-off)) in
      let first : carve off size tag gap (behind_of t a) ≡ x ∷ block ∷ last = rw yes refl in
      let now : extent_of new a ≡ x = then-extent t new a a (carve off size tag) c is refl (omega arith) ∙ ap (extent_in (place_of a).1) first ∙ extent_in-here (place_of a).1 x (block ∷ last) own-off in
      record { named = rw (ap (λ (y : Extent). y.span) now) (omega (arith, own-off)); free = ap (λ (y : Extent). y.size) now }

  pub carved-back : (place_of a).1 ≤ off → off % 32 ≡ 0 → off + span size < (place_of a).1 + (extent_of t a).span → IsFree new (address ((place_of a).0, off + span size))
  carved-back first multiple more =
      let b : ℕ = address ((place_of a).0, off + span size) in
      let o = own-off in
      let end = end-of t a c in
      let most = c.legal.most in
      let p : place_of b ≡ ((place_of a).0, off + span size) = place_of-address (place_of a).0 (off + span size) (omega arith) (omega arith) in
      let own : (place_of b).1 ≡ off + span size = ap (λ (q : ℕ × ℕ). q.1) p in
      let x : Extent = free_extent (off + span size) (gap.off + gap.span - (off + span size)) no_links in
      let to : ℕ = off + span size in
      let yes : ltb to (gap.off + gap.span) ≡ true = lt-ltb to (gap.off + gap.span) (omega arith) in
      let rest : last ≡ x ∷ behind_of t a = rw yes refl in
      let skip : extent_in to (free_part gap.off off ++ (block ∷ last)) ≡ extent_in to (block ∷ last) = extent_in-skip to (free_part gap.off off) (block ∷ last) (front-lower gap off to (omega arith) (omega arith)) in
      let second : extent_in to (block ∷ last) ≡ extent_in to last = ap (λ z. cond z block (extent_in to last)) (ne_eqb off to (λ q. omega arith)) in
      let now : extent_of new b ≡ x =
      then-extent t new a b (carve off size tag) c is (ap (λ (q : ℕ × ℕ). q.0) p) (omega arith)
      ∙ ap (λ (n : ℕ). extent_in n (carve off size tag gap (behind_of t a))) own
      ∙ skip ∙ second ∙ ap (extent_in to) rest ∙ extent_in-here to x (behind_of t a) refl in
      record { named = rw (ap (λ (y : Extent). y.span) now) (omega arith); free = ap (λ (y : Extent). y.size) now }

-- a free extent is cut in front and behind, and a block of zeros laid in what is left
module _ (segs : List Bytes) (index : List ℕ) (k : ∥ AreExtents segs index ∥₁) (t1 : Tiling) (a to off size tag : ℕ) (room : CanPutBlock (tiling segs) a off size) (value : to ≡ address ((place_of a).0, off))
    (is1 : t1 ≡ change_extent a (cut_front off) (tiling segs)) where
  known : {P : Type 0} → IsProp P → (IsCut (tiling segs) a → P) → P
  known prop f = ∥∥₁_elim k prop (λ h. f (cut-of segs index a h room.free.named))

  pub front-free : IsFree t1 to
  front-free = known (hlevel (le_prop, ℕ_set)) (λ c. fronted (tiling segs) t1 a to off size tag c room value is1)

  to-place : place_of to ≡ ((place_of a).0, off)
  to-place = ap place_of value ∙ place_of-address (place_of a).0 off (omega (arith, named-end segs index a k room.free.named, room.fits, span-least size)) room.multiple

  to-off : (place_of to).1 ≡ off
  to-off = ap (λ (p : ℕ × ℕ). p.1) to-place

  module _ (t2 : Tiling) (is2 : t2 ≡ change_extent to (cut_back (span size)) t1) where
    pub back-free : IsFree t2 to
    back-free = known (hlevel (le_prop, ℕ_set)) (λ c. backed (tiling segs) t1 a to off size tag c room value is1 t2 is2)

    pub back-span : span size ≡ (extent_of t2 to).span
    back-span = known (hlevel (ℕ_set)) (λ c. spanned (tiling segs) t1 a to off size tag c room value is1 t2 is2)

    module _ (t3 : Tiling) (is3 : t3 ≡ change_extent to (lay_zeros size tag) t2) where
      pub carved-whole : t3 ≡ change_extent a (carve off size tag) (tiling segs)
      carved-whole = known (hlevel (tiling-set)) (λ c. carved (tiling segs) t1 a to off size tag c room value is1 t2 is2 t3 is3)

      -- what was cut off is free
      pub first-free : (f : ℕ) → f ≡ a → (place_of a).1 < off → IsFree t3 f
      first-free f e low = subst (IsFree t3) (sym e) (known (hlevel (le_prop, ℕ_set)) (λ c. carved-front (tiling segs) t3 a off size tag c room.free room.fits carved-whole low))

      pub last-free : (b : ℕ) → b ≡ address ((place_of to).0, (place_of to).1 + span size) → span size < (extent_of t1 to).span → IsFree t3 b
      last-free b e more =
          let end : (place_of to).1 + (extent_of t1 to).span ≡ (place_of a).1 + (extent_of (tiling segs) a).span = known (hlevel (ℕ_set)) (λ c. front-end (tiling segs) t1 a to off size tag c room value is1) in
          let is : b ≡ address ((place_of a).0, off + span size) = e ∙ ap (λ (p : ℕ × ℕ). address (p.0, p.1 + span size)) to-place in
          subst (IsFree t3) (sym is)
          (known (hlevel (le_prop, ℕ_set)) (λ c. carved-back (tiling segs) t3 a off size tag c room.free room.fits carved-whole room.first room.multiple (omega (arith, to-off))))

      -- both can be put into a tree without them, one behind the other
      module _ (front rest : Option Addr) (root : ℕ) (first : IfSome front (λ f. (f.0 ≡ a) × ((place_of a).1 < off)))
          (last : IfSome rest (λ b. (b.0 ≡ address ((place_of to).0, (place_of to).1 + span size)) × (span size < (extent_of t1 to).span))) where
        pub front-can : HasGaps t3 root (some_name front ++ some_name rest) → IfSome front (λ f. CanLinkGap t3 root f.0)
        front-can = can front first
          where
            can : (o : Option Addr) → IfSome o (λ f. (f.0 ≡ a) × ((place_of a).1 < off)) → HasGaps t3 root (some_name o ++ some_name rest) → IfSome o (λ f. CanLinkGap t3 root f.0)
            can None e h = tt
            can (Some f) e h = can_link-out t3 root (f.0 ∷ some_name rest) f.0 h (within-head f.0 (some_name rest)) (first-free f.0 e.0 e.1)

        pub front-apart : IfSome front (λ f. contains (some_name rest) f.0 ≡ false)
        front-apart = apart front rest first last
          where
            apart : (o p : Option Addr) → IfSome o (λ f. (f.0 ≡ a) × ((place_of a).1 < off)) → IfSome p (λ b. (b.0 ≡ address ((place_of to).0, (place_of to).1 + span size)) × (span size < (extent_of t1 to).span)) →
                IfSome o (λ f. contains (some_name p) f.0 ≡ false)
            apart None p e d = tt
            apart (Some f) None e d = refl
            apart (Some f) (Some b) e d =
                let seg : (place_of to).0 ≡ (place_of a).0 = ap (λ (p : ℕ × ℕ). p.0) to-place in
                let name = e.0 in let low = e.1 in let other = d.0 in let least = span-least size in
                ap (λ z. z || false) (ne_eqb b.0 f.0 (λ q. omega (arith, to-off)))

        pub rest-can : (t4 : Tiling) (root4 : ℕ) → plain t4 ≡ plain t3 → HasGaps t4 root4 (some_name rest) → IfSome rest (λ b. CanLinkGap t4 root4 b.0)
        rest-can t4 root4 same = can rest last
          where
            can : (o : Option Addr) → IfSome o (λ b. (b.0 ≡ address ((place_of to).0, (place_of to).1 + span size)) × (span size < (extent_of t1 to).span)) → HasGaps t4 root4 (some_name o) → IfSome o (λ b. CanLinkGap t4 root4 b.0)
            can None e h = tt
            can (Some b) e h = can_link-out t4 root4 (b.0 ∷ []) b.0 h (within-head b.0 []) (free-stays t3 t4 same b.0 (last-free b.0 e.0 e.1))
