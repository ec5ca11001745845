-- The border behind a block, moved.
use Rattle.vc_base.proofs.Common.{◌≡◌, ℕ, ◌+◌, ◌-◌, ◌<◌, ◌≤◌, true, false, not, ◌&&◌, eqb, ltb, List, [], ◌∷◌, length, take, Some, Option, sym, refl, ap, ◌∙◌, ⊎_elim, arith, length-take-le, take-take, ltb-false, le-ltb, lt-ltb, eq-eqb, ne_eqb, and_from, cases_Bool, eqb-false, address, place_of, span}
use Rattle.vc_best.proofs.Common.{Extent, IsBusy, IsFree, absorb, behind, behind_of, busy_extent, busy_in, change_extent, extent_of, first_of, free_bytes, free_extent, free_name, free_next, is_busy, is_free, is_merged, move_border, next_of, no_links, room_of, set_size, shrink, stretch, stretch_rest}
use Rattle.vc_seg.proofs.Blocks.{place_of-address}
use Rattle.vc_best.proofs.Cuts.{behind-here, change_at-here, extent_in-here}
use Rattle.vc_best.proofs.Known.{IsCut, end-of, now-same, off-of, then-behind, then-extent, then-steps}
use Rattle.vc_best.proofs.Merges.{merged-weaker}
use Rattle.vc_best.proofs.FreeBlocks.{absorb-busy, absorbed, absorbed-name}

-- the free bytes of an extent
pub free-busy : (o : Option Extent) (y : Extent) → o ≡ Some y → 0 < y.size → free_bytes o ≡ 0
free-busy o y e busy = rw e (let yes : is_busy y ≡ true = lt-ltb 0 y.size busy in rw yes refl)

pub free-free : (o : Option Extent) (y : Extent) → o ≡ Some y → y.size ≡ 0 → free_bytes o ≡ y.span
free-free o y e free = rw e (let no : is_busy y ≡ false = le-ltb 0 y.size (omega arith) in rw no refl)

-- a smaller span is that of a smaller size
less-size : (size own : ℕ) → span size < span own → size < own
less-size size own h = omega arith

module _ (t : List (ℕ × List Extent)) (a size : ℕ) (c : IsCut t a) where
  abbrev e : Extent
  e = extent_of t a

  abbrev ys : List Extent
  ys = behind_of t a

  -- the same span
  pub border-same : (body : List ℕ) → span size ≡ (extent_of t a).span → change_extent a (set_size size body) t ≡ change_extent a (move_border size body) t
  border-same body same =
      now-same t a c (set_size size body) (move_border size body)
      (rw (eq-eqb (span size) e.span same) (ap (λ (n : ℕ). busy_extent e.off n size e.tag body ∷ ys) (sym same)))

  -- a larger one
  pub border-stretched : (body : List ℕ) → (extent_of t a).span < span size → span size ≤ room_of t a → change_extent a (stretch size body) t ≡ change_extent a (move_border size body) t
  border-stretched body more enough =
      let one : (zs : List Extent) → span size ≤ e.span + free_bytes (first_of zs) → stretch size body e zs ≡ move_border size body e zs =
      λ zs. elim zs as (λ (zs : List Extent). span size ≤ e.span + free_bytes (first_of zs) → stretch size body e zs ≡ move_border size body e zs) [
        | [] ↦ λ le. absurd (omega arith)
        | y ∷ ys ↦ λ le. rw (ne_eqb (span size) e.span (λ q. omega arith), le-ltb (span size) e.span (omega arith)) refl
      ] in
      now-same t a c (stretch size body) (move_border size body) (one ys enough)

  -- a smaller one
  module _ (t1 : List (ℕ × List Extent)) (rest : ℕ) (busy : IsBusy t a) (some : 1 ≤ size) (less : span size < (extent_of t a).span) (is : t1 ≡ change_extent a (shrink size) t) (value : rest ≡ address ((place_of a).0, (place_of a).1 + span size)) where
    -- what is cut off
    abbrev free : Extent
    free = free_extent (e.off + span size) (e.span - span size) no_links

    rest-place : place_of rest ≡ ((place_of a).0, (place_of a).1 + span size)
    rest-place =
        let end = end-of t a c in
        ap place_of value ∙ place_of-address (place_of a).0 ((place_of a).1 + span size) (omega (arith, c.legal.most)) (omega arith)

    rest-seg : (place_of rest).0 ≡ (place_of a).0
    rest-seg = ap (λ (p : ℕ × ℕ). p.0) rest-place

    rest-off : (place_of rest).1 ≡ (place_of a).1 + span size
    rest-off = ap (λ (p : ℕ × ℕ). p.1) rest-place

    rest-le : (place_of a).1 ≤ (place_of rest).1
    rest-le = omega (arith, rest-off)

    rest-own : (extent_of t a).off + span size ≡ (place_of rest).1
    rest-own = omega (arith, rest-off, off-of t a c)

    first-other : eqb (extent_of t a).off (place_of rest).1 ≡ false
    first-other = ne_eqb (extent_of t a).off (place_of rest).1 (λ q. omega (arith, rest-own))

    pub rest-free : IsFree t1 rest
    rest-free =
        let now : extent_of t1 rest ≡ free = then-extent t t1 a rest (shrink size) c is rest-seg rest-le ∙ rw first-other (extent_in-here (place_of rest).1 free (behind_of t a) rest-own) in
        record { named = rw (ap (λ (x : Extent). x.span) now) (omega arith); free = ap (λ (x : Extent). x.size) now }

    -- what is behind it was behind the block
    pub rest-next : free_next t1 rest ≡ free_next t a
    rest-next =
        let same : behind_of t1 rest ≡ behind_of t a = then-behind t t1 a rest (shrink size) c is rest-seg rest-le ∙ rw first-other (behind-here (place_of rest).1 free (behind_of t a) rest-own) in
        let own : free_next t1 rest ≡ free_name (place_of rest).0 (next_of t a) = ap (λ (zs : List Extent). free_name (place_of rest).0 (first_of zs)) same in
        own ∙ ap (λ (n : ℕ). free_name n (next_of t a)) rest-seg

    module _ (t2 : List (ℕ × List Extent)) (is2 : t2 ≡ change_extent rest absorb t1) where
      shrunk : t2 ≡ change_extent a (move_border size (take size (extent_of t a).body)) t
      shrunk =
          let x = busy_extent e.off (span size) size e.tag (take size e.body) in
          then-steps t t1 a rest (shrink size) c is rest-seg rest-le t2 absorb (move_border size (take size e.body)) is2
          (rw first-other
          (ap (λ (zs : List Extent). x ∷ zs) (change_at-here (place_of rest).1 free ys rest-own absorb)
          ∙ sym (rw (ne_eqb (span size) e.span (λ q. omega arith), lt-ltb (span size) e.span less) refl)))

      pub next-shrunk : free_next t2 a ≡ rest ∷ []
      next-shrunk =
          let body = take size e.body in
          let x = busy_extent e.off (span size) size e.tag body in
          let moved : move_border size body e ys ≡ x ∷ absorb free ys = rw (ne_eqb (span size) e.span (λ q. omega arith), lt-ltb (span size) e.span less) refl in
          let same : behind_of t2 a ≡ absorb free ys = then-behind t t2 a a (move_border size body) c shrunk refl (omega arith) ∙ (ap (behind (place_of a).1) moved ∙ behind-here (place_of a).1 x (absorb free ys) (off-of t a c)) in
          let own : free_next t2 a ≡ free_name (place_of a).0 (first_of (absorb free ys)) = ap (λ (zs : List Extent). free_name (place_of a).0 (first_of zs)) same in
          let off : address ((place_of a).0, e.off + span size) ≡ rest = ap (λ (n : ℕ). address ((place_of a).0, n + span size)) (off-of t a c) ∙ sym value in
          own ∙ absorbed-name (place_of a).0 free ys refl ∙ ap (λ (n : ℕ). n ∷ []) off

      shrunk-body : (extent_of t2 a).body ≡ take size (extent_of t a).body
      shrunk-body =
          let now : extent_of t2 a ≡ busy_extent e.off (span size) size e.tag (take size e.body) =
          then-extent t t2 a a (move_border size (take size e.body)) c shrunk refl (omega arith)
          ∙ rw (eq-eqb e.off (place_of a).1 (off-of t a c)) refl in
          ap (λ (x : Extent). x.body) now

      pub border-shrunk : t2 ≡ change_extent a (move_border size (extent_of t2 a).body) t
      border-shrunk = shrunk ∙ ap (λ (bs : List ℕ). change_extent a (move_border size bs) t) (sym shrunk-body)

      own-size : size ≤ length (extent_of t a).body
      own-size =
          let long = c.cut.here.0.bytes in
          let own = c.cut.here.0.legal.busy busy.busy in
          let lt = less-size size (extent_of t a).size (omega arith) in
          omega arith

      pub shrunk-len : length (extent_of t2 a).body ≡ size
      shrunk-len = let le = own-size in ap length shrunk-body ∙ length-take-le size (extent_of t a).body le

      pub shrunk-kept : (k : ℕ) → k ≤ size → take k (extent_of t2 a).body ≡ take k (extent_of t a).body
      shrunk-kept k le = ap (take k) shrunk-body ∙ take-take k size (extent_of t a).body le

-- the blocks behind it stay
rest-busy : (n size : ℕ) (e : Extent) (ys : List Extent) → e.span < span size → span size ≤ e.span + free_bytes (first_of ys) → busy_in (n, stretch_rest size e ys) ≡ busy_in (n, ys)
rest-busy n size e [] more enough = refl
rest-busy n size e (y ∷ ys) more enough =
    ⊎_elim
    (λ (t : is_busy y ≡ true). let le : span size ≤ e.span + 0 = rw t at enough in absurd (omega arith))
    (λ (t : is_busy y ≡ false).
    ⊎_elim
    (λ (u : eqb (e.span + y.span) (span size) ≡ true). rw (u, t) refl)
    (λ (u : eqb (e.span + y.span) (span size) ≡ false). rw (u, t) refl)
    (cases_Bool (eqb (e.span + y.span) (span size))))
    (cases_Bool (is_busy y))

rest-merged : (size : ℕ) (e : Extent) (ys : List Extent) → e.span < span size → span size ≤ e.span + free_bytes (first_of ys) → is_merged false ys ≡ true → is_merged false (stretch_rest size e ys) ≡ true
rest-merged size e [] more enough m = refl
rest-merged size e (y ∷ ys) more enough m =
    ⊎_elim
    (λ (t : is_busy y ≡ true). let le : span size ≤ e.span + 0 = rw t at enough in absurd (omega arith))
    (λ (t : is_busy y ≡ false).
    let tail : is_merged true ys ≡ true = rw t at m in
    ⊎_elim
    (λ (u : eqb (e.span + y.span) (span size) ≡ true). rw u (merged-weaker false ys tail))
    (λ (u : eqb (e.span + y.span) (span size) ≡ false). rw u tail)
    (cases_Bool (eqb (e.span + y.span) (span size))))
    (cases_Bool (is_busy y))

-- what is left behind the border: its blocks, and what is free in it
pub record IsBehind (n size : ℕ) (e : Extent) (ys : List Extent) : Type 0 where
  pub rest : List Extent
  pub is : (body : List ℕ) → move_border size body e ys ≡ busy_extent e.off (span size) size e.tag body ∷ rest
  pub busy : busy_in (n, rest) ≡ busy_in (n, ys)
  pub merged : is_merged false ys ≡ true → is_merged false rest ≡ true

pub behind-border : (n size : ℕ) (e : Extent) (ys : List Extent) → span size ≤ e.span + free_bytes (first_of ys) → IsBehind n size e ys
behind-border n size e ys enough =
    ⊎_elim
    (λ (t : eqb (span size) e.span ≡ true). record { rest = ys; is = λ body. rw t refl; busy = refl; merged = λ m. m })
    (λ (t : eqb (span size) e.span ≡ false).
    let other = eqb-false (span size) e.span t in
    ⊎_elim
    (λ (u : ltb (span size) e.span ≡ true).
    let free = free_extent (e.off + span size) (e.span - span size) no_links in
    record {
      rest = absorb free ys;
      is = λ body. rw (t, u) refl;
      busy = absorb-busy n free ys refl;
      merged = λ m. let r = absorbed free ys refl m in ap (is_merged false) r.is ∙ and_from (not (false && is_free r.first)) (is_merged (is_free r.first) r.rest) refl (merged-weaker (is_free r.first) r.rest r.merged);
    })
    (λ (u : ltb (span size) e.span ≡ false).
    let more : e.span < span size = let le = ltb-false (span size) e.span u in omega (arith, le, other) in
    record {
      rest = stretch_rest size e ys;
      is = λ body. rw (t, u) refl;
      busy = rest-busy n size e ys more enough;
      merged = rest-merged size e ys more enough;
    })
    (cases_Bool (ltb (span size) e.span)))
    (cases_Bool (eqb (span size) e.span))
