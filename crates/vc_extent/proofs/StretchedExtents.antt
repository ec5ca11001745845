-- A busy extent that grows into the free one behind it.
use Rattle.vc_base.proofs.Common.{◌≡◌, ℕ, ◌+◌, ◌-◌, ◌<◌, ◌≤◌, true, false, cond, eqb, ◌≢◌, List, [], ◌∷◌, length, take, drop, IfSome, IsSome, sym, refl, ap, ◌∙◌, subst, arith, take-take, eq-eqb, ne_eqb, span}
use Rattle.vc_base.proofs.Lists.{length-part}
use Rattle.vc_seg.specs.Segment.{Bytes}
use Rattle.vc_extent.specs.Extent.{Extent, busy_extent, extents, free_extent, no_links}
use Rattle.vc_extent.specs.Change.{Changes, IsExtentAt, behind, extent_in, first_of, stretch}
use Rattle.vc_seg.specs.Field.{field_at}
use Rattle.vc_seg.specs.Frame.{StaysBelow}
use Rattle.vc_extent.specs.Stretch.{IsStretched}
use Rattle.vc_extent.specs.Tiles.{Tiles}
use Rattle.vc_seg.proofs.Frames.{lower, part-front, then-below}
use Rattle.vc_extent.proofs.Changed.{IsWithin, changed, renamed, within}

module _ (o a n : Bytes) (at first second size tag : ℕ) (body : List ℕ) (e : Extent) (off : e.off ≡ at + 16) (whole : first ≡ e.span) (tagged : tag ≡ e.tag) (boundary : field_at (at + 12) a.bytes ≡ field_at (at + 12) o.bytes) where
  -- the free extent is used up
  pub used-tiles : (es : List Extent) → IsSome (first_of es) → IfSome (first_of es) (λ (g : Extent). second ≡ g.span) → span size ≡ first + second → Tiles o.bytes (length o.bytes - 16) e.span (at + e.span) es →
      ((p : ℕ) (xs : List Extent) → Tiles o.bytes (length o.bytes - 16) p (at + (first + second)) xs → Tiles a.bytes (length a.bytes - 16) (first + second) (at + (first + second)) xs) →
      ((xs : List Extent) → Tiles a.bytes (length a.bytes - 16) (first + second) (at + (first + second)) xs → Tiles n.bytes (length n.bytes - 16) (field_at (at + 12) a.bytes) at (busy_extent (at + 16) (first + second) size tag body ∷ xs)) →
      Tiles n.bytes (length n.bytes - 16) (field_at (at + 12) o.bytes) at (stretch size body e es)
  used-tiles [] some next bytes t one two = absurd (cc)
  used-tiles (g ∷ es) some next bytes t one two =
      let place : at + e.span + g.span ≡ at + (first + second) = omega arith in
      let old : Tiles o.bytes (length o.bytes - 16) g.span (at + (first + second)) es = subst (λ (k : ℕ). Tiles o.bytes (length o.bytes - 16) g.span k es) place t.1 in
      let made = two es (one g.span es old) in
      let same : eqb (e.span + g.span) (span size) ≡ true = eq-eqb (e.span + g.span) (span size) (omega arith) in
      rw (same, ← boundary)
      (subst (Tiles n.bytes (length n.bytes - 16) (field_at (at + 12) a.bytes) at) (λ i. busy_extent (sym off i) (sym bytes i) size (tagged i) body ∷ es) made)

  -- the free extent keeps its rest
  pub rest-tiles : (es : List Extent) → IsSome (first_of es) → IfSome (first_of es) (λ (g : Extent). second ≡ g.span) → span size ≢ first + second → Tiles o.bytes (length o.bytes - 16) e.span (at + e.span) es →
      ((p : ℕ) (xs : List Extent) → Tiles o.bytes (length o.bytes - 16) p (at + (first + second)) xs → Tiles a.bytes (length a.bytes - 16) (span size) (at + span size) (free_extent (at + 16 + span size) (first + second - span size) no_links ∷ xs)) →
      ((xs : List Extent) → Tiles a.bytes (length a.bytes - 16) (span size) (at + span size) xs → Tiles n.bytes (length n.bytes - 16) (field_at (at + 12) a.bytes) at (busy_extent (at + 16) (span size) size tag body ∷ xs)) →
      Tiles n.bytes (length n.bytes - 16) (field_at (at + 12) o.bytes) at (stretch size body e es)
  rest-tiles [] some next bytes t one two = absurd (cc)
  rest-tiles (g ∷ es) some next bytes t one two =
      let place : at + e.span + g.span ≡ at + (first + second) = omega arith in
      let sum : first + second ≡ e.span + g.span = omega arith in
      let old : Tiles o.bytes (length o.bytes - 16) g.span (at + (first + second)) es = subst (λ (k : ℕ). Tiles o.bytes (length o.bytes - 16) g.span k es) place t.1 in
      let made = two (free_extent (at + 16 + span size) (first + second - span size) no_links ∷ es) (one g.span es old) in
      let apart : eqb (e.span + g.span) (span size) ≡ false = ne_eqb (e.span + g.span) (span size) (λ q. bytes (sym q ∙ sym sum)) in
      rw (apart, ← boundary)
      (subst (Tiles n.bytes (length n.bytes - 16) (field_at (at + 12) a.bytes) at) (λ i. busy_extent (sym off i) (span size) size (tagged i) body ∷ free_extent (sym off i + span size) (sum i - span size) no_links ∷ es) made)

stretch-head : (size : ℕ) (body : List ℕ) (e : Extent) (es : List Extent) → IsSome (first_of es) → (ys : List Extent) × (stretch size body e es ≡ busy_extent e.off (span size) size e.tag body ∷ ys)
stretch-head size body e [] some = absurd (cc)
stretch-head size body e (g ∷ es) some = (cond (eqb (e.span + g.span) (span size)) es (free_extent (e.off + span size) (e.span + g.span - span size) no_links ∷ es), refl)

pub stretched : (o a n : Bytes) (at size : ℕ) → IsExtentAt o.bytes at → 0 < (extent_in (at + 16) (extents o.bytes)).size → IsSome (first_of (behind (at + 16) (extents o.bytes))) →
    (extent_in (at + 16) (extents o.bytes)).span < span size → at + span size + 16 ≤ length o.bytes → StaysBelow (at + span size) o a → StaysBelow at a n →
    Tiles n.bytes (length n.bytes - 16) (field_at (at + 12) o.bytes) at (stretch size (take size (drop (at + 16) a.bytes)) (extent_in (at + 16) (extents o.bytes)) (behind (at + 16) (extents o.bytes))) → IsStretched o n at size
stretched o a n at size there busy some above fits s u made =
    let e : Extent = extent_in (at + 16) (extents o.bytes) in
    let es : List Extent = behind (at + 16) (extents o.bytes) in
    let body : List ℕ = take size (drop (at + 16) a.bytes) in
    let w : IsWithin o.bytes at e = within there in
    let old = w.fits in
    let end = w.end in
    let spans = w.legal.busy busy in
    let ch : Changes (at + 16) (stretch size (take size (drop (at + 16) a.bytes))) o n = changed o n at (stretch size (take size (drop (at + 16) a.bytes))) there (then-below at o a n (lower (at + span size) at o a s (omega arith)) u) made in
    let head = stretch-head size (take size (drop (at + 16) a.bytes)) e es some in
    let is : (extent_in (at + 16) (extents n.bytes)).body ≡ take size (drop (at + 16) a.bytes) =
    ap (λ (x : Extent). x.body) (renamed o n at (stretch size (take size (drop (at + 16) a.bytes))) (busy_extent e.off (span size) size e.tag (take size (drop (at + 16) a.bytes))) head.0 there ch head.1 w.off) in
    record {
      change = subst (λ (b : List ℕ). Changes (at + 16) (stretch size b) o n) (sym is) ch;
      len = ap length is ∙ length-part a.bytes (at + 16) size (omega (arith, s.len));
      kept =
          ap (take e.size) is
          ∙ (take-take e.size size (drop (at + 16) a.bytes) (omega arith) ∙ (part-front o.bytes a.bytes (at + span size) s.below (at + 16) e.size (omega arith) ∙ sym w.body));
    }

pub fits-behind : (es : List Extent) (len at first second : ℕ) (e : Extent) (bytes : ℕ) → first ≡ e.span → IsSome (first_of es) → IfSome (first_of es) (λ (g : Extent). second ≡ g.span) → IfSome (first_of es) (λ (g : Extent). bytes ≤ e.span + g.span) → at + first + second + 16 ≤ len → at + bytes + 16 ≤ len
fits-behind [] len at first second e bytes is some next fits end = absurd (cc)
fits-behind (g ∷ es) len at first second e bytes is some next fits end = omega arith
