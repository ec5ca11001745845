-- One extent of a segment changes, and those before it stay.
use Rattle.vc_base.proofs.Common.{◌≡◌, ℕ, ◌+◌, ◌-◌, ◌*◌, ◌%◌, ◌^◌, ◌<◌, ◌≤◌, true, false, eqb, List, [], ◌∷◌, length, take, drop, IfSome, IsSome, sym, refl, ap, ◌∙◌, subst, ⊎_elim, arith, eq-eqb, eqb-true, cases_Bool, IsSegmentSize}
use Rattle.vc_seg.specs.Segment.{Bytes}
use Rattle.vc_seg.specs.Field.{field_at}
use Rattle.vc_extent.specs.Extent.{Extent, extent_at, extents}
use Rattle.vc_extent.specs.Tiles.{IsLegal, Tiles}
use Rattle.vc_extent.specs.Change.{Changes, IsExtentAt, behind, change_at, extent_in, first_of}
use Rattle.vc_seg.specs.Frame.{StaysBelow}
use Rattle.vc_extent.proofs.Tiled.{IsPart, part, extents-are, head-front, named-above, off-at, span-at, size-at, tag-at, body-at, inside, tiles-le}

pub tiles-changed : (o n : List ℕ) (stop p from at : ℕ) (change : Extent → List Extent → List Extent) (es : List Extent) → take at n ≡ take at o → Tiles o stop p from es → 0 < (extent_in (at + 16) es).span →
    Tiles n stop (field_at (at + 12) o) at (change (extent_in (at + 16) es) (behind (at + 16) es)) → Tiles n stop p from (change_at (at + 16) change es)
tiles-changed o n stop p from at change [] same h named made = absurd (omega arith)
tiles-changed o n stop p from at change (e ∷ es) same h named made =
    let o' : e.off ≡ from + 16 = ap (λ (x : Extent). x.off) h.0.extent ∙ off-at from o in
    ⊎_elim
    (λ (t : eqb e.off (at + 16) ≡ true).
    let z : e.off ≡ at + 16 = eqb-true e.off (at + 16) t in
    let place : at ≡ from = omega arith in
    let here : Tiles n stop (field_at (at + 12) o) at (change e es) = rw t at made in
    let there : Tiles n stop (field_at (from + 12) o) from (change e es) = subst (λ (k : ℕ). Tiles n stop (field_at (k + 12) o) k (change e es)) place here in
    rw t (subst (λ (q : ℕ). Tiles n stop q from (change e es)) h.0.boundary there))
    (λ (t : eqb e.off (at + 16) ≡ false).
    let named' : 0 < (extent_in (at + 16) es).span = rw t at named in
    let above = named-above o stop e.span (from + e.span) (at + 16) es h.1 named' in
    rw t (head-front o n at same p from e h.0 (omega arith), tiles-changed o n stop e.span (from + e.span) at change es same h.1 named' (rw t at made)))
    (cases_Bool (eqb e.off (at + 16)))

-- a named extent of a tiled segment lies in it
pub record IsWithin (b : List ℕ) (at : ℕ) (e : Extent) : Type 0 where
  pub off : e.off ≡ at + 16
  pub span : e.span ≡ field_at at b
  pub size : e.size ≡ field_at (at + 4) b
  pub tag : e.tag ≡ field_at (at + 8) b
  pub body : e.body ≡ take e.size (drop (at + 16) b)
  pub start : 16 ≤ at
  pub end : at + e.span + 16 ≤ length b
  pub most : length b ≤ 33554432
  pub legal : IsLegal e
  pub fits : e.size + 16 ≤ e.span

-- its head, a link and a range of its bytes lie in the segment, and their places are numbers of 32 bits
module _ {b : List ℕ} {at : ℕ} (there : IsExtentAt b at) where
  pub here : IsPart b (length b - 16) at (extents b)
  here = part b (length b - 16) 0 16 at (extents b) there.tiled.tiles there.named

  pub within : IsWithin b at (extent_in (at + 16) (extents b))
  within =
      let e : Extent = extent_in (at + 16) (extents b) in
      let same : e ≡ extent_at at b = here.head.extent in
      let start = named-above b (length b - 16) 0 16 (at + 16) (extents b) there.tiled.tiles there.named in
      let end = tiles-le b (length b - 16) e.span (at + e.span) (behind (at + 16) (extents b)) here.rest in
      let size : IsSegmentSize (length b) = there.tiled.size in
      record {
        off = ap (λ (x : Extent). x.off) same ∙ off-at at b;
        span = ap (λ (x : Extent). x.span) same ∙ span-at at b;
        size = ap (λ (x : Extent). x.size) same ∙ size-at at b;
        tag = ap (λ (x : Extent). x.tag) same ∙ tag-at at b;
        body = ap (λ (x : Extent). x.body) same ∙ (body-at at b ∙ ap (λ (x : Extent). take x.size (drop (at + 16) b)) (sym same));
        start = omega arith;
        end = omega (arith, size.least);
        most = size.most;
        legal = here.head.legal;
        fits = inside e here.head.legal;
      }

  pub head-below : at + 16 < 2 ^ 32
  head-below = omega (arith, within.end, within.most)

  pub head-room : at + 48 ≤ length b
  head-room = omega (arith, within.end, within.legal.least)

  pub link-below : (k : ℕ) → k < 3 → at + 16 + 4 * k < 2 ^ 32
  link-below k few = omega (arith, few, head-room, within.most)

  pub range-room : (off n : ℕ) → off + n ≤ (extent_in (at + 16) (extents b)).size → at + 16 + off + n ≤ length b
  range-room off n inner = omega (arith, inner, within.end, within.fits)

  pub range-below : (off n : ℕ) → off + n ≤ (extent_in (at + 16) (extents b)).size → at + 16 + off < 2 ^ 32
  range-below off n inner = omega (arith, range-room off n inner, within.most)

pub ruleset room_steps = (head-below, head-room, link-below)

-- what tiles the segment behind an extent whose span is known, and what an extent is by its name and its span
module _ {b : List ℕ} {at bytes : ℕ} (there : IsExtentAt b at) (is : bytes ≡ (extent_in (at + 16) (extents b)).span) where
  pub rest-tiles : Tiles b (length b - 16) bytes (at + bytes) (behind (at + 16) (extents b))
  rest-tiles = subst (λ (k : ℕ). Tiles b (length b - 16) k (at + k) (behind (at + 16) (extents b))) (sym is) (here there).rest

  pub own-tiles : (n : List ℕ) (stop before : ℕ) (list : ℕ → ℕ → List Extent) → Tiles n stop before at (list (at + 16) bytes) → Tiles n stop before at (list (extent_in (at + 16) (extents b)).off (extent_in (at + 16) (extents b)).span)
  own-tiles n stop before list t =
      subst (λ (k : ℕ). Tiles n stop before at (list k (extent_in (at + 16) (extents b)).span)) (sym (within there).off)
      (subst (λ (k : ℕ). Tiles n stop before at (list (at + 16) k)) is t)

-- a tiled segment whose bytes below an extent stay, and which is tiled from there on
pub changed : (o n : Bytes) (at : ℕ) (change : Extent → List Extent → List Extent) → IsExtentAt o.bytes at → StaysBelow at o n →
    Tiles n.bytes (length n.bytes - 16) (field_at (at + 12) o.bytes) at (change (extent_in (at + 16) (extents o.bytes)) (behind (at + 16) (extents o.bytes))) → Changes (at + 16) change o n
changed o n at change there s made =
    let es : List Extent = extents o.bytes in
    let old : Tiles o.bytes (length n.bytes - 16) 0 16 es = subst (λ (k : ℕ). Tiles o.bytes (k - 16) 0 16 es) (sym s.len) there.tiled.tiles in
    let tiles : Tiles n.bytes (length n.bytes - 16) 0 16 (change_at (at + 16) change es) = tiles-changed o.bytes n.bytes (length n.bytes - 16) 0 16 at change es s.below old there.named made in
    let are : extents n.bytes ≡ change_at (at + 16) change es = extents-are n.bytes (change_at (at + 16) change es) tiles in
    record {
      number = s.number;
      len = s.len;
      tiled = record { size = subst IsSegmentSize (sym s.len) there.tiled.size; tiles = subst (Tiles n.bytes (length n.bytes - 16) 0 16) (sym are) tiles };
      extents = are;
    }

-- the extent that the change begins with is named as before
pub named-changed : (off : ℕ) (change : Extent → List Extent → List Extent) (es ys : List Extent) (x : Extent) → 0 < (extent_in off es).span → x.off ≡ off → change (extent_in off es) (behind off es) ≡ x ∷ ys → extent_in off (change_at off change es) ≡ x
named-changed off change [] ys x named same e = absurd (omega arith)
named-changed off change (d ∷ ds) ys x named same e =
    ⊎_elim
    (λ (t : eqb d.off off ≡ true).
    let made : change d ds ≡ x ∷ ys = rw t at e in
    rw (t, made, eq-eqb x.off off same) refl)
    (λ (t : eqb d.off off ≡ false).
    rw (t, t) (named-changed off change ds ys x (rw t at named) same (rw t at e)))
    (cases_Bool (eqb d.off off))

-- what the extent that tiles from a place on is, where there is one
pub behind-span : (b : List ℕ) (stop p at r : ℕ) (es : List Extent) → Tiles b stop p at es → r ≡ field_at at b → IfSome (first_of es) (λ (e : Extent). r ≡ e.span)
behind-span b stop p at r [] t e = tt
behind-span b stop p at r (g ∷ es) t e = e ∙ sym (ap (λ (x : Extent). x.span) t.0.extent ∙ span-at at b)

pub record IsNext (b : List ℕ) (at bytes : ℕ) : Type 0 where
  pub end : at + bytes + 16 ≤ length b
  pub least : 32 ≤ bytes
  pub multiple : bytes % 32 ≡ 0

pub behind-within : (b : List ℕ) (p at r : ℕ) (es : List Extent) → 16 ≤ length b → Tiles b (length b - 16) p at es → IsSome (first_of es) → r ≡ field_at at b → IsNext b at r
behind-within b p at r [] size t some e = absurd (cc)
behind-within b p at r (g ∷ es) size t some e =
    let end = tiles-le b (length b - 16) g.span (at + g.span) es t.1 in
    let s : r ≡ g.span = behind-span b (length b - 16) p at r (g ∷ es) t e in
    let legal = t.0.legal in
    let least = legal.least in
    record { end = omega arith; least = omega arith; multiple = rw s legal.multiple }

-- the extent that was changed, in the segment after the change
pub renamed : (o n : Bytes) (at : ℕ) (change : Extent → List Extent → List Extent) (x : Extent) (ys : List Extent) → IsExtentAt o.bytes at → Changes (at + 16) change o n →
    change (extent_in (at + 16) (extents o.bytes)) (behind (at + 16) (extents o.bytes)) ≡ x ∷ ys → x.off ≡ at + 16 → extent_in (at + 16) (extents n.bytes) ≡ x
renamed o n at change x ys there ch e off = ap (extent_in (at + 16)) ch.extents ∙ named-changed (at + 16) change (extents o.bytes) ys x there.named off e
