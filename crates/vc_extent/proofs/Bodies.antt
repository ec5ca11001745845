-- Bytes written into a busy extent, and a link into a free one.
use Rattle.vc_base.proofs.Common.{◌≡◌, ℕ, zero, suc, ◌+◌, ◌-◌, ◌*◌, ◌<◌, ◌≤◌, cond, List, [], ◌∷◌, ◌++◌, length, take, drop, sym, ap, ◌∙◌, subst, arith, eq-eqb, with_bytes}
use Rattle.vc_base.proofs.Overwrites.{part-written}
use Rattle.vc_seg.specs.Segment.{Bytes}
use Rattle.vc_extent.specs.Extent.{Extent, busy_extent, extent_at, extents, free_extent, links_at, no_links}
use Rattle.vc_extent.specs.Change.{Changes, IsExtentAt, behind, extent_in, link_in, set_link, with_link, write}
use Rattle.vc_seg.specs.Field.{field_at}
use Rattle.vc_seg.specs.Frame.{StaysOutside}
use Rattle.vc_extent.specs.Tiles.{Tiles}
use Rattle.vc_seg.proofs.Frames.{field-back, field-front, only-below, stays-written}
use Rattle.vc_extent.proofs.Tiled.{busy-is, free-is, legal-free, tiles-back}
use Rattle.vc_extent.proofs.Changed.{IsWithin, changed, here, within}

take-past : (n k : ℕ) (xs ys : List ℕ) → n ≡ length xs + k → take n (xs ++ ys) ≡ xs ++ take k ys
take-past n k [] ys e = ap (λ j. take j ys) (omega arith)
take-past zero k (x ∷ xs) ys e = absurd (omega arith)
take-past (suc n) k (x ∷ xs) ys e = ap (λ (zs : List ℕ). x ∷ zs) (take-past n k xs ys (omega arith))

-- a segment after a write into a busy extent
pub body-changed : (o n : Bytes) (at off : ℕ) (src : List ℕ) → IsExtentAt o.bytes at → 0 < (extent_in (at + 16) (extents o.bytes)).size → off + length src ≤ (extent_in (at + 16) (extents o.bytes)).size →
    n.bytes ≡ with_bytes (at + 16 + off) src o.bytes → n.number ≡ o.number → Changes (at + 16) (write off src) o n
body-changed o n at off src there busy inside bytes number =
    let e : Extent = extent_in (at + 16) (extents o.bytes) in
    let es : List Extent = behind (at + 16) (extents o.bytes) in
    let p = here there in
    let w : IsWithin o.bytes at e = within there in
    let end = w.end in
    let fits = w.fits in
    let s : StaysOutside (at + 16 + off) (at + 16 + off + length src) o n = stays-written o n (at + 16 + off) src (omega arith) bytes number in
    let f : (i : ℕ) → i + 4 ≤ at + 16 + off → field_at i n.bytes ≡ field_at i o.bytes = field-front o.bytes n.bytes (at + 16 + off) s.below in
    let body : take e.size (drop (at + 16) n.bytes) ≡ with_bytes off src e.body =
    ap (λ (b : List ℕ). take e.size (drop (at + 16) b)) bytes ∙ (part-written (at + 16) e.size off src o.bytes inside (omega arith) ∙ ap (with_bytes off src) (sym w.body)) in
    let is : busy_extent (at + 16) e.span e.size e.tag (with_bytes off src e.body) ≡ extent_at at n.bytes =
    busy-is n.bytes (with_bytes off src e.body) at e.span e.size e.tag (f at (omega arith) ∙ sym w.span) (f (at + 4) (omega arith) ∙ sym w.size) (f (at + 8) (omega arith) ∙ sym w.tag) (omega arith) body in
    let first : busy_extent e.off e.span e.size e.tag (with_bytes off src e.body) ≡ extent_at at n.bytes = ap (λ k. busy_extent k e.span e.size e.tag (with_bytes off src e.body)) w.off ∙ is in
    let legal = p.head.legal in
    let rest : Tiles n.bytes (length n.bytes - 16) e.span (at + e.span) es =
    subst (λ k. Tiles n.bytes (k - 16) e.span (at + e.span) es) (sym s.len) (tiles-back o.bytes n.bytes (at + 16 + off + length src) s.above (length o.bytes - 16) e.span (at + e.span) es (omega arith) p.rest) in
    changed o n at (write off src) there (only-below (at + 16 + off) (at + 16 + off + length src) at o n s (omega arith)) (
      record {
        extent = first;
        boundary = f (at + 12) (omega arith);
        legal = record { multiple = legal.multiple; least = legal.least; busy = legal.busy; free = legal.free };
      },
      rest,
    )

-- the links of a free extent
pub links-of : (at : ℕ) (b : List ℕ) → (extent_at at b).size ≡ 0 → (extent_at at b).links ≡ links_at (at + 16) b
unfolding extent_at
links-of at b z = ap (λ v. cond v (links_at (at + 16) b) no_links) (eq-eqb (field_at (at + 4) b) 0 z)

pub links-there : {b : List ℕ} {at : ℕ} → IsExtentAt b at → (extent_in (at + 16) (extents b)).size ≡ 0 → (extent_in (at + 16) (extents b)).links ≡ links_at (at + 16) b
links-there {b} {at} there free =
    let same : extent_in (at + 16) (extents b) ≡ extent_at at b = (here there).head.extent in
    ap (λ (x : Extent). x.links) same ∙ links-of at b (sym (ap (λ (x : Extent). x.size) same) ∙ free)

pub link-is : (b : List ℕ) (at k : ℕ) → k < 3 → field_at (at + 4 * k) b ≡ link_in k (links_at at b)
link-is b at zero lt = ap (λ j. field_at j b) (omega arith)
link-is b at (suc zero) lt = ap (λ j. field_at j b) (omega arith)
link-is b at (suc (suc zero)) lt = ap (λ j. field_at j b) (omega arith)
link-is b at (suc (suc (suc k))) lt = absurd (omega arith)

with-link-is : (o n : List ℕ) (at k v : ℕ) → k < 3 → field_at (at + 4 * k) n ≡ v → ((i : ℕ) → i + 4 ≤ at + 4 * k → field_at i n ≡ field_at i o) → ((i : ℕ) → at + 4 * k + 4 ≤ i → field_at i n ≡ field_at i o) → links_at at n ≡ with_link k v (links_at at o)
with-link-is o n at zero v lt value front back =
    let a : field_at at n ≡ v = ap (λ j. field_at j n) (omega arith) ∙ value in
    let b : field_at (at + 4) n ≡ field_at (at + 4) o = back (at + 4) (omega arith) in
    let c : field_at (at + 8) n ≡ field_at (at + 8) o = back (at + 8) (omega arith) in
    λ i. record { first = a i; second = b i; third = c i }
with-link-is o n at (suc zero) v lt value front back =
    let a : field_at at n ≡ field_at at o = front at (omega arith) in
    let b : field_at (at + 4) n ≡ v = ap (λ j. field_at j n) (omega arith) ∙ value in
    let c : field_at (at + 8) n ≡ field_at (at + 8) o = back (at + 8) (omega arith) in
    λ i. record { first = a i; second = b i; third = c i }
with-link-is o n at (suc (suc zero)) v lt value front back =
    let a : field_at at n ≡ field_at at o = front at (omega arith) in
    let b : field_at (at + 4) n ≡ field_at (at + 4) o = front (at + 4) (omega arith) in
    let c : field_at (at + 8) n ≡ v = ap (λ j. field_at j n) (omega arith) ∙ value in
    λ i. record { first = a i; second = b i; third = c i }
with-link-is o n at (suc (suc (suc k))) v lt value front back = absurd (omega arith)

-- a segment after a link of a free extent was written
pub link-changed : (o n : Bytes) (at k v : ℕ) → IsExtentAt o.bytes at → (extent_in (at + 16) (extents o.bytes)).size ≡ 0 → k < 3 →
    field_at (at + 16 + 4 * k) n.bytes ≡ v → StaysOutside (at + 16 + 4 * k) (at + 16 + 4 * k + 4) o n → Changes (at + 16) (set_link k v) o n
link-changed o n at k v there free lt value s =
    let e : Extent = extent_in (at + 16) (extents o.bytes) in
    let es : List Extent = behind (at + 16) (extents o.bytes) in
    let p = here there in
    let w : IsWithin o.bytes at e = within there in
    let end = w.end in
    let legal = p.head.legal in
    let least = legal.least in
    let f : (i : ℕ) → i + 4 ≤ at + 16 + 4 * k → field_at i n.bytes ≡ field_at i o.bytes = field-front o.bytes n.bytes (at + 16 + 4 * k) s.below in
    let g : (i : ℕ) → at + 16 + 4 * k + 4 ≤ i → field_at i n.bytes ≡ field_at i o.bytes = field-back o.bytes n.bytes (at + 16 + 4 * k + 4) s.above in
    let links : links_at (at + 16) n.bytes ≡ with_link k v e.links = with-link-is o.bytes n.bytes (at + 16) k v lt value f g ∙ ap (with_link k v) (sym (links-there there free)) in
    let is : free_extent (at + 16) e.span (with_link k v e.links) ≡ extent_at at n.bytes =
    free-is n.bytes at e.span (with_link k v e.links) (f at (omega arith) ∙ sym w.span) (f (at + 4) (omega arith) ∙ (sym w.size ∙ free)) (f (at + 8) (omega arith) ∙ (sym w.tag ∙ legal.free free)) links in
    let first : free_extent e.off e.span (with_link k v e.links) ≡ extent_at at n.bytes = ap (λ j. free_extent j e.span (with_link k v e.links)) w.off ∙ is in
    let rest : Tiles n.bytes (length n.bytes - 16) e.span (at + e.span) es =
    subst (λ j. Tiles n.bytes (j - 16) e.span (at + e.span) es) (sym s.len) (tiles-back o.bytes n.bytes (at + 16 + 4 * k + 4) s.above (length o.bytes - 16) e.span (at + e.span) es (omega arith) p.rest) in
    changed o n at (set_link k v) there (only-below (at + 16 + 4 * k) (at + 16 + 4 * k + 4) at o n s (omega arith))
    (record { extent = first; boundary = f (at + 12) (omega arith); legal = legal-free e.off e.span (with_link k v e.links) least legal.multiple }, rest)
