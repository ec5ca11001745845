-- Where an extent lies in the bytes of an image.
use Rattle.std.specs.Prelude.{◌≡◌, ℕ, ◌+◌, ◌-◌, ◌*◌, ◌/◌, ◌%◌, ◌<◌, ◌≤◌, min, true, nat_lt, ◌==◌, ◌&&◌, List, [], ◌∷◌, All, length, get_or, take, drop, refl}
use Rattle.vc_base.proofs.Common.{sym, ap, ◌∙◌, subst, arith, inl, inr, true≢false, eq-eqb, ne_eqb, cases_eq, cases_lt, lt-ltb, le-ltb, All-head, All-tail, length-take, length-drop, drop-take, drop-drop, take-take, from_le_bytes, w32, ℕ_set, le_prop, ∥∥₁_elim}
use Rattle.std.proofs.lemmas.List.Sums.{sum_by-cons}
use Rattle.vc_seg.specs.Budget.{bytes_of}
use Rattle.vc_seg.specs.Field.{field_at}
use Rattle.vc_seg.specs.Memory.{bytes_of_number}
use Rattle.vc_seg.specs.Numbered.{IsRegionPair}
use Rattle.vc_seg.specs.Segment.{Bytes}
use Rattle.vc_extent.specs.Change.{behind, extent_in}
use Rattle.vc_extent.specs.Extent.{Extent, Links, extent_at, extents, links_at}
use Rattle.vc_extent.specs.Tiles.{IsLegal, IsTiled}
use Rattle.vc_extent.specs.Tiling.{IsThere, extent_of, extents_of, tiling}
use Rattle.vc_extent.proofs.Places.{named-there, there-last}
use Rattle.vc_extent.proofs.Tiled.{IsPart, named-above, part, size-at, span-at, tiles-le}
use Rattle.vc_gaps.specs.GapLaws.{is_free-named, is_free-size}
use Rattle.vc_gaps.specs.GapStore.{is_free}
use Rattle.vc_image_check.specs.Bytes.Contents.{contents_of_image, image_segment_count, pairs_in}
use Rattle.vc_image_check.specs.Bytes.Header.{IsHeader}
use Rattle.vc_image_check.specs.Laws.Segs.{segs-count, segs-many}
use Rattle.vc_image_check.specs.Marks.Mark.{mark_of, start_of}
use Rattle.vc_image_check.specs.Gaps.Known.{IsKnown, known-segments}

-- the bytes of a segment by its number
extents-bytes : (n : ℕ) (ss : List Bytes) → IsThere n ss → extents_of n (tiling ss) ≡ extents (bytes_of_number n ss)
extents-bytes n [] h = absurd (true≢false (sym h))
extents-bytes n (s ∷ ss) h = elim (cases_eq s.number n) as (λ _. extents_of n (tiling (s ∷ ss)) ≡ extents (bytes_of_number n (s ∷ ss))) [
  | inl same ↦ rw (eq-eqb s.number n same) refl
  | inr other ↦ rw (ne_eqb s.number n other) (extents-bytes n ss (rw (ne_eqb s.number n other) at h))
]

tiled-bytes : (n : ℕ) (ss : List Bytes) → All (λ s. IsTiled s.bytes) ss → IsThere n ss → IsTiled (bytes_of_number n ss)
tiled-bytes n [] t h = absurd (true≢false (sym h))
tiled-bytes n (s ∷ ss) t h = elim (cases_eq s.number n) as (λ _. IsTiled (bytes_of_number n (s ∷ ss))) [
  | inl same ↦ rw (eq-eqb s.number n same) (All-head (λ (s : Bytes). IsTiled s.bytes) s ss t)
  | inr other ↦ rw (ne_eqb s.number n other) (tiled-bytes n ss (All-tail (λ (s : Bytes). IsTiled s.bytes) s ss t) (rw (ne_eqb s.number n other) at h))
]

-- a part of a part of bytes, and a number there
pub part-in : (b bs : List ℕ) (p i n : ℕ) → take (length bs) (drop p b) ≡ bs → i + n ≤ length bs → take n (drop i bs) ≡ take n (drop (p + i) b)
part-in b bs p i n e h =
    sym (drop-take i n bs) ∙ ap (λ z. drop i (take (i + n) z)) (sym e) ∙ ap (drop i) (take-take (i + n) (length bs) (drop p b) h)
    ∙ drop-take i n (drop p b) ∙ ap (take n) (drop-drop i p b)

pub field-in : (b bs : List ℕ) (p i : ℕ) → take (length bs) (drop p b) ≡ bs → i + 4 ≤ length bs → field_at i bs ≡ field_at (p + i) b
unfolding field_at
field-in b bs p i e h = ap (from_le_bytes w32) (part-in b bs p i 4 e h)

links-are : (at : ℕ) (b : List ℕ) → field_at (at + 4) b ≡ 0 → (extent_at at b).links ≡ links_at (at + 16) b
unfolding extent_at
links-are at b z = rw z refl

-- an image is short of 2^36 bytes
most-bytes : (ps : List (ℕ × ℕ)) → All IsRegionPair ps → bytes_of ps ≤ 33554432 * length ps
most-bytes [] h = omega arith
most-bytes (p ∷ ps) h =
    let c : bytes_of (p ∷ ps) ≡ p.1 + bytes_of ps = sum_by-cons (λ (s : ℕ × ℕ). s.1) p ps in
    let one = (All-head IsRegionPair p ps h).size.most in
    let r = most-bytes ps (All-tail IsRegionPair p ps h) in
    omega (arith, c, one, r)

image-small : (b : List ℕ) → IsHeader b → length b ≤ 68719476736
image-small b h =
    let many : length (pairs_in b) ≡ image_segment_count b = sym (segs-many b h) ∙ segs-count b h in
    let few = h.segments.few in
    let dicts = h.dicts in
    let size = h.size in
    let most = most-bytes (pairs_in b) h.segments.legal in
    omega (arith, many, few, dicts, size, most)

-- an extent that an address names lies from a place of its segment on, whose bytes lie from a place of the image on
pub record LiesIn (image places : List ℕ) (a : ℕ) (e : Extent) : Type 0 where
  pub bytes : List ℕ
  pub at : ℕ
  pub first : ℕ
  pub number : a / 1048576 ≤ 1023
  pub is : e ≡ extent_at at bytes
  pub legal : IsLegal e
  pub end : at + e.span + 16 ≤ length bytes
  pub most : length bytes ≤ 33554432
  pub start : start_of places a ≡ first + (at + 16)
  pub whole : first + length bytes ≤ length image
  pub part : take (length bytes) (drop first image) ≡ bytes
  pub small : length image ≤ 68719476736

pub lies-in : (image places : List ℕ) → IsHeader image → All (λ s. IsTiled s.bytes) (contents_of_image image).segs
    → ((n : ℕ) → IsThere n (contents_of_image image).segs → take (length (bytes_of_number n (contents_of_image image).segs)) (drop (get_or places n 0) image) ≡ bytes_of_number n (contents_of_image image).segs)
    → (a : ℕ) → 0 < (extent_of (tiling (contents_of_image image).segs) a).span → LiesIn image places a (extent_of (tiling (contents_of_image image).segs) a)
lies-in image places head each parts a named =
    let segs : List Bytes = (contents_of_image image).segs in
    let n : ℕ = a / 1048576 in
    let o : ℕ = a % 1048576 * 32 in
    let bs : List ℕ = bytes_of_number n segs in
    let p : ℕ = get_or places n 0 in
    let e : Extent = extent_of (tiling segs) a in
    let there : IsThere n segs = named-there n o segs named in
    let same : extents_of n (tiling segs) ≡ extents bs = extents-bytes n segs there in
    let tiled : IsTiled bs = tiled-bytes n segs each there in
    let here : e ≡ extent_in o (extents bs) = ap (extent_in o) same in
    let low : 32 ≤ o = named-above bs (length bs - 16) 0 16 o (extents bs) tiled.tiles (subst (λ (x : Extent). 0 < x.span) here named) in
    let at : ℕ = o - 16 in
    let off : o ≡ at + 16 = omega (arith, low) in
    let found : e ≡ extent_in (at + 16) (extents bs) = here ∙ ap (λ z. extent_in z (extents bs)) off in
    let h : IsPart bs (length bs - 16) at (extents bs) = part bs (length bs - 16) 0 16 at (extents bs) tiled.tiles (subst (λ (x : Extent). 0 < x.span) found named) in
    let legal : IsLegal e = subst IsLegal (sym found) h.head.legal in
    let least = legal.least in
    let end : at + (extent_in (at + 16) (extents bs)).span ≤ length bs - 16 = tiles-le bs (length bs - 16) (extent_in (at + 16) (extents bs)).span (at + (extent_in (at + 16) (extents bs)).span) (behind (at + 16) (extents bs)) h.rest in
    let end' : at + e.span ≤ length bs - 16 = subst (λ (x : Extent). at + x.span ≤ length bs - 16) (sym found) end in
    let bytes : take (length bs) (drop p image) ≡ bs = parts n there in
    let long : length bs ≡ min (length bs) (length (drop p image)) = ap length (sym bytes) ∙ length-take (length bs) (drop p image) in
    let back : length (drop p image) ≡ length image - p = length-drop p image in
    let size = tiled.size.least in
    record {
      bytes = bs;
      at = at;
      first = p;
      number = there-last n segs (known-segments image head).legal there;
      is = found ∙ h.head.extent;
      legal = legal;
      end = omega (arith, end', least);
      most = tiled.size.most;
      start = omega (arith, off);
      whole = omega (arith, long, back, size);
      part = bytes;
      small = image-small image head;
    }

pub record Lies (image places : List ℕ) (a : ℕ) (e : Extent) : Type 0 where
  pub number : a / 1048576 ≤ 1023
  pub low : 16 ≤ start_of places a
  pub within : start_of places a + 16 ≤ length image
  pub small : length image ≤ 68719476736
  pub span : field_at (start_of places a - 16) image ≡ e.span
  pub most : e.span ≤ 33554432
  pub first : field_at (start_of places a) image ≡ e.links.first
  pub second : field_at (start_of places a + 4) image ≡ e.links.second
  pub third : field_at (start_of places a + 8) image ≡ e.links.third

lies-prop : (image places : List ℕ) (a : ℕ) (e : Extent) → IsProp (Lies image places a e)
lies-prop image places a e = hlevel (le_prop, ℕ_set)

there : (image : List ℕ) (rows : List (List ℕ)) (places : List ℕ) (k : IsKnown image rows places) (a : ℕ) → is_free (tiling (contents_of_image image).segs) a ≡ true → Lies image places a (extent_of (tiling (contents_of_image image).segs) a)
there image rows places k a free =
    let segs : List Bytes = (contents_of_image image).segs in
    let e : Extent = extent_of (tiling segs) a in
    let l : LiesIn image places a e = lies-in image places k.head k.tiled k.marked.bytes a (is_free-named (tiling segs) a free) in
    let empty : e.size ≡ 0 = is_free-size (tiling segs) a free in
    let at : ℕ = l.at in
    let p : ℕ = l.first in
    let bs : List ℕ = l.bytes in
    let links : e.links ≡ links_at (at + 16) bs = ap (λ (x : Extent). x.links) l.is ∙ links-are at bs (sym (size-at at bs) ∙ ap (λ (x : Extent). x.size) (sym l.is) ∙ empty) in
    let span : e.span ≡ field_at at bs = ap (λ (x : Extent). x.span) l.is ∙ span-at at bs in
    let field : (i : ℕ) → i + 4 ≤ length bs → field_at i bs ≡ field_at (p + i) image = λ i h. field-in image bs p i l.part h in
    let start = l.start in
    let end = l.end in
    let least = l.legal.least in
    let whole = l.whole in
    let most = l.most in
    let s4 : start_of places a + 4 ≡ p + (at + 16 + 4) = omega (arith, start) in
    let s8 : start_of places a + 8 ≡ p + (at + 16 + 8) = omega (arith, start) in
    let s0 : start_of places a - 16 ≡ p + at = omega (arith, start) in
    record {
      number = l.number;
      low = omega (arith, start);
      within = omega (arith, start, end, least, whole);
      small = l.small;
      span = ap (λ z. field_at z image) s0 ∙ sym (field at (omega (arith, end, least))) ∙ sym span;
      most = omega (arith, end, most);
      first = ap (λ z. field_at z image) start ∙ sym (field (at + 16) (omega (arith, end, least))) ∙ sym (ap (λ (l : Links). l.first) links);
      second = ap (λ z. field_at z image) s4 ∙ sym (field (at + 16 + 4) (omega (arith, end, least))) ∙ sym (ap (λ (l : Links). l.second) links);
      third = ap (λ z. field_at z image) s8 ∙ sym (field (at + 16 + 8) (omega (arith, end, least))) ∙ sym (ap (λ (l : Links). l.third) links);
    }

pub lies : (image : List ℕ) (rows : List (List ℕ)) (places : List ℕ) → ∥ IsKnown image rows places ∥₁ → (a : ℕ) → is_free (tiling (contents_of_image image).segs) a ≡ true → Lies image places a (extent_of (tiling (contents_of_image image).segs) a)
lies image rows places known a free =
    ∥∥₁_elim known (lies-prop image places a (extent_of (tiling (contents_of_image image).segs) a)) (λ k. there image rows places k a free)

-- the mark of a free extent is 1
pub mark-free : (e : Extent) → (mark_of e == 1) ≡ (nat_lt 0 e.span && (e.size == 0))
mark-free e = elim (cases_lt 0 e.span) as (λ _. (mark_of e == 1) ≡ (nat_lt 0 e.span && (e.size == 0))) [
  | inr none ↦ rw (eq-eqb e.span 0 (omega (arith, none)), le-ltb 0 e.span none) refl
  | inl some ↦ elim (cases_eq e.size 0) as (λ _. (mark_of e == 1) ≡ (nat_lt 0 e.span && (e.size == 0))) [
    | inl z ↦ rw (ne_eqb e.span 0 (λ q. omega (arith, q, some)), lt-ltb 0 e.span some, eq-eqb e.size 0 z) refl
    | inr ne ↦ elim (cases_eq e.tag 0) as (λ _. (mark_of e == 1) ≡ (nat_lt 0 e.span && (e.size == 0))) [
      | inl t ↦ rw (ne_eqb e.span 0 (λ q. omega (arith, q, some)), lt-ltb 0 e.span some, ne_eqb e.size 0 ne, eq-eqb e.tag 0 t) refl
      | inr t ↦ rw (ne_eqb e.span 0 (λ q. omega (arith, q, some)), lt-ltb 0 e.span some, ne_eqb e.size 0 ne, ne_eqb e.tag 0 t) refl
    ]
  ]
]

pub root-is : (b : List ℕ) → (contents_of_image b).root ≡ field_at 12 b
unfolding contents_of_image
root-is b = refl
