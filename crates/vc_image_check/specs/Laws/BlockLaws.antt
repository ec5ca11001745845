-- Where an unlabelled block lies in the bytes of an image.
use Rattle.std.specs.Prelude.{◌≡◌, ℕ, zero, suc, ◌+◌, ◌-◌, ◌/◌, ◌<◌, ◌≤◌, true, false, nat_lt, ◌==◌, ◌&&◌, if◌then◌else◌, List, [], ◌∷◌, All, Option, Some, None, length, get_or, take, drop}
use Rattle.vc_base.proofs.Common.{unwrap_or, sym, refl, ap, ◌∙◌, subst, arith, inl, inr, true≢false, eq-eqb, ne_eqb, eqb_tells, eqb-true, ltb-true, lt-ltb, le-ltb, and_parts, cases_lt, length-take, get_or-take, get_or-drop, same_Some, le_prop, ∥∥₁_elim, cases_Bool, ⊎_elim, Block, bytes_at, place_of, find_block}
use Rattle.std.proofs.lemmas.List.{get_or_past}
use Rattle.vc_base.proofs.Sets.{bytes-set}
use Rattle.vc_model.proofs.Owned.{found-has}
use Rattle.vc_seg.specs.Field.{field_at}
use Rattle.vc_seg.specs.Segment.{Bytes}
use Rattle.vc_extent.specs.Extent.{Extent}
use Rattle.vc_extent.specs.Tiles.{IsTiled}
use Rattle.vc_extent.specs.Tiling.{AreExtents, IsBusy, extent_of, index_from, tiling}
use Rattle.vc_extent.proofs.Tiled.{body-at, inside, size-at}
use Rattle.vc_best.specs.Blocks.{block_of, layout_by}
use Rattle.vc_best.specs.Cells.{cell_bytes, cells_of}
use Rattle.vc_best.proofs.CellBytes.{cell-bytes}
use Rattle.vc_best.proofs.Found.{busy-of, found-of}
use Rattle.vc_image_check.specs.Bytes.Contents.{contents_of_image}
use Rattle.vc_image_check.specs.Bytes.Header.{AreBytes, IsHeader}
use Rattle.vc_image_check.specs.Marks.Mark.{mark_at, mark_of, start_of}
use Rattle.vc_image_check.specs.Gaps.Known.{IsKnown, known-segments}
use Rattle.vc_image_check.specs.Laws.Lying.{LiesIn, field-in, lies-in, part-in}
use Rattle.vc_image_check.specs.Blocks.Blocks.{HasBlockMarks, image_blocks, is_cell}

-- what a function tells of so many numbers from one on
listed : (ℕ → ℕ) → ℕ → ℕ → List ℕ
listed f zero at = []
listed f (suc n) at = f at ∷ listed f n (at + 1)

length-listed : (f : ℕ → ℕ) (n at : ℕ) → length (listed f n at) ≡ n
unfolding listed
length-listed f zero at = refl
length-listed f (suc n) at = ap suc (length-listed f n (at + 1))

get-listed : (f : ℕ → ℕ) (n at k : ℕ) → k < n → get_or (listed f n at) k 0 ≡ f (at + k)
unfolding listed
get-listed f zero at k lt = absurd (omega (arith, lt))
get-listed f (suc n) at zero lt = ap f (omega arith)
get-listed f (suc n) at (suc k) lt = get-listed f n (at + 1) k (omega (arith, lt)) ∙ ap f (omega arith)

abbrev index_by : List Bytes → List ℕ
index_by segs = listed (λ n. index_from 0 n segs) 1024 0

are-extents : (image : List ℕ) → IsHeader image → All (λ s. IsTiled s.bytes) (contents_of_image image).segs → AreExtents (contents_of_image image).segs (index_by (contents_of_image image).segs)
are-extents image head tiled =
    let f : ℕ → ℕ = λ n. index_from 0 n (contents_of_image image).segs in
    record {
      segments = known-segments image head;
      tiled = tiled;
      numbers = length-listed f 1024 0;
      places = λ n lt. get-listed f 1024 0 n lt ∙ ap f (omega arith);
    }

-- the parts of an extent with an unlabelled block
pub record IsCellOf (e : Extent) : Type 0 where
  pub named : 0 < e.span
  pub busy : 0 < e.size
  pub plain : e.tag ≡ 0

cell-parts : (e : Extent) → is_cell e ≡ true → IsCellOf e
cell-parts e h =
    let p = and_parts (nat_lt 0 e.span) (nat_lt 0 e.size && (e.tag == 0)) h in
    let q = and_parts (nat_lt 0 e.size) (e.tag == 0) p.1 in
    record { named = ltb-true 0 e.span p.0; busy = ltb-true 0 e.size q.0; plain = eqb-true e.tag 0 q.1 }

cell-made : (e : Extent) → IsCellOf e → is_cell e ≡ true
cell-made e h = rw (lt-ltb 0 e.span h.named, lt-ltb 0 e.size h.busy, eq-eqb e.tag 0 h.plain) refl

-- the bytes of the unlabelled block at an address, and none where there is none
module _ (segs : List Bytes) (index : List ℕ) (a : ℕ) (k : ∥ AreExtents segs index ∥₁) where
  cell-there : is_cell (extent_of (tiling segs) a) ≡ true → bytes_at (cells_of (layout_by segs).blocks) a ≡ (extent_of (tiling segs) a).body
  cell-there h =
      let e : Extent = extent_of (tiling segs) a in
      let p = cell-parts e h in
      cell-bytes (layout_by segs).blocks a (block_of (place_of a).0 e)
      (record { found = found-of segs index a k (record { named = p.named; busy = p.busy }); plain = eq-eqb e.tag 0 p.plain })

  cell-none : is_cell (extent_of (tiling segs) a) ≡ false → bytes_at (cells_of (layout_by segs).blocks) a ≡ []
  cell-none h = by (find_block (place_of a) (layout_by segs).blocks) refl
    where
      by : (o : Option (Block ℕ)) → find_block (place_of a) (layout_by segs).blocks ≡ o → unwrap_or (cell_bytes o) [] ≡ []
      by None f = refl
      by (Some b) f =
          let e : Extent = extent_of (tiling segs) a in
          let busy : IsBusy (tiling segs) a = busy-of segs index a k (found-has a (layout_by segs).blocks b f) in
          let same : b ≡ block_of (place_of a).0 e = same_Some b (block_of (place_of a).0 e) (sym f ∙ found-of segs index a k busy) in
          let tag : b.label ≡ e.tag = ap (λ (x : Block ℕ). x.label) same in
          elim (eqb_tells b.label 0) as (λ _. unwrap_or (cell_bytes (Some b)) [] ≡ []) [
            | inl none ↦ absurd (true≢false (sym (cell-made e (record { named = busy.named; busy = busy.busy; plain = sym tag ∙ none.1 })) ∙ h))
            | inr other ↦ rw other.0 refl
          ]

-- at an address of a mark from 3 on a block lies: its size 12 bytes before its bytes
pub record LiesAt (image places : List ℕ) (a : ℕ) : Type 0 where
  pub number : a / 1048576 ≤ 1023
  pub low : 12 ≤ start_of places a
  pub within : start_of places a + field_at (start_of places a - 12) image ≤ length image
  pub small : length image ≤ 68719476736
  pub most : field_at (start_of places a - 12) image ≤ 33554432
  pub bytes : take (field_at (start_of places a - 12) image) (drop (start_of places a) image) ≡ bytes_at (image_blocks image) a

lies-prop : (image places : List ℕ) (a : ℕ) → IsProp (LiesAt image places a)
lies-prop image places a = hlevel (le_prop, bytes-set)

-- what marks tell
module _ (image : List ℕ) (rows : List (List ℕ)) (places : List ℕ) (a : ℕ) where
  there : HasBlockMarks image rows places → is_cell (extent_of (tiling (contents_of_image image).segs) a) ≡ true → LiesAt image places a
  there k cell =
      let e : Extent = extent_of (tiling (contents_of_image image).segs) a in
      let l : LiesIn image places a e = lies-in image places k.head k.tiled k.parts a (cell-parts e cell).named in
      let at : ℕ = l.at in
      let p : ℕ = l.first in
      let bs : List ℕ = l.bytes in
      let start = l.start in
      let end = l.end in
      let whole = l.whole in
      let most = l.most in
      let room = inside e l.legal in
      let back : start_of places a - 12 ≡ p + (at + 4) = omega (arith, start) in
      let size : field_at (start_of places a - 12) image ≡ e.size =
      ap (λ z. field_at z image) back ∙ sym (field-in image bs p (at + 4) l.part (omega (arith, end, room))) ∙ sym (ap (λ (x : Extent). x.size) l.is ∙ size-at at bs) in
      let body : e.body ≡ take e.size (drop (at + 16) bs) =
      ap (λ (x : Extent). x.body) l.is ∙ body-at at bs ∙ ap (λ (x : Extent). take x.size (drop (at + 16) bs)) (sym l.is) in
      record {
        number = l.number;
        low = omega (arith, start);
        within = omega (arith, start, end, whole, room, size);
        small = l.small;
        most = omega (arith, end, most, room, size);
        bytes = ap (λ z. take z (drop (start_of places a) image)) size ∙ ap (λ z. take e.size (drop z image)) start
            ∙ sym (part-in image bs p (at + 16) e.size l.part (omega (arith, end, room))) ∙ sym body
            ∙ sym (cell-there (contents_of_image image).segs (index_by (contents_of_image image).segs) a ∣ are-extents image k.head k.tiled ∣₁ cell);
      }

  none : HasBlockMarks image rows places → is_cell (extent_of (tiling (contents_of_image image).segs) a) ≡ false → bytes_at (image_blocks image) a ≡ []
  none k h = cell-none (contents_of_image image).segs (index_by (contents_of_image image).segs) a ∣ are-extents image k.head k.tiled ∣₁ h

  pub marked-there : ∥ HasBlockMarks image rows places ∥₁ → 3 ≤ mark_at rows a → LiesAt image places a
  marked-there known h = ∥∥₁_elim known (lies-prop image places a) (λ k. there k (sym (k.marks a) ∙ lt-ltb 2 (mark_at rows a) h))

  pub marked-none : ∥ HasBlockMarks image rows places ∥₁ → mark_at rows a < 3 → bytes_at (image_blocks image) a ≡ []
  marked-none known h = ∥∥₁_elim known (bytes-set (bytes_at (image_blocks image) a) []) (λ k. none k (sym (k.marks a) ∙ le-ltb 2 (mark_at rows a) (omega (arith, h))))

-- a mark of 3 is that of an unlabelled block
mark-cell : (e : Extent) → nat_lt 2 (mark_of e) ≡ is_cell e
mark-cell e = elim (cases_lt 0 e.span) as (λ _. nat_lt 2 (mark_of e) ≡ is_cell e) [
  | inr none ↦ rw (eq-eqb e.span 0 (omega (arith, none)), le-ltb 0 e.span none) refl
  | inl some ↦ elim (eqb_tells e.size 0) as (λ _. nat_lt 2 (mark_of e) ≡ is_cell e) [
    | inl z ↦ rw (ne_eqb e.span 0 (λ q. omega (arith, q, some)), lt-ltb 0 e.span some, z.0, le-ltb 0 e.size (omega (arith, z.1))) refl
    | inr ne ↦ elim (eqb_tells e.tag 0) as (λ _. nat_lt 2 (mark_of e) ≡ is_cell e) [
      | inl t ↦ rw (ne_eqb e.span 0 (λ q. omega (arith, q, some)), lt-ltb 0 e.span some, ne.0, lt-ltb 0 e.size (some-size e.size ne.1), t.0) refl
      | inr t ↦ rw (ne_eqb e.span 0 (λ q. omega (arith, q, some)), lt-ltb 0 e.span some, ne.0, lt-ltb 0 e.size (some-size e.size ne.1), t.0) refl
    ]
  ]
]
  where
    some-size : (n : ℕ) → (n ≡ 0 → ⊥) → 0 < n
    some-size n ne = omega (arith, ne)

-- the marks of an image are such marks, and so are others of which the same are from 3 on
pub from-marked : (image : List ℕ) (rows : List (List ℕ)) (places : List ℕ) → IsKnown image rows places → HasBlockMarks image rows places
from-marked image rows places k = record {
  head = k.head;
  tiled = k.tiled;
  marks = λ a. ap (nat_lt 2) (k.marked.marks a) ∙ mark-cell (extent_of (tiling (contents_of_image image).segs) a);
  parts = k.marked.bytes;
}

pub other-marks : (image : List ℕ) (old new : List (List ℕ)) (places : List ℕ) → ((a : ℕ) → nat_lt 2 (mark_at new a) ≡ nat_lt 2 (mark_at old a)) → HasBlockMarks image old places → HasBlockMarks image new places
other-marks image old new places same k = record { head = k.head; tiled = k.tiled; marks = λ a. same a ∙ k.marks a; parts = k.parts }

-- so are those without the marks of free extents
pub free-taken : (image : List ℕ) (old new : List (List ℕ)) (places : List ℕ) → ((a : ℕ) → mark_at new a ≡ (if mark_at old a == 1 then 0 else mark_at old a)) → HasBlockMarks image old places → HasBlockMarks image new places
free-taken image old new places is k = other-marks image old new places
    (λ a. elim (eqb_tells (mark_at old a) 1) as (λ _. nat_lt 2 (mark_at new a) ≡ nat_lt 2 (mark_at old a)) [
      | inl one ↦ ap (nat_lt 2) (is a ∙ ap (λ t. if t then 0 else mark_at old a) one.0) ∙ sym (ap (nat_lt 2) one.1)
      | inr other ↦ ap (nat_lt 2) (is a ∙ ap (λ t. if t then 0 else mark_at old a) other.0)
    ]) k

part-small : (n at : ℕ) (b : List ℕ) → AreBytes b → AreBytes (take n (drop at b))
part-small n at b small i = elim (cases_lt i n) as (λ _. get_or (take n (drop at b)) i 0 < 256) [
  | inl lt ↦ let e = get_or-take n (drop at b) i 0 lt in let f = get_or-drop at b i 0 in let s = small (at + i) in omega (arith, e, f, s)
  | inr ge ↦
      let l = length-take n (drop at b) in
      let e = get_or_past (take n (drop at b)) i 0 (omega (arith, l, ge)) in
      omega (arith, e)
]

none-small : AreBytes []
none-small i = omega arith

-- each byte of a block is one
pub bytes-small : (image : List ℕ) (rows : List (List ℕ)) (places : List ℕ) → ∥ HasBlockMarks image rows places ∥₁ → AreBytes image → (a i : ℕ) → get_or (bytes_at (image_blocks image) a) i 0 < 256
bytes-small image rows places known small a i = ∥∥₁_elim known le_prop (λ k.
    let e : Extent = extent_of (tiling (contents_of_image image).segs) a in
    ⊎_elim
    (λ (t : is_cell e ≡ true). subst AreBytes (there image rows places a k t).bytes (part-small (field_at (start_of places a - 12) image) (start_of places a) image small) i)
    (λ (t : is_cell e ≡ false). subst AreBytes (sym (none image rows places a k t)) none-small i)
    (cases_Bool (is_cell e)))
