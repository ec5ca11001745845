-- The segments of a pool as they stand in its list.
use Rattle.vc_base.proofs.Common.{◌≡◌, ℕ, ◌<◌, ◌≢◌, List, [], ◌∷◌, map, length, get_or, set, All, HoldsAt, refl, ap, ◌∙◌, subst, arith, ne_eqb, All-head, All-tail, get_or-map, length-map, map-set, cell_for}
use Rattle.vc_seg.specs.Numbered.{AreNumbered}
use Rattle.vc_seg.specs.Segment.{AreSegments}
use Rattle.vc_seg.specs.Segment as bytes
use Rattle.vc_seg.proofs.Backs.{AreNumbered-segments}
use Rattle.vc_pool.specs.Cells.Blocks.{pair_of}
use Rattle.vc_pool.specs.Cells.Cells.{Cells, HasCell, cells_of}
use Rattle.vc_pool.specs.Cells.Freed.{cells_at, no_segment}
use Rattle.vc_pool.specs.Cells.Kept.{AreCellular, segment_of}
use Rattle.vc_pool.specs.Cells.Place.{IsAlone, cells_in, pair_in}
use Rattle.vc_pool.specs.declared.cells.segment.PoolSegment.{PoolSegment}
use Rattle.vc_pool.proofs.OneSegment.{alone, cells-first}
use Rattle.vc_pool.proofs.BlockPlaces.{cell-some, cell-there}

-- the cells of the segment at a place
pub cells-get : (segs : List PoolSegment) (i : ℕ) (d : PoolSegment) (e : Cells) → i < length segs → get_or (cells_in segs) i e ≡ cells_of (get_or segs i d)
cells-get segs i d e lt = get_or-map cells_of segs i d e lt

pub cells-put : (segs : List PoolSegment) (i : ℕ) (x : PoolSegment) → cells_in (set segs i x) ≡ set (cells_in segs) i (cells_of x)
cells-put segs i x = map-set cells_of segs i x

-- the segments as number and size
pub pairs-in : (segs : List PoolSegment) → map pair_in segs ≡ map pair_of (cells_in segs)
pairs-in [] = refl
pairs-in (s ∷ ss) = ap (λ ps. pair_in s ∷ ps) (pairs-in ss)

pairs-memory : (segs : List PoolSegment) → map bytes.pair_of (map segment_of (cells_in segs)) ≡ map pair_in segs
pairs-memory [] = refl
pairs-memory (s ∷ ss) = ap (λ ps. pair_in s ∷ ps) (pairs-memory ss)

pub numbered-in : (segs : List PoolSegment) → AreSegments (map segment_of (cells_in segs)) → AreNumbered (map pair_in segs)
numbered-in segs h = subst AreNumbered (pairs-memory segs) (AreNumbered-segments (map segment_of (cells_in segs)) h)

-- no segment has a number
pub cells-none : (n : ℕ) (segs : List PoolSegment) → All (λ (s : PoolSegment). s.seg.number ≢ n) segs → cells_at n (cells_in segs) ≡ no_segment
cells-none n [] h = refl
cells-none n (s ∷ ss) h =
    let P : PoolSegment → Type 0 = λ t. t.seg.number ≢ n in
    rw (ne_eqb s.seg.number n (All-head P s ss h)) (cells-none n ss (All-tail P s ss h))

-- a segment, where there is one
pub some-of : (segs : List PoolSegment) (i : ℕ) → i < length segs → PoolSegment
some-of [] i lt = absurd (omega (arith, lt))
some-of (s ∷ ss) i lt = s

-- the segment of a number, where it was found
module _ (element i n : ℕ) (segs : List PoolSegment) (k : AreCellular element (cells_in segs)) (within : i < length segs) (number : HoldsAt (λ (s : PoolSegment). s.seg.number ≡ n) segs i) where
  pub alone-in : IsAlone n (cells_in segs) i
  alone-in =
      alone n i (cells_in segs) k.segments (omega (arith, within, length-map segs cells_of))
      (λ e. let d : PoolSegment = some-of segs i within in ap (λ (s : Cells). s.number) (cells-get segs i d e within) ∙ number d)

  pub cell-in : (index : ℕ) → index < length (cells_at n (cells_in segs)).pairs → HoldsAt (λ (s : PoolSegment). HasCell (cell_for element) index (cells_of s)) segs i
  cell-in index listed =
      λ e.
      let al = alone-in in
      let d' : Cells = cells_of e in
      let is : cells_at n (cells_in segs) ≡ cells_of (get_or segs i e) = cells-first n (cells_in segs) i d' al.within al.before (al.number d') ∙ cells-get segs i e d' within in
      subst (HasCell (cell_for element) index) is (cell-there element (cells_in segs) k (cell-some element n (cells_in segs) k (omega (arith, listed))) n index listed)
