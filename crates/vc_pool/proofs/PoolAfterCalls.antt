-- What the calls on a pool's cells make of the pool.
use Rattle.vc_base.proofs.Common.{◌≡◌, ℕ, List, [], map, length, sym, refl, ap, ◌∙◌, subst, arith, All-nil, length-map, place_of, Layout, cell_for, pool_free}
use Rattle.vc_model.specs.Pool.{empty_pool, pool_clear, pool_compact}
use Rattle.vc_seg.specs.Segment.{IsRegionSegment}
use Rattle.vc_seg.proofs.Backs.{Apart}
use Rattle.vc_seg.proofs.Lists.{AllPairs-nil}
use Rattle.vc_pool.specs.Cells.Blocks.{layout_by, pair_of}
use Rattle.vc_pool.specs.Cells.Call.{Becomes, IsPutBack}
use Rattle.vc_pool.specs.Cells.Cells.{cells_of}
use Rattle.vc_pool.specs.Cells.Freed.{IsFreeCell, freed_cells, freed_from}
use Rattle.vc_pool.specs.Cells.Kept.{IsCellular, IsPool, IsPoolOf}
use Rattle.vc_pool.specs.Cells.Place.{cells_in, pair_in}
use Rattle.vc_pool.specs.declared.cells.segment.PoolSegment.{PoolSegment}
use Rattle.vc_pool.proofs.SegmentList.{pairs-in}
use Rattle.vc_pool.proofs.PoolChange.{pool-of}
use Rattle.vc_pool.specs.Cells.Carve.{IsUncarved}
use Rattle.vc_pool.specs.Compacting.{IsCompacted}
use Rattle.vc_pool.specs.Sizes.{element_of}
use Rattle.vc_pool.specs.Read.{pool_by}
use Rattle.vc_pool.proofs.PoolParts.{layout-of}

-- no segment, no element size and no cell
none-kept : IsPool 0 [] 0
none-kept =
    let h : IsPoolOf 0 [] 0 [] =
    record {
      cells = record {
        most = omega arith;
        unset = λ e. refl;
        segments = record { few = omega arith; legal = All-nil IsRegionSegment; distinct = AllPairs-nil Apart };
        cellular = All-nil (IsCellular (cell_for 0) 0);
      };
      front = tt;
      chain = refl;
      free = All-nil (IsFreeCell (cell_for 0) []);
      once = λ at. omega arith;
    } in
    pool-of 0 [] 0 [] h

pub empty-kept : (segs : List PoolSegment) → segs ≡ [] → IsPool 0 (cells_in segs) 0
empty-kept segs e = subst (λ (ss : List PoolSegment). IsPool 0 (cells_in ss) 0) (sym e) none-kept

none-is : pool_by [] 0 0 ≡ empty_pool
unfolding pool_by layout_by freed_cells freed_from
none-is = refl

pub empty-is : (segs : List PoolSegment) → segs ≡ [] → pool_by segs 0 0 ≡ empty_pool
empty-is segs e = ap (λ (ss : List PoolSegment). pool_by ss 0 0) e ∙ none-is

module _ (segs segs' : List PoolSegment) (element : ℕ) where
  becomes-pool : (freed : ℕ) (after : Layout ℕ) → Becomes element (cells_in segs) (cells_in segs') freed after → pool_by segs' element freed ≡ record (pool_by segs element freed) { layout = after }
  unfolding pool_by
  becomes-pool freed after h = λ j. record { layout = h.layout j; element = element_of element; freed = h.freed j; carved = h.carved j }

  pub freed-pool : (a last : ℕ) → IsPutBack element a (cells_in segs) (cells_in segs') last → pool_by segs' element a ≡ pool_free (pool_by segs element last) (place_of a)
  unfolding pool_by
  freed-pool a last h = λ j. record { layout = h.layout j; element = element_of element; freed = h.freed j; carved = h.carved j }

  pub cleared-pool : (last : ℕ) → IsUncarved element (cells_in segs) (cells_in segs') → pool_by segs' element 0 ≡ pool_clear (pool_by segs element last)
  unfolding pool_by
  cleared-pool last h = λ j. record { layout = h.layout j; element = element_of element; freed = h.freed j; carved = h.carved j }

  pub compacted-pool : (after before : ℕ) → IsCompacted element (cells_in segs) (cells_in segs') before after → pool_by segs' element after ≡ pool_compact (pool_by segs element before)
  unfolding pool_by
  compacted-pool after before h = λ j. record { layout = h.layout j; element = element_of element; freed = h.freed j; carved = h.carved j }

-- a call that changes one block, on the list that is lent to it, and what the list holds then
module _ (element freed : ℕ) (segs lent back after : List PoolSegment) (change : Layout ℕ → Layout ℕ) (is : lent ≡ segs) (holds : after ≡ back) (h : IsPool element (cells_in segs) freed)
    (call : (last : ℕ) → IsPool element (cells_in lent) last → Becomes element (cells_in lent) (cells_in back) last (change (layout_by (cell_for element) (cells_in lent)))) where
  became : Becomes element (cells_in segs) (cells_in back) freed (change (layout_by (cell_for element) (cells_in segs)))
  became =
      subst (λ (ss : List PoolSegment). (last : ℕ) → IsPool element (cells_in ss) last → Becomes element (cells_in ss) (cells_in back) last (change (layout_by (cell_for element) (cells_in ss)))) is call freed h

  pub became-kept : IsPool element (cells_in after) freed
  became-kept = subst (λ (ss : List PoolSegment). IsPool element (cells_in ss) freed) (sym holds) became.kept

  pub became-pool : pool_by after element freed ≡ record (pool_by segs element freed) { layout = change (pool_by segs element freed).layout }
  became-pool =
      ap (λ (ss : List PoolSegment). pool_by ss element freed) holds
      ∙ (becomes-pool segs back element freed _ became ∙ ap (λ (l : Layout ℕ). record (pool_by segs element freed) { layout = change l }) (sym (layout-of segs element freed)))

-- the segments as number and size
pub pairs-of : (segs : List PoolSegment) (element freed : ℕ) → (pool_by segs element freed).layout.segments ≡ map pair_of (cells_in segs)
unfolding pool_by layout_by
pairs-of segs element freed = refl

pub pairs-of-list : (segs : List PoolSegment) (element freed : ℕ) → (pool_by segs element freed).layout.segments ≡ map pair_in segs
pairs-of-list segs element freed = pairs-of segs element freed ∙ sym (pairs-in segs)

pub pairs-length : (segs : List PoolSegment) (element freed : ℕ) → length (pool_by segs element freed).layout.segments ≡ length segs
pairs-length segs element freed = ap length (pairs-of segs element freed) ∙ (length-map (cells_in segs) pair_of ∙ length-map segs cells_of)
