-- What the calls on one cell leave, of a pool's list of segments in which one was changed.
use Rattle.vc_base.proofs.Common.{◌≡◌, ℕ, ◌+◌, ◌^◌, ◌<◌, ◌≤◌, List, length, get_or, take, drop, set, IfSome, Some, Option, option_map, sym, ap, ◌∙◌, subst, place_of, Block, cell_for, cell_offset, resize_there, HasBlock, HasRange, find_block, with_bytes_at}
use Rattle.vc_base.proofs.Overwrites.{part-of-part}
use Rattle.vc_pool.specs.Cells.Blocks.{layout_by}
use Rattle.vc_pool.specs.Cells.Call.{Becomes, IsPutBack, IsReused}
use Rattle.vc_pool.specs.Cells.Cells.{Cells, cells_of, with_zeros_in, cell_link, pair_at, with_free_cell, with_cell_size, with_cell_bytes}
use Rattle.vc_pool.specs.Cells.Freed.{freed_link}
use Rattle.vc_pool.specs.Cells.Kept.{AreCellular, FitsElement, IsPool}
use Rattle.vc_pool.specs.Cells.Place.{IsCellAt, cells_in}
use Rattle.vc_pool.specs.declared.cells.segment.PoolSegment.{PoolSegment}
use Rattle.vc_pool.proofs.CellCalls.{link-is, link-small, live-found, live-target, put-back-of, resize-of, reuse-of, write-of}
use Rattle.vc_pool.proofs.SegmentList.{cells-get, cells-put}
use Rattle.vc_pool.proofs.BlockPlaces.{block-some}

module _ (element a i index cell : ℕ) (segs : List PoolSegment) (d : PoolSegment) (same : cell ≡ cell_for element) (within : i < length segs) (there : IsCellAt (cell_for element) (cells_in segs) (place_of a) i index) (is : d ≡ get_or segs i d) where
  -- the segment that a call reads is the one at its place
  row : (e : Cells) → get_or (cells_in segs) i e ≡ cells_of d
  row e = cells-get segs i d e within ∙ ap cells_of (sym is)

  pub link-there : cell_link cell index (cells_of d) ≡ freed_link (cells_in segs) a
  link-there =
      ap (λ k. cell_link k index (cells_of d)) same
      ∙ (ap (cell_link (cell_for element) index) (sym (row (cells_of d))) ∙ link-is (cell_for element) a i index (cells_in segs) (cells_of d) there)

  pub link-fits : 1 ≤ a → IsPool element (cells_in segs) a → cell_link cell index (cells_of d) < 4294967296
  link-fits one h = subst (λ k. k < 4294967296) (sym link-there) (link-small element a (cells_in segs) h one)

  module _ (x : PoolSegment) where
    -- what is made of it, of the row at its place
    made : (f : ℕ → Cells → Cells) → cells_of x ≡ f cell (cells_of d) → cells_of x ≡ f (cell_for element) (get_or (cells_in segs) i (cells_of x))
    made f e = e ∙ (ap (λ k. f k (cells_of d)) same ∙ ap (f (cell_for element)) (sym (row (cells_of x))))

    pub reused-there : (tag size b : ℕ) → 1 ≤ a → FitsElement size element → cells_of x ≡ with_zeros_in cell index size tag (cells_of d) → b ≡ cell_link cell index (cells_of d) → IsPool element (cells_in segs) a →
        IsReused element tag size (cells_in segs) (cells_in (set segs i x)) a b
    reused-there tag size b one fits e link h =
        let r = reuse-of element tag size a i index (cells_in segs) (cells_of x) one fits.some fits.fits there (made (λ k. with_zeros_in k index size tag) e) h in
        subst (λ (ss : List Cells). IsReused element tag size (cells_in segs) ss a b) (sym (cells-put segs i x))
        (subst (λ k. IsReused element tag size (cells_in segs) (set (cells_in segs) i (cells_of x)) a k) (sym (link ∙ link-there)) r)

    module _ (k : AreCellular element (cells_in segs)) (live : HasBlock (layout_by (cell_for element) (cells_in segs)).blocks a) where
      pub put-back-there : (last : ℕ) → last < 2 ^ 64 → cells_of x ≡ with_free_cell cell index last (cells_of d) → IsPool element (cells_in segs) last → IsPutBack element a (cells_in segs) (cells_in (set segs i x)) last
      put-back-there last small e h =
          subst (λ (ss : List Cells). IsPutBack element a (cells_in segs) ss last) (sym (cells-put segs i x))
          (put-back-of element a i index (cells_in segs) (cells_of x) k (block-some element a (cells_in segs) k live) live there last h small (made (λ n. with_free_cell n index last) e))

      pub resized-there : (last size : ℕ) → FitsElement size element → cells_of x ≡ with_cell_size cell index size (cells_of d) → IsPool element (cells_in segs) last →
          Becomes element (cells_in segs) (cells_in (set segs i x)) last (resize_there (layout_by (cell_for element) (cells_in segs)) (place_of a) size)
      resized-there last size fits e h =
          subst (λ (ss : List Cells). Becomes element (cells_in segs) ss last (resize_there (layout_by (cell_for element) (cells_in segs)) (place_of a) size)) (sym (cells-put segs i x))
          (resize-of element a i index (cells_in segs) (cells_of x) k (block-some element a (cells_in segs) k live) live there last h size fits.some fits.fits (made (λ n. with_cell_size n index size) e))

  module _ (k : AreCellular element (cells_in segs)) (live : HasBlock (layout_by (cell_for element) (cells_in segs)).blocks a) where
    -- the block there has the size and the tag of its cell's pair
    abbrev pub own-block : Block ℕ
    own-block =
        record {
          label = (pair_at index (cells_of d)).1;
          seg = (place_of a).0;
          off = cell_offset (cell_for element) index;
          size = (pair_at index (cells_of d)).0;
          bytes = take (pair_at index (cells_of d)).0 (drop (cell_offset (cell_for element) index) (cells_of d).bytes);
        }

    pub found-there : find_block (place_of a) (layout_by (cell_for element) (cells_in segs)).blocks ≡ Some own-block
    found-there =
        subst
        (λ (o : Cells). find_block (place_of a) (layout_by (cell_for element) (cells_in segs)).blocks
        ≡ Some (record { label = (pair_at index o).1; seg = (place_of a).0; off = cell_offset (cell_for element) index; size = (pair_at index o).0; bytes = take (pair_at index o).0 (drop (cell_offset (cell_for element) index) o.bytes) }))
        (row (cells_of d)) (live-found element a i index (cells_in segs) (cells_of d) k (block-some element a (cells_in segs) k live) live there)

    pub fits-there : (pair_at index (cells_of d)).0 ≤ cell
    fits-there =
        let t = live-target element a i index (cells_in segs) (cells_of d) k (block-some element a (cells_in segs) k live) live there in
        subst (λ n. (pair_at index (cells_of d)).0 ≤ n) (sym same)
        (subst (λ (o : Cells). (pair_at index o).0 ≤ cell_for element) (row (cells_of d)) (t.fits index (0, 0) t.cell.listed))

    pub range-there : (off len : ℕ) → HasRange (layout_by (cell_for element) (cells_in segs)).blocks a off len → off + len ≤ (pair_at index (cells_of d)).0
    range-there off len h = subst (λ (o : Option (Block ℕ)). IfSome o (λ b. off + len ≤ b.size)) found-there h

    pub bytes-there : (off len : ℕ) (bytes : List ℕ) → off + len ≤ (pair_at index (cells_of d)).0 → bytes ≡ take len (drop (cell_offset cell index + off) (cells_of d).bytes) →
        option_map (λ b. take len (drop off b.bytes)) (find_block (place_of a) (layout_by (cell_for element) (cells_in segs)).blocks) ≡ Some bytes
    bytes-there off len bytes range e =
        ap (option_map (λ (b : Block ℕ). take len (drop off b.bytes))) found-there
        ∙ ap Some (sym (e ∙ (ap (λ n. take len (drop (cell_offset n index + off) (cells_of d).bytes)) same ∙ part-of-part (cells_of d).bytes (cell_offset (cell_for element) index) (pair_at index (cells_of d)).0 off len range)))

    pub written-there : (x : PoolSegment) (last off : ℕ) (src : List ℕ) → HasRange (layout_by (cell_for element) (cells_in segs)).blocks a off (length src) → cells_of x ≡ with_cell_bytes cell index off src (cells_of d) → IsPool element (cells_in segs) last →
        Becomes element (cells_in segs) (cells_in (set segs i x)) last (with_bytes_at (layout_by (cell_for element) (cells_in segs)) (place_of a) off src)
    written-there x last off src range e h =
        let fits : off + length src ≤ (pair_at index (get_or (cells_in segs) i (cells_of x))).0 = subst (λ (o : Cells). off + length src ≤ (pair_at index o).0) (sym (row (cells_of x))) (range-there off (length src) range) in
        subst (λ (ss : List Cells). Becomes element (cells_in segs) ss last (with_bytes_at (layout_by (cell_for element) (cells_in segs)) (place_of a) off src)) (sym (cells-put segs i x))
        (write-of element a i index (cells_in segs) (cells_of x) k (block-some element a (cells_in segs) k live) live there last h off src fits (made x (λ n. with_cell_bytes n index off src) e))
