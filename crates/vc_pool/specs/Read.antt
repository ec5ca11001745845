-- The segments, the blocks and the cells of a pool, by what it keeps them in.
use Rattle.std.specs.Prelude.{ℕ, List}
use Rattle.vc_model.specs.Pool.{Pool, cell_for}
use Rattle.vc_pool.specs.Cells.Blocks.{carved_by, layout_by}
use Rattle.vc_pool.specs.Cells.Freed.{freed_cells}
use Rattle.vc_pool.specs.Cells.Place.{cells_in}
use Rattle.vc_pool.specs.declared.cells.segment.PoolSegment.{PoolSegment}
use Rattle.vc_pool.specs.Sizes.{element_of}

-- segments with their cells, the element size, 0 where none is set, and the address of the cell freed last, 0 where none is free
unfoldable pub pool_by : List PoolSegment → ℕ → ℕ → Pool ℕ
pool_by segs element freed =
    record {
      layout = layout_by (cell_for element) (cells_in segs);
      element = element_of element;
      freed = freed_cells (cells_in segs) freed;
      carved = carved_by (cells_in segs);
    }
