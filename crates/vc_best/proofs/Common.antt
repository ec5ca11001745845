-- The words of segments, extents, gaps and blocks that most proofs cite, passed on from one place. Declares nothing.
pub use Rattle.vc_base.specs.declared.addr.Addr.{Addr}
pub use Rattle.vc_seg.specs.Segment.{AreSegments, Bytes, IsRegionSegment, pair_of}
pub use Rattle.vc_seg.specs.InOrder.{in_order}
pub use Rattle.vc_extent.specs.Extent.{Extent, busy_extent, free_extent, no_links}
unfoldable pub use Rattle.vc_extent.specs.Extent.{extents}
pub use Rattle.vc_extent.specs.Tiles.{IsLegal, IsTiled, Tiles}
pub use Rattle.vc_extent.specs.Tiling.{AreExtents, IsBusy, IsFree, IsNamed, IsThere, change_extent, change_in, extent_of, extents_of, next_of, previous_of, size_of, tiling}
pub use Rattle.vc_extent.specs.Change.{IsOneFree, behind, change_at, extent_in, first_of, join, last_before, mark_busy, mark_free, one_free, set_size, shrink, spans, split, stretch, write}
pub use Rattle.vc_gaps.specs.ButLinks.{StaysButLinks, Tiling, plain, without_links}
pub use Rattle.vc_gaps.specs.Fits.{run_at, run_of_extent}
pub use Rattle.vc_gaps.specs.GapTree.{CanLinkGap, GapLinked, HasGapTree, HasGaps, HasGapsBy, IsInGaps}
pub use Rattle.vc_best.specs.Blocks.{all_busy, block_of, busy_in, is_busy}
unfoldable pub use Rattle.vc_best.specs.Blocks.{layout_by}
pub use Rattle.vc_best.specs.Free.{IsMerged, free_bytes, free_in, free_runs, is_free, is_merged, room_of}
pub use Rattle.vc_best.specs.Beside.{free_before, free_name, free_next, some_name}
pub use Rattle.vc_best.specs.Changes.{absorb, carve, cut_back, cut_front, free_part, lay_zeros, move_border, stretch_rest}
pub use Rattle.vc_best.specs.Standing.{AreAllowed, AreKept, AreWhole, CanPutBlock, IsBorderMoved, IsLeastHolding, IsLeastOut, IsLentFree, IsPutByAsking, IsPutInGap}
pub use Rattle.vc_best.specs.Next.{IsFirst, extents_from, left_from}
pub use Rattle.vc_best.specs.Cells.{StaysButCells, block_shown, cell_bytes, cells_in, cells_of, is_unlabelled, labelled_blocks, without_cell, zeroed_layout}
pub use Rattle.vc_best.specs.GapsChange.{GapsChange, HasGapsBelow}
pub use Rattle.vc_best.specs.Counts.{HaveRoom, all_extents, busy_sizes, counts_of_none, counts_with, free_spans}
pub use Rattle.vc_best.specs.Parts.{blocks_in, disc_in, layout_of, segments_in}
pub use Rattle.vc_gaps.proofs.Named.{behind_of}
