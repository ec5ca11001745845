-- The words of segments, extents and gaps that most proofs cite, passed on from one place. Declares nothing.
pub use Rattle.vc_seg.specs.Segment.{Bytes, pair_of}
pub use Rattle.vc_extent.specs.Extent.{Extent, busy_extent, free_extent, no_links}
unfoldable pub use Rattle.vc_extent.specs.Extent.{extents}
pub use Rattle.vc_extent.specs.Tiling.{AreExtents, IsBusy, IsFree, IsThere, change_extent, change_in, extent_of, extents_of, next_of, previous_of, tiling}
pub use Rattle.vc_extent.specs.Change.{behind, change_at, extent_in, first_of, join, last_before, mark_busy, mark_free, set_link, shrink, split, stretch, with_link}
pub use Rattle.vc_gaps.specs.ButLinks.{StaysButLinks, Tiling, plain, without_links}
pub use Rattle.vc_gaps.specs.Fits.{free_runs, from_on, holds_at, run_at, run_of_extent}
pub use Rattle.vc_gaps.specs.GapStore.{gap_key, gap_side, gap_store, is_free, key_of}
pub use Rattle.vc_gaps.specs.GapLaws.{extents_of-plain, gap_fits, gap_none, is_free-named, is_free-size, is_free-stays, key-stays, span-stays, without-off}
pub use Rattle.vc_gaps.specs.GapTree.{AscendFrom, CanLinkGap, GapFitted, GapLinked, GapTreeAfter, GapUnlinked, HasGapTree, HasGaps, HasGapsBy, IsAmongGaps, IsGapTree, IsInGaps}
