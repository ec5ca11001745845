-- The words of the model and of addresses that contracts cite most, passed on from one place. Declares nothing.
pub use Rattle.vc_base.specs.Address.{number_of}
pub use Rattle.vc_base.specs.Cells.{Blocks, HasBytes, IsHolder, word_at}
pub use Rattle.vc_base.specs.Holders.{contains, first_in, last_in, next_in, previous_in, some_address, without}
pub use Rattle.vc_base.specs.Methods.{has_table, is_ordered, is_set}
pub use Rattle.vc_model.specs.Addr.{address, place_of}
pub use Rattle.vc_model.specs.Best.{best_need, without_block_at, zeros}
pub use Rattle.vc_model.specs.Bytes.{with_bytes}
pub use Rattle.vc_model.specs.Compact.{cleared_layout, compact_count, compacted_layout}
pub use Rattle.vc_model.specs.Count.{Rose}
pub use Rattle.vc_model.specs.Discipline.{Discipline, HasOut, IsRound, IsSegmentSize, Exceptions, Excused, Kept, Lent, LentNothing, NoneRefused, TookBack, Unserved}
pub use Rattle.vc_model.specs.Layout.{address_of, empty_layout, without_block}
pub use Rattle.vc_model.specs.Place.{IsAlign}
pub use Rattle.vc_model.specs.Pool.{cell_for, cell_offset, uncarved}
pub use Rattle.vc_model.specs.Resize.{resize_there, sized_block}
pub use Rattle.vc_model.specs.Segments.{TooMany, ask, span}
pub use Rattle.vc_model.specs.Touch.{HasBlock, find_block, with_bytes_at}
pub use Rattle.vc_model.specs.Walk.{next_segment, segment_at}
