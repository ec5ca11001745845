-- The names that most proofs cite, passed on from one place. Declares nothing.
pub use Rattle.std.proofs.Common.{◌≡◌, ℕ, zero, suc, ◌+◌, ◌-◌, ◌*◌, ◌/◌, ◌%◌, ◌^◌, ◌<◌, ◌≤◌, min, max, Bool, true, false, cond, not, ◌&&◌, ◌||◌, T, eqb, ltb, leb, ◌≢◌, ◌⊎◌, ◌↔◌, List, [], ◌∷◌, ◌++◌, map, length, get_or, take, drop, set, replicate, ℤ, pos, negsuc, neg_ℤ, nat_abs, ◌<ℤ◌, is_some, IsSomeAnd, IfSome, IfNone, IfOk, IfErr, if◌then◌else◌, OnSome, OnOk, OnErr, IsSome, IsOk, IsTrue, nat_lt, nat_le, ◌==◌, slice_get, slice_index, slice_index_or, slice_set, slice_range, Some, None, Ok, Err, vec_len, vec_capacity, string_bytes, codes, decimal, fold, All, Contains, sum, count_by, filter, Option, Result, Vec, option_map, HoldsAt, chars, insert, remove, Any, AllPairs, position, find, zip, flat_map, filter_map, option_and_then, option_copied, IsErrOf, encode_utf8, bytes_eq, nat_cmp, is_eq, is_gt, is_ge, Ordering, Less, Equal, Greater, Global, unwrap_or, sym, refl, ap, ◌∙◌, subst, ap₂, inl, inr, ⊎_elim, true≢false, append_assoc, append-nil, le_trans, add-zero, mul-le-mul_right, mul-le-mul_left, pow-suc, div-add-mod', zero-add, div-mul-le_self, add-one, arith, lit<, length-append, length-drop, length-set, take-append-drop, drop_of_length-le, length-take, length-take-le, get_or-drop, take_all, drop-cons, get_or-set_other, get_or-take, get_or-set_same, take-take, drop-drop, take_at, drop-set-lt, take-add, drop_at, set-set, pow_pos, pow_mono, w32, w64, SFits, Bor, rules, below_more, ltb-false, ltb-true, le-ltb, lt-ltb, eq-eqb, ne_eqb, eqb-true, le-leb, leb-false, leb-true}
pub use Rattle.std.proofs.Math.Bool.{and-false, or-false, or-true}
pub use Rattle.std.proofs.Math.Bridge.{le_prop}
pub use Rattle.std.proofs.Math.Logic.{∥∥₁_elim, ∥∥₁_map}
pub use Rattle.std.proofs.Math.Nat.{ℕ_set}
pub use Rattle.std.proofs.lemmas.Bool.{and_from, and_left, and_parts, and_right, cases_Bool, cases_eq, cases_lt, eqb-false, false_from_ne_true, false≢true, lt-leb, not-true, or_cases, or_from, or_left, or_parts, or_right}
pub use Rattle.std.proofs.lemmas.Bool.Decides.{Decides-eqb, eqb_tells, nat_tests}
pub use Rattle.std.proofs.lemmas.Grind.{common_steps}
pub use Rattle.std.proofs.lemmas.List.{at_drop_more, drop-map, drop-take, drop_all, drop_more, get_or-map, get_or_append_left, get_or_default, length-map, length-replicate, length_push, map-append, map-set, map_push, nil_from_length, places, same_lists, take-append-le, take_rest, with_items_is}
pub use Rattle.std.proofs.lemmas.List.Elements.{All-append, All-cons, All-contains, All-filter, All-head, All-map, All-nil, All-push, All-set, All-tail, All-weaker, filter-append, filter_agree, filter_passes}
pub use Rattle.std.proofs.lemmas.List.Folds.{list_any-append, list_any_at}
pub use Rattle.std.proofs.lemmas.List.Kept.{AllPairs-cons, AllPairs-filter}
pub use Rattle.std.proofs.lemmas.List.Quantifiers.{all_pairs_push, position-Some}
pub use Rattle.std.proofs.lemmas.List.Sums.{count_by-le-length, length-filter, sum-map, sum_by-append, sum_by-cons}
pub use Rattle.std.proofs.lemmas.Map.Keys.{IsDistinct-head, IsDistinct-tail, any_passes_from_place}
pub use Rattle.std.proofs.lemmas.Map.Steps.{length-le_from_distinct_below}
pub use Rattle.std.proofs.lemmas.Option.{none-some, same_Some, slice_get-map}
pub use Rattle.std.proofs.lemmas.Simd.{map-map}
pub use Rattle.std.proofs.lemmas.Slice.Eq.{bytes_eq-Decides}
pub use Rattle.std.specs.Cmp.{IsTotalOrder}
unfoldable pub use Rattle.std.specs.Fmt.{digits}
pub use Rattle.std.specs.Int.{from_le_bytes, to_le_bytes}
pub use Rattle.std.specs.Iterator.{AlwaysYields}
pub use Rattle.std.specs.List.{AllByRecursion, cons_option, list_all, list_any}
unfoldable pub use Rattle.std.specs.List.{IsDistinct}
pub use Rattle.std.specs.Map.{keys_of, lookup, values_of}
pub use Rattle.std.specs.Map.Iter.{TakesFirst}
pub use Rattle.std.specs.Option.{option_or}
pub use Rattle.std.specs.Ordering.{ordering_index, ordering_reverse}
pub use Rattle.vc_base.specs.Address.{number_of}
pub use Rattle.vc_base.specs.Cells.{Blocks, HasBytes, IsAddress, IsHolder, WordWritten, WordsWritten, body_of, bytes_at, with_number, word_at}
unfoldable pub use Rattle.vc_base.specs.Cells.{with_word, word}
pub use Rattle.vc_base.specs.Holders.{AreDistinct, KeepsBut, contains, first_in, first_of, last_in, next_in, previous_in, some_address, without}
pub use Rattle.vc_base.specs.Methods.{has_table, is_list, is_ordered, is_set, method_number}
pub use Rattle.vc_model.specs.Addr.{address, place_of}
pub use Rattle.vc_model.specs.Best.{best_alloc, best_need, place_in, put_at, put_in_new, put_or_ask, without_block_at, zeros}
pub use Rattle.vc_model.specs.Bytes.{with_bytes}
pub use Rattle.vc_model.specs.Compact.{cleared_layout, compact_count, compacted_layout, is_occupied}
pub use Rattle.vc_model.specs.Count.{Rose}
pub use Rattle.vc_model.specs.Discipline.{Discipline, HasOut, IsSegmentSize, Lent, NoneRefused, Served, Terms, TookBack, Unserved, same_pair, without_last}
pub use Rattle.vc_model.specs.Gap.{Run, bytes_of, gaps, gaps_between, run_of}
pub use Rattle.vc_model.specs.Last.{can_end, if_latest, last_alloc, last_free, last_need, last_place, last_resize, latest, newest, put_behind_latest, put_in_newest, put_or_lend, resize_latest}
pub use Rattle.vc_model.specs.Layout.{Block, Layout, address_of, footprint, footprints, is_at, lies_before, place_of_block, relabel_block, relabel_layout, with_block, with_grant, without_block}
pub use Rattle.vc_model.specs.Numbered.{at_number}
pub use Rattle.vc_model.specs.Numbers.{block_count, block_sizes, gaps_of, greatest, segment_bytes, segment_count}
pub use Rattle.vc_model.specs.Order.{least_above, lesser_by, put_by}
pub use Rattle.vc_model.specs.Outcome.{Done, Fault, Fixed, NotLast, Outcome, PoolSize, Put, Refused, done_as, outcome_as}
pub use Rattle.vc_model.specs.Place.{holds, least, lowest_offset}
pub use Rattle.vc_model.specs.Pool.{IsPoolSound, Pool, carve, carved_in, cell_count, cell_for, cell_of, cell_offset, element_with, pool_alloc, pool_free, pool_need, pool_resize, put_asked, put_carving, put_free, uncarved}
pub use Rattle.vc_model.specs.Resize.{best_resize, can_stay, fitted_bytes, is_usable, outcome_of_move, resize_found, resize_there, sized_block, stays}
pub use Rattle.vc_model.specs.Segments.{Asked, Grant, Granted, NotLent, TooMany, ask, lowest_unused, new_segment, numbers, round_up, span, unused_from}
pub use Rattle.vc_model.specs.Sound.{EndsBefore, HasWholeBlocks, HaveOwnNumbers, HaveOwnPlaces, IsApart, IsSound, IsUsable}
pub use Rattle.vc_model.specs.Touch.{HasBlock, HasRange, change_block, find_block, rewritten_block, with_bytes_at}
pub use Rattle.vc_model.specs.Walk.{block_at, by_address, holds_byte, next_block, next_segment, segment_at}
