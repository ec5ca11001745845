-- The commands on a whole region, and those that tell what is in it.
use Rattle.std.specs.Prelude.{ℕ, List, [], ◌∷◌, Option, Some, None, map, if◌then◌else◌}
use Rattle.vc_model.specs.Layout.{Block}
use Rattle.vc_region.specs.Region.{blocks_of, keeps_freed, region_clear, region_compact, region_compact_count, segments_of}
use Rattle.vc_model.specs.Walk.{block_at, by_address, by_number, segment_at}
use Rattle.vc_region.specs.Stat.{stat_of}
use Rattle.vc_script.specs.declared.place.Place.{Place}
use Rattle.vc_script.specs.declared.reply.Reply.{Reply}
use Rattle.vc_script.specs.declared.reply.Reply.TheVariants.{Cleared, Compacted, AddrIn, AddrNone, SegmentIs, SegmentNone, Stats, SegmentList, BlockList}
use Rattle.vc_commands.specs.FreedNames.{FreedNames, with_line}
use Rattle.vc_commands.specs.Home.{Changed, Home, Label, changed_to, reply_alone}

-- a name is kept with a line, where there is one
abbrev pub with_label : Label → ℕ → FreedNames → FreedNames
with_label None line kept = kept
with_label (Some x) line kept = with_line x line kept

-- the names of these blocks are kept with a line
abbrev pub with_labels : List (Block Label) → ℕ → FreedNames → FreedNames
with_labels [] line kept = kept
with_labels (b ∷ bs) line kept = with_label b.label line (with_labels bs line kept)

-- the names that are kept once all blocks are freed at a line
abbrev pub kept_cleared : Home → ℕ → FreedNames
kept_cleared h line = if keeps_freed h.region then with_labels (blocks_of h.region) line h.kept else h.kept

-- all blocks are freed at a line
abbrev pub clear_in : Home → List ℕ → ℕ → Changed
clear_in h r line =
    record { region = region_clear h.region; kept = kept_cleared h line; reply = Cleared r; granted = None }

-- the segments without a block are given back
abbrev pub compact_in : Home → List ℕ → Changed
compact_in h r = changed_to h (region_compact h.region) (Compacted r (region_compact_count h.region))

abbrev pub addr_reply : Option (Block Label × ℕ) → Reply
addr_reply None = AddrNone
addr_reply (Some f) = AddrIn f.0.label f.1

-- the block at a place, and the offset in it
abbrev pub addr_in : Home → Place → Changed
addr_in h at = reply_alone h (addr_reply (block_at (at.seg, at.off) (blocks_of h.region)))

abbrev pub segment_reply : ℕ → Option ℕ → Reply
segment_reply number None = SegmentNone
segment_reply number (Some size) = SegmentIs number size

-- the segment at a place
abbrev pub segment_in : Home → Place → Changed
segment_in h at = reply_alone h (segment_reply at.seg (segment_at (at.seg, at.off) (segments_of h.region)))

abbrev pub stat_in : Home → Changed
stat_in h = reply_alone h (Stats (stat_of h.region))

-- the segments by number
abbrev pub list_segments : Home → Changed
list_segments h = reply_alone h (SegmentList (by_number (segments_of h.region)))

abbrev pub item_of : Block Label → Label × Place × ℕ
item_of b = (b.label, record { seg = b.seg; off = b.off }, b.size)

-- the blocks by address
abbrev pub list_blocks : Home → Changed
list_blocks h = reply_alone h (BlockList (map item_of (by_address (blocks_of h.region))))
