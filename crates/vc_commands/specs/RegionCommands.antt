-- The commands on one region.
use Rattle.std.specs.Prelude.{ℕ, Bool, true, false}
use Rattle.vc_script.specs.declared.command.Command.{Command}
use Rattle.vc_script.specs.declared.command.Command.TheVariants.{ClearRegion, Compact, Alloc, Align, Resize, Free, WriteBlock, ReadBlock, SizeOf, AddrOf, SegmentOf, StatOf, Segments, Blocks, Poke, Check, Watch, ProfileOf}
use Rattle.vc_script.specs.declared.refusal.Refusal.TheVariants as why
use Rattle.vc_script.specs.Needs.{Need, NoNeed, ForBlock, ForTable, ForObject}
use Rattle.vc_commands.specs.Home.{Changed, Home, refusal_alone}
use Rattle.vc_commands.specs.Blocks.{align_in, alloc_in, free_named, read_named, resize_named, size_of_named, write_named}
use Rattle.vc_commands.specs.Audit.{check_in, poke_in, profile_in, watch_in}
use Rattle.vc_commands.specs.Whole.{addr_in, clear_in, compact_in, list_blocks, list_segments, segment_in, stat_in}

-- whether a need is of the segment of a block
abbrev pub is_for_block : Need → Bool
is_for_block NoNeed = false
is_for_block ForBlock = true
is_for_block ForTable = false
is_for_block ForObject = false

-- a command at a line in its region; the need is the one free choice
abbrev pub in_region : Home → ℕ → Command → Need → Changed
in_region h line (ClearRegion r) need = clear_in h r line
in_region h line (Compact r) need = compact_in h r
in_region h line (Alloc r x size site) need = alloc_in h x site size (is_for_block need)
in_region h line (Align r x size align) need = align_in h x size align (is_for_block need)
in_region h line (Resize r x size may_move) need = resize_named h x size may_move (is_for_block need)
in_region h line (Free r x) need = free_named h x line
in_region h line (WriteBlock r x off bytes) need = write_named h x off bytes
in_region h line (ReadBlock r x off len) need = read_named h x off len
in_region h line (SizeOf r x) need = size_of_named h x
in_region h line (AddrOf r at) need = addr_in h at
in_region h line (SegmentOf r at) need = segment_in h at
in_region h line (StatOf r) need = stat_in h
in_region h line (Segments r) need = list_segments h
in_region h line (Blocks r) need = list_blocks h
in_region h line (Poke r x off byte) need = poke_in h x off byte
in_region h line (Check r) need = check_in h
in_region h line (Watch r x) need = watch_in h line x
in_region h line (ProfileOf r) need = profile_in h
in_region h line command need = refusal_alone h why.NoRegion

-- the size and the alignment of the block that a command puts
abbrev pub block_asked : Command → ℕ × ℕ
block_asked (Alloc r x size site) = (size, 32)
block_asked (Align r x size align) = (size, align)
block_asked (Resize r x size may_move) = (size, 32)
block_asked command = (0, 32)

-- whether a command puts a block, resizes it or frees it
abbrev pub puts_block : Command → Bool
puts_block (Alloc r x size site) = true
puts_block (Align r x size align) = true
puts_block (Resize r x size may_move) = true
puts_block (Free r x) = true
puts_block command = false
