-- What of its region a command may put, resize or free.
use Rattle.std.specs.Prelude.{ℕ}
use Rattle.vc_objects.specs.Objects.{holder_size}
use Rattle.vc_script.specs.declared.command.Command.{Command}
use Rattle.vc_script.specs.declared.command.Command.TheVariants.{Alloc, Align, Resize, Free, ClearRegion, CloseRegion, OpenDict, Insert, Append, Attach, Delete, Detach, Remethod, Empty, Shut}
use Rattle.vc_script.specs.declared.reply.Reply.{Reply}
use Rattle.vc_script.specs.declared.reply.Reply.TheVariants.{New, Gone, Out}
use Rattle.vc_counts.specs.declared.reach.Reach.{Reach}
use Rattle.vc_counts.specs.declared.reach.Reach.TheVariants.{Nothing, Block, Table, Dict, All}

-- a block that it names, the table of a dictionary and one holder or all, all blocks, or none
abbrev pub reach_of : Command → Reach
reach_of (Alloc r x size site) = Block x
reach_of (Align r x size align) = Block x
reach_of (Resize r x size may_move) = Block x
reach_of (Free r x) = Block x
reach_of (OpenDict d method r kind) = Table d
reach_of (Insert d bytes) = Table d
reach_of (Append d bytes) = Table d
reach_of (Attach d bytes) = Table d
reach_of (Delete d object) = Table d
reach_of (Detach d bytes) = Table d
reach_of (Remethod d method) = Dict d
reach_of (Empty d) = Dict d
reach_of (Shut d) = Dict d
reach_of (ClearRegion r) = All
reach_of (CloseRegion r) = All
reach_of command = Nothing

-- the bytes of the holder that a reply tells was put; 0 where it tells of none
abbrev pub holder_put : Reply → ℕ
holder_put (New bytes) = holder_size bytes
holder_put reply = 0

-- those of the holder that it tells was freed
abbrev pub holder_freed : Reply → ℕ
holder_freed (Gone bytes) = holder_size bytes
holder_freed (Out bytes) = holder_size bytes
holder_freed reply = 0

-- the bytes that a reply tells of besides a table
abbrev pub put_by_reply : Reach → Reply → ℕ
put_by_reply (Table d) reply = holder_put reply
put_by_reply reach reply = 0

abbrev pub bytes_freed_by : Reach → Reply → ℕ
bytes_freed_by (Table d) reply = holder_freed reply
bytes_freed_by reach reply = 0
