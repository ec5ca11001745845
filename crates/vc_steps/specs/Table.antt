-- The answer where no table is put.
use Rattle.std.specs.Prelude.{◌≡◌, Option, Some, None, Result, Ok, Err}
use Rattle.vc_seg.specs.declared.fault.RegionFault.{RegionFault}
use Rattle.vc_seg.specs.declared.fault.RegionFault.TheVariants as code
use Rattle.vc_script.specs.declared.refusal.Refusal.TheVariants.{NoSegmentForTable, TooManySegments}
use Rattle.vc_script.specs.declared.reply.Reply.{Reply}
use Rattle.vc_script.specs.declared.reply.Reply.TheVariants as reply

-- the reply to a fault where no table is put, and none to want of memory
abbrev pub table_reply : RegionFault → Option Reply
table_reply code.OutOfMemory = None
table_reply code.NoSegment = Some (reply.Refused NoSegmentForTable)
table_reply fault = Some (reply.Refused TooManySegments)

-- the answer where no table is put is that reply, or want of memory
abbrev pub TellsTable : {E : Type 0} → RegionFault → Result Reply E → Type 0
TellsTable fault (Ok told) = table_reply fault ≡ Some told
TellsTable fault (Err e) = table_reply fault ≡ None
