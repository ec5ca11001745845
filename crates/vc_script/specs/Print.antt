-- The printed line of each reply. Numbers are decimal.
use Rattle.std.specs.Prelude.{ℕ, ℤ, List, [], ◌∷◌, ◌++◌, Option, Some, None, codes, decimal, length}
use Rattle.std.specs.Fmt.{signed_decimal}
use Rattle.std.specs.List.{flat_map}
use Rattle.hex.specs.Hex.{encode_lower}
use Rattle.vc_base.specs.declared.dict_method.DictMethod.{DictMethod}
use Rattle.vc_base.specs.declared.dict_method.DictMethod.TheVariants.{DtSet, DtBag, DtOset, DtObag, DtList, DtStack, DtQueue}
use Rattle.vc_seg.specs.declared.profile_row.ProfileRow.{ProfileRow}
use Rattle.vc_seg.specs.declared.stat.Stat.{Stat}
use Rattle.vc_script.specs.declared.place.Place.{Place}
use Rattle.vc_script.specs.declared.refusal.Refusal.{Refusal}
use Rattle.vc_script.specs.declared.refusal.Refusal.TheVariants as why
use Rattle.vc_script.specs.declared.reply.Reply.{Reply}
use Rattle.vc_script.specs.declared.reply.Reply.TheVariants.{Opened, Closed, Cleared, Compacted, At, Freed, Written, Hex, Size, AddrIn, AddrNone, SegmentIs, SegmentNone, Stats, SegmentList, BlockList, Poked, Damaged, Watched, Rows, New, Old, Gone, Out, Found, Nothing, Objects, Number, Views, MethodIs, Emptied, ShutDown, Refused}
use Rattle.vc_script.specs.Shown.{shown_bytes}

abbrev pub refusal_text : Refusal → List ℕ
refusal_text why.NoRegion = codes "no region"
refusal_text why.RegionExists = codes "region exists"
refusal_text why.NoSuchDiscipline = codes "no such discipline"
refusal_text why.DisciplineInUse = codes "discipline in use"
refusal_text why.NoBlock = codes "no block"
refusal_text why.BlockExists = codes "block exists"
refusal_text (why.FreedAt line) = codes "freed at line " ++ decimal line
refusal_text why.NoDictionary = codes "no dictionary"
refusal_text why.DictionaryExists = codes "dictionary exists"
refusal_text why.NoSuchKind = codes "no such kind"
refusal_text why.WrongMethod = codes "wrong method"
refusal_text why.Size = codes "size"
refusal_text why.Range = codes "range"
refusal_text why.TooManyBlocks = codes "too many blocks"
refusal_text why.TooManyDictionaries = codes "too many dictionaries"
refusal_text why.PoolSize = codes "pool size"
refusal_text why.NotLast = codes "not last"
refusal_text why.CannotGrow = codes "cannot grow here"
refusal_text why.Busy = codes "busy"
refusal_text why.Viewed = codes "viewed"
refusal_text why.ViewDiffers = codes "view differs"
refusal_text why.ViewCycle = codes "view cycle"
refusal_text why.ViewTooDeep = codes "view too deep"
refusal_text why.TooManySegments = codes "too many segments"
refusal_text why.NoSegment = codes "no segment"
refusal_text why.NoSegmentForTable = codes "no segment for table"
refusal_text why.NoSegmentForObject = codes "no segment for object"

abbrev pub method_word : DictMethod → List ℕ
method_word DtSet = codes "set"
method_word DtBag = codes "bag"
method_word DtOset = codes "oset"
method_word DtObag = codes "obag"
method_word DtList = codes "list"
method_word DtStack = codes "stack"
method_word DtQueue = codes "queue"

-- the line of a block's watch, where it is watched
abbrev pub watch_text : Option ℕ → List ℕ
watch_text None = []
watch_text (Some line) = codes " watched " ++ decimal line

-- `*` where a block has no label
abbrev pub label_text : Option (List ℕ) → List ℕ
label_text None = codes "*"
label_text (Some label) = label

-- `-` where a dictionary views none
abbrev pub viewed_text : Option (List ℕ) → List ℕ
viewed_text None = codes "-"
viewed_text (Some name) = name

-- a number and its size
abbrev pub segment_text : ℕ × ℕ → List ℕ
segment_text s = codes " " ++ decimal s.0 ++ codes ":" ++ decimal s.1

-- a label, a place and a size
abbrev pub block_text : Option (List ℕ) × Place × ℕ → List ℕ
block_text b =
    codes " " ++ label_text b.0 ++ codes "@" ++ decimal b.1.seg ++ codes ":" ++ decimal b.1.off ++ codes "+" ++ decimal b.2

-- a label and the offset of the first damaged byte
abbrev pub damage_text : List ℕ × ℤ → List ℕ
damage_text d = codes " " ++ d.0 ++ codes ":" ++ signed_decimal d.1

abbrev pub row_text : ProfileRow → List ℕ
row_text r =
    codes " " ++ r.site ++ codes "=" ++ decimal r.blocks ++ codes "," ++ decimal r.bytes ++ codes "," ++ decimal r.peak

abbrev pub object_text : List ℕ → List ℕ
object_text object = codes " " ++ shown_bytes object

abbrev pub stat_numbers : Stat → List ℕ
stat_numbers s =
    codes "busy " ++ decimal s.busy ++ codes " free " ++ decimal s.free
    ++ codes " sbusy " ++ decimal s.sbusy ++ codes " sfree " ++ decimal s.sfree
    ++ codes " mbusy " ++ decimal s.mbusy ++ codes " mfree " ++ decimal s.mfree
    ++ codes " segs " ++ decimal s.segs ++ codes " extent " ++ decimal s.extent

-- the line of a reply, without its newline
abbrev pub printed : Reply → List ℕ
printed (Opened name) = name ++ codes " open"
printed (Closed region count) = region ++ codes " closed " ++ decimal count
printed (Cleared region) = region ++ codes " cleared"
printed (Compacted region count) = region ++ codes " compacted " ++ decimal count
printed (At block place line) = block ++ codes " " ++ decimal place.seg ++ codes ":" ++ decimal place.off ++ watch_text line
printed (Freed block line) = block ++ codes " freed" ++ watch_text line
printed (Written block count line) = block ++ codes " written " ++ decimal count ++ watch_text line
printed (Hex block bytes) = block ++ codes " " ++ encode_lower bytes
printed (Size block size) = block ++ codes " " ++ decimal size
printed (AddrIn block off) = codes "addr " ++ label_text block ++ codes " " ++ decimal off
printed AddrNone = codes "addr -1"
printed (SegmentIs number size) = codes "segment " ++ decimal number ++ codes " " ++ decimal size
printed SegmentNone = codes "segment -1"
printed (Stats stat) = stat_numbers stat
printed (SegmentList items) = codes "segments " ++ decimal (length items) ++ flat_map segment_text items
printed (BlockList items) = codes "blocks " ++ decimal (length items) ++ flat_map block_text items
printed (Poked block line) = block ++ codes " poked" ++ watch_text line
printed (Damaged items) = codes "check " ++ decimal (length items) ++ flat_map damage_text items
printed (Watched block) = block ++ codes " watched"
printed (Rows items) = codes "profile " ++ decimal (length items) ++ flat_map row_text items
printed (New object) = codes "new " ++ shown_bytes object
printed (Old object) = codes "old " ++ shown_bytes object
printed (Gone object) = codes "gone " ++ shown_bytes object
printed (Out object) = codes "out " ++ shown_bytes object
printed (Found object) = codes "found " ++ shown_bytes object
printed Nothing = codes "none"
printed (Objects items) = decimal (length items) ++ flat_map object_text items
printed (Number count) = decimal count
printed (Views dict viewed) = dict ++ codes " views " ++ viewed_text viewed
printed (MethodIs dict method) = dict ++ codes " method " ++ method_word method
printed (Emptied dict count) = dict ++ codes " empty " ++ decimal count
printed (ShutDown dict) = dict ++ codes " shut"
printed (Refused why) = codes "refused: " ++ refusal_text why

abbrev pub line_of : Reply → List ℕ
line_of reply = printed reply ++ 10 ∷ []

-- a line for each reply
abbrev pub text : List Reply → List ℕ
text replies = flat_map line_of replies
