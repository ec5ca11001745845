-- What holds of each command that a line gives.
use Rattle.std.specs.Prelude.{ℕ, ◌^◌, ◌<◌, ◌≤◌, List, Bool, true, false, Option, Some, None, IsTrue, nat_abs}
use Rattle.vc_script.specs.declared.command.Command.{Command}
use Rattle.vc_script.specs.declared.command.Command.TheVariants.{OpenRegion, CloseRegion, ClearRegion, Compact, Alloc, Align, Resize, Free, WriteBlock, ReadBlock, SizeOf, AddrOf, SegmentOf, StatOf, Segments, Blocks, Poke, Check, Watch, ProfileOf, OpenDict, Insert, Append, Attach, Delete, Detach, Search, MatchKey, First, Last, Next, Prev, Walk, Count, View, Remethod, Empty, Shut}
use Rattle.vc_script.specs.declared.line_answer.LineAnswer.{LineAnswer}
use Rattle.vc_script.specs.declared.line_answer.LineAnswer.TheVariants.{Blank, Is, Version, Bad}
use Rattle.vc_script.specs.declared.line_fault.LineFault.{LineFault}
use Rattle.vc_script.specs.declared.line_fault.LineFault.TheVariants.{LineTooLong, TooManyLines}
use Rattle.vc_script.specs.declared.place.Place.{Place}
use Rattle.vc_script.specs.Words.{is_name}

abbrev pub IsName : List ℕ → Type 0
IsName bytes = IsTrue (is_name bytes)

-- a name that may be missing
abbrev pub IsSite : Option (List ℕ) → Type 0
IsSite None = Unit {0}
IsSite (Some name) = IsName name

-- a number of the language, or the size of a signed one
abbrev pub IsNumber : ℕ → Type 0
IsNumber n = n < 2 ^ 32

-- the number of a segment, and an offset below the greatest size of one
pub record IsProperAddress (place : Place) : Type 0 where
  pub first : 1 ≤ place.seg
  pub last : place.seg ≤ 1023
  pub below : place.off < 33554432

-- the names in a command are names, and its numbers are numbers of the language
abbrev pub IsProperCommand : Command → Type 0
IsProperCommand (OpenRegion region method n) = IsName region × IsNumber n
IsProperCommand (CloseRegion region) = IsName region
IsProperCommand (ClearRegion region) = IsName region
IsProperCommand (Compact region) = IsName region
IsProperCommand (Alloc region block size site) = IsName region × IsName block × IsNumber size × IsSite site
IsProperCommand (Align region block size align) = IsName region × IsName block × IsNumber size × IsNumber align
IsProperCommand (Resize region block size moves) = IsName region × IsName block × IsNumber size
IsProperCommand (Free region block) = IsName region × IsName block
IsProperCommand (WriteBlock region block off bytes) = IsName region × IsName block × IsNumber off
IsProperCommand (ReadBlock region block off len) = IsName region × IsName block × IsNumber off × IsNumber len
IsProperCommand (SizeOf region block) = IsName region × IsName block
IsProperCommand (AddrOf region place) = IsName region × IsProperAddress place
IsProperCommand (SegmentOf region place) = IsName region × IsProperAddress place
IsProperCommand (StatOf region) = IsName region
IsProperCommand (Segments region) = IsName region
IsProperCommand (Blocks region) = IsName region
IsProperCommand (Poke region block off byte) = IsName region × IsName block × IsNumber (nat_abs off) × IsNumber byte
IsProperCommand (Check region) = IsName region
IsProperCommand (Watch region block) = IsName region × IsName block
IsProperCommand (ProfileOf region) = IsName region
IsProperCommand (OpenDict dict method region kind) = IsName dict × IsName region × IsNumber kind
IsProperCommand (Insert dict object) = IsName dict
IsProperCommand (Append dict object) = IsName dict
IsProperCommand (Attach dict object) = IsName dict
IsProperCommand (Delete dict object) = IsName dict
IsProperCommand (Detach dict object) = IsName dict
IsProperCommand (Search dict object) = IsName dict
IsProperCommand (MatchKey dict key) = IsName dict
IsProperCommand (First dict) = IsName dict
IsProperCommand (Last dict) = IsName dict
IsProperCommand (Next dict object) = IsName dict
IsProperCommand (Prev dict object) = IsName dict
IsProperCommand (Walk dict) = IsName dict
IsProperCommand (Count dict) = IsName dict
IsProperCommand (View dict viewed) = IsName dict × IsSite viewed
IsProperCommand (Remethod dict method) = IsName dict
IsProperCommand (Empty dict) = IsName dict
IsProperCommand (Shut dict) = IsName dict

-- a version is 1 or 2, and only the first line tells one
abbrev pub IsVersion : Bool → ℕ → Type 0
IsVersion true n = (1 ≤ n) × (n ≤ 2)
IsVersion false n = ⊥

-- faults of the words of a line; the other two are found where the input is cut into lines
abbrev pub IsFaultOfWords : LineFault → Type 0
IsFaultOfWords LineTooLong = ⊥
IsFaultOfWords TooManyLines = ⊥
IsFaultOfWords fault = Unit {0}

abbrev pub IsProperAnswer : Bool → LineAnswer → Type 0
IsProperAnswer first Blank = Unit {0}
IsProperAnswer first (Is command) = IsProperCommand command
IsProperAnswer first (Version version) = IsVersion first version
IsProperAnswer first (Bad fault) = IsFaultOfWords fault
