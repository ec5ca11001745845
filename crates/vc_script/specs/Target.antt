-- Where a command works.
use Rattle.std.specs.Prelude.{ℕ, List, Option, Some, None, Bool, true, false}
use Rattle.vc_script.specs.declared.command.Command.{Command}
use Rattle.vc_script.specs.declared.command.Command.TheVariants as command
use Rattle.vc_script.specs.declared.target.Target.{Target}
use Rattle.vc_script.specs.declared.target.Target.TheVariants.{Shelf, Region, Dict}
use Rattle.vc_script.specs.declared.target.Work.TheVariants.{Own, Look, View, Turn, End}

-- what opens or closes a region, or opens a dictionary, works on the shelf; any other command in a region or on a dictionary
abbrev pub target_of : Command → Target
target_of (command.OpenRegion r method n) = Shelf
target_of (command.CloseRegion r) = Shelf
target_of (command.OpenDict d method r kind) = Shelf
target_of (command.ClearRegion r) = Region r
target_of (command.Compact r) = Region r
target_of (command.Alloc r x size site) = Region r
target_of (command.Align r x size align) = Region r
target_of (command.Resize r x size may_move) = Region r
target_of (command.Free r x) = Region r
target_of (command.WriteBlock r x off bytes) = Region r
target_of (command.ReadBlock r x off len) = Region r
target_of (command.SizeOf r x) = Region r
target_of (command.AddrOf r at) = Region r
target_of (command.SegmentOf r at) = Region r
target_of (command.StatOf r) = Region r
target_of (command.Segments r) = Region r
target_of (command.Blocks r) = Region r
target_of (command.Poke r x off byte) = Region r
target_of (command.Check r) = Region r
target_of (command.Watch r x) = Region r
target_of (command.ProfileOf r) = Region r
target_of (command.Insert d bytes) = Dict d Own
target_of (command.Append d bytes) = Dict d Own
target_of (command.Attach d bytes) = Dict d Own
target_of (command.Delete d bytes) = Dict d Own
target_of (command.Detach d bytes) = Dict d Own
target_of (command.Count d) = Dict d Own
target_of (command.Empty d) = Dict d Own
target_of (command.Search d bytes) = Dict d Look
target_of (command.MatchKey d key) = Dict d Look
target_of (command.First d) = Dict d Look
target_of (command.Last d) = Dict d Look
target_of (command.Next d bytes) = Dict d Look
target_of (command.Prev d bytes) = Dict d Look
target_of (command.Walk d) = Dict d Look
target_of (command.View d viewed) = Dict d View
target_of (command.Remethod d method) = Dict d Turn
target_of (command.Shut d) = Dict d End

-- the region in which it works, and the dictionary on which it does
abbrev pub region_at : Target → Option (List ℕ)
region_at (Region r) = Some r
region_at target = None

abbrev pub dict_at : Target → Option (List ℕ)
dict_at (Dict d work) = Some d
dict_at target = None

-- whether it looks through a dictionary's view path
abbrev pub looks : Target → Bool
looks (Dict d Look) = true
looks target = false

-- whether it works on a dictionary alone: it neither looks through its path, nor sets what it views, nor ends it
abbrev pub works_alone : Target → Bool
works_alone (Dict d Own) = true
works_alone (Dict d Turn) = true
works_alone target = false
