-- A command of a trace.
use Rattle.std.specs.Prelude.{ℕ, List, [], Option, Some, None, Bool, true, bytes_eq, is_none, length, nat_le, nat_lt, ◌&&◌, if◌then◌else◌}
use Rattle.vc_model.specs.Outcome.{Fault}
use Rattle.vc_script.specs.declared.command.Command.{Command}
use Rattle.vc_script.specs.declared.command.Command.TheVariants.{Alloc, Free, Resize}
use Rattle.vc_ways.specs.declared.tally.Tally.{Tally}
use Rattle.vc_ways.specs.declared.way.Way.{Way}
use Rattle.vc_ways.specs.Live.{LivePlaces}
use Rattle.vc_ways.specs.Regions.{Regions, Stopped, Took, Tried, WayTerms, extent_sums, free_in_each, new_regions, put_block, size_block}
use Rattle.vc_ways.specs.Table.{LiveTable, find_live, put_live, sum_of_sizes, without_live}
use Rattle.vc_ways.specs.Tally.{new_tally, tallied}

-- the name of the region in the first command, once there was one; the live blocks; what each way has; what is reported of the commands so far
pub record TraceState : Type 0 where
  pub region : Option (List ℕ)
  pub table : LiveTable
  pub regions : Regions
  pub tally : Tally

-- before the first command
abbrev pub start : TraceState
start = record { region = None; table = []; regions = new_regions; tally = new_tally }

-- how a command ends: the trace goes on from a state; the command is outside of the trace; or a way refuses it
pub data End : Type 0 where
  Goes : (after : TraceState) → End
  Outside : End
  Stops : (way : Way) (why : Fault) → End

-- with these live blocks and ways
abbrev pub goes : TraceState → List ℕ → LiveTable → Regions → End
goes s r table regions =
    Goes (record { region = Some r; table = table; regions = regions; tally = tallied s.tally (sum_of_sizes table) (extent_sums regions) })

-- a block of a name is where each way has it
abbrev pub goes_with : TraceState → List ℕ → List ℕ → Tried (LivePlaces × Regions) → End
goes_with s r x (Took p) = goes s r (put_live x p.0 s.table) p.1
goes_with s r x (Stopped way why) = Stops way why

abbrev pub size_found : WayTerms → TraceState → List ℕ → List ℕ → ℕ → Option Way → Option LivePlaces → End
size_found terms s r x size refused None = Outside
size_found terms s r x size refused (Some live) = goes_with s r x (size_block terms s.regions live size refused)

abbrev pub free_found : TraceState → List ℕ → List ℕ → Option LivePlaces → End
free_found s r x None = Outside
free_found s r x (Some live) = goes s r (without_live x s.table) (free_in_each s.regions live)

-- a trace names one region, that of its first command
abbrev pub is_its_region : Option (List ℕ) → List ℕ → Bool
is_its_region None r = true
is_its_region (Some first) r = bytes_eq first r

-- a block has 1 to 16,777,216 bytes
abbrev pub is_size : ℕ → Bool
is_size size = nat_le 1 size && nat_le size 16777216

-- a trace has at most so many live blocks
abbrev pub live_limit : ℕ
live_limit = 1000000

-- a block of a new name is put where there are fewer
abbrev pub is_new : LiveTable → List ℕ → Bool
is_new table x = is_none (find_live x table) && nat_lt (length table) live_limit

-- a command is alloc, resize with moving, or free; every other one is outside of a trace
abbrev pub trace_step : WayTerms → TraceState → Command → Option Way → End
trace_step terms s (Alloc r x size site) refused =
    if is_its_region s.region r && (is_size size && is_new s.table x) then goes_with s r x (put_block terms s.regions size refused) else Outside
trace_step terms s (Resize r x size may_move) refused =
    if is_its_region s.region r && (is_size size && may_move) then size_found terms s r x size refused (find_live x s.table) else Outside
trace_step terms s (Free r x) refused = if is_its_region s.region r then free_found s r x (find_live x s.table) else Outside
trace_step terms s command refused = Outside
