-- What a trace that is run stands for, and what running a command answers.
use Rattle.std.specs.Prelude.{◌≡◌, ◌≢◌, ℕ, ◌+◌, ◌-◌, List, All, Bool, IfErr, OnOk, Option, Some, None, Result, Ok, Err, bytes_eq, false, is_ok, length, map, true}
use Rattle.std.specs.HashMap.{Updates, get}
use Rattle.indexmap.specs.IndexMap.{insert_entry}
use Rattle.vc_model.specs.Discipline.{Discipline}
use Rattle.vc_ways.specs.Answer.{HasOwnSegmentsOut, KeepsWays}
use Rattle.vc_ways.specs.Asking.{IsUnserved}
use Rattle.vc_ways.specs.Extents.{with_extents}
use Rattle.vc_ways.specs.Live as model
use Rattle.vc_ways.specs.Regions.{extent_sums}
use Rattle.vc_ways.specs.RegionsParts.{HasFlagsAndPools, IsLiveIn, IsStopped, StandApart, all_holdings, live_of, regions_of, terms_of}
use Rattle.vc_ways.specs.Step.{End, Goes, Outside, Stops, TraceState}
use Rattle.vc_ways.specs.Table.{LiveTable, sum_of_sizes}
use Rattle.vc_ways.specs.Tally.{tallied}
use Rattle.vc_ways.specs.declared.extent.Newests.{Newests}
use Rattle.vc_ways.specs.declared.live.Live.{Live}
use Rattle.vc_ways.specs.declared.regions.Stop.{Stop}
use Rattle.vc_ways.specs.declared.trace.Trace.{Trace}
use Rattle.vc_ways.specs.declared.way.Way.{Way}

-- the live blocks, by name
abbrev pub named_live : List ℕ × Live → List ℕ × model.LivePlaces
named_live e = (e.0, live_of e.1)

abbrev pub live_table : List (List ℕ × Live) → LiveTable
live_table blocks = map named_live blocks

-- a trace, so far
abbrev pub trace_state : {I : Type 0} {V : I → Type 0} → Trace I V → TraceState
trace_state t = record { region = t.region; table = live_table t.blocks.entries; regions = regions_of t.regions; tally = t.tally }

-- its regions are whole, each with segments that its discipline lent, and have its live blocks, apart from each other; sums are those of the definitions
pub record StandsSoFar {I : Type 0} {V : I → Type 0} (meaning : (x : I) × V x → Discipline) (t : Trace I V) : Type 0 where
  pub whole : HasFlagsAndPools t.regions
  pub lent : All HasOwnSegmentsOut (all_holdings meaning t.regions)
  pub live : (x : List ℕ) (l : Live) → get bytes_eq t.blocks x ≡ Some l → IsLiveIn (regions_of t.regions) l
  pub apart : (x y : List ℕ) (l k : Live) → x ≢ y → get bytes_eq t.blocks x ≡ Some l → get bytes_eq t.blocks y ≡ Some k → StandApart l k
  pub bytes : t.live ≡ sum_of_sizes (live_table t.blocks.entries)
  pub extents : t.extents ≡ extent_sums (regions_of t.regions)

-- it can be closed
pub record CanClose {I : Type 0} {V : I → Type 0} (meaning : (x : I) × V x → Discipline) (t : Trace I V) : Type 0 where
  pub classes : length t.regions.pools.items ≡ 20
  pub lent : All HasOwnSegmentsOut (all_holdings meaning t.regions)

-- what a command that asks for a block of a size leaves: if it went, the trace stands; the disciplines are kept, and where a stop tells of a refused segment, that of its way refused it
pub record LeavesTrace {A : Type 0} {I : Type 0} {V : I → Type 0} (meaning : (x : I) × V x → Discipline) (old : Trace I V) (size : ℕ) (result : Result A Stop) (new : Trace I V) : Type 0 where
  pub stands : OnOk result (StandsSoFar meaning new)
  pub keeps : KeepsWays (is_ok result) (all_holdings meaning old.regions) (all_holdings meaning new.regions)
  pub refused : IfErr result (λ stop. IsUnserved (terms_of meaning old.regions) (regions_of old.regions) size stop (all_holdings meaning old.regions) (all_holdings meaning new.regions))

-- a name has a block, in place of one of so many bytes; before it came these were the newest segments, of the pools in that of its class
pub record IsBlockPlaced {I : Type 0} {V : I → Type 0} (old new : Trace I V) (r x : List ℕ) (block : Live) (gone class : ℕ) (first : Newests) : Type 0 where
  pub region : new.region ≡ Some r
  pub entries : new.blocks.entries ≡ insert_entry bytes_eq old.blocks.entries x block
  pub updates : Updates bytes_eq old.blocks new.blocks x (Some block)
  pub live : new.live ≡ old.live + block.size - gone
  pub extents : new.extents ≡ with_extents (regions_of old.regions) class first old.extents
  pub tally : new.tally ≡ tallied old.tally new.live new.extents

-- what running a command answers: whether it belongs to a trace, or which way stops it; and the trace after it
abbrev pub AnswersCommand : (Option Way → End) → Result Bool Stop → TraceState → Type 0
AnswersCommand call (Ok true) new = call None ≡ Goes new
AnswersCommand call (Ok false) new = call None ≡ Outside
AnswersCommand call (Err stop) new = IsStopped (λ way why. Stops way why) call stop.way stop.fault
