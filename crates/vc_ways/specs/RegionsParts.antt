-- What the regions of the three ways stand for, and what their calls answer.
use Rattle.std.specs.Prelude.{◌≡◌, ◌≢◌, ℕ, All, IfErr, List, ◌∷◌, OnOk, Option, Some, None, Result, Ok, Err, false, is_ok, length, slice_index_or, true}
use Rattle.vc_model.specs.Addr.{place_of}
use Rattle.vc_model.specs.Discipline.{Discipline}
use Rattle.vc_model.specs.Outcome as outcome
use Rattle.vc_model.specs.Touch.{HasBlock}
use Rattle.vc_best.specs.Parts.{disc_in, layout_of, segments_in}
use Rattle.vc_best.specs.declared.best.Best.{Best}
use Rattle.vc_seg.specs.OneBlock.{IsSize}
use Rattle.vc_seg.specs.declared.fault.RegionFault.{RegionFault}
use Rattle.vc_seg.specs.declared.fault.RegionFault.TheVariants as code
use Rattle.vc_ways.specs.Answer.{HasOwnSegmentsOut, Holding, KeepsWays}
use Rattle.vc_ways.specs.Asking.{IsUnserved}
use Rattle.vc_ways.specs.LastParts.{IsPaired, holding_of, way_of}
use Rattle.vc_ways.specs.Live as model
use Rattle.vc_ways.specs.PoolParts.{HasCell, holdings, pools_of, terms_in}
use Rattle.vc_ways.specs.PoolWay.{class_of}
use Rattle.vc_ways.specs.Regions as ways
use Rattle.vc_ways.specs.Regions.{Stopped, Took, Tried, WayTerms}
use Rattle.vc_ways.specs.declared.live.Live.{Live}
use Rattle.vc_ways.specs.declared.regions.Regions.{Regions}
use Rattle.vc_ways.specs.declared.regions.Stop.{Stop}
use Rattle.vc_ways.specs.declared.way.Way.{Way}

-- what each way has
abbrev pub regions_of : {I : Type 0} {V : I → Type 0} → Regions I V → ways.Regions
regions_of r = record { best = layout_of r.best; last = way_of r.last; pools = pools_of r.pools.items }

-- the discipline of the best region and its segments
abbrev pub best_holding : {I : Type 0} {V : I → Type 0} → ((x : I) × V x → Discipline) → Best I V → Holding
best_holding meaning b = record { disc = disc_in meaning b; segments = segments_in b }

-- all disciplines, each with the segments that a way has of it: of the best region, of the last region, and of each class
abbrev pub all_holdings : {I : Type 0} {V : I → Type 0} → ((x : I) × V x → Discipline) → Regions I V → List Holding
all_holdings meaning r = best_holding meaning r.best ∷ holding_of meaning r.last ∷ holdings meaning r.pools.items

-- their terms
abbrev pub terms_of : {I : Type 0} {V : I → Type 0} → ((x : I) × V x → Discipline) → Regions I V → WayTerms
terms_of meaning r =
    record {
      best = (disc_in meaning r.best).terms;
      last = (holding_of meaning r.last).disc.terms;
      pools = terms_in (holdings meaning r.pools.items);
    }

-- each block of the last region has a flag, and each class a pool
pub record HasFlagsAndPools {I : Type 0} {V : I → Type 0} (r : Regions I V) : Type 0 where
  pub paired : IsPaired r.last
  pub classes : length r.pools.items ≡ 20

-- a live block, in the words of the definitions
abbrev pub live_of : Live → model.LivePlaces
live_of l = record { size = l.size; best = place_of l.best.0; last = l.last; cell = place_of l.cell.0 }

-- a live block is in each way, and isn't dead
pub record IsLiveIn (r : ways.Regions) (l : Live) : Type 0 where
  pub size : IsSize l.size
  pub best : HasBlock r.best.blocks l.best.0
  pub last : slice_index_or r.last.dead l.last true ≡ false
  pub cell : HasCell r.pools l.size l.cell.0

-- no way has two live blocks at one place
pub record StandApart (a b : Live) : Type 0 where
  pub best : a.best.0 ≢ b.best.0
  pub last : a.last ≢ b.last
  pub cell : class_of a.size ≡ class_of b.size → a.cell.0 ≢ b.cell.0

-- a block is live after a call, apart from each other one that stays, and those are live still
pub record Comes (Stays : Live → Type 0) (old : ways.Regions) (l : Live) (new : ways.Regions) : Type 0 where
  pub there : IsLiveIn new l
  pub others : (k : Live) → IsLiveIn old k → Stays k → IsLiveIn new k × StandApart k l

-- a way stops a command, by its fault; want of memory may come at any time
abbrev pub IsStopped : {A : Type 0} → (Way → outcome.Fault → A) → (Option Way → A) → Way → RegionFault → Type 0
IsStopped stopped call way code.TooManySegments = call None ≡ stopped way outcome.TooManySegments
IsStopped stopped call way code.NoSegment = call (Some way) ≡ stopped way outcome.NoSegment
IsStopped stopped call way code.OutOfMemory = Unit {0}
IsStopped stopped call way code.Fixed = call None ≡ stopped way outcome.Fixed
IsStopped stopped call way code.PoolSize = call None ≡ stopped way outcome.PoolSize
IsStopped stopped call way code.NotLast = call None ≡ stopped way outcome.NotLast
IsStopped stopped call way code.WrongMethod = call None ≡ stopped way outcome.WrongMethod

abbrev pub IsStop : (Option Way → Tried (model.LivePlaces × ways.Regions)) → Way → RegionFault → Type 0
IsStop call way why = IsStopped (λ way why. Stopped way why) call way why

-- the answer of a call in all ways, and what they have after it
abbrev pub AnswersInAllWays : (Option Way → Tried (model.LivePlaces × ways.Regions)) → Result Live Stop → ways.Regions → Type 0
AnswersInAllWays call (Ok l) new = call None ≡ Took (live_of l, new)
AnswersInAllWays call (Err stop) new = IsStop call stop.way stop.fault

-- the regions may ask for a block of a size in each way
pub record CanAskWays {I : Type 0} {V : I → Type 0} (meaning : (x : I) × V x → Discipline) (r : Regions I V) (size : ℕ) : Type 0 where
  pub fits : IsSize size
  pub whole : HasFlagsAndPools r
  pub lent : All HasOwnSegmentsOut (all_holdings meaning r)

-- what they leave when the ways asked: if all went, they are whole; the disciplines are kept, and where a stop tells of a refused segment, that of its way refused it
pub record LeavesWays {I : Type 0} {V : I → Type 0} (meaning : (x : I) × V x → Discipline) (old : Regions I V) (size : ℕ) (result : Result Live Stop) (new : Regions I V) : Type 0 where
  pub whole : OnOk result (HasFlagsAndPools new)
  pub keeps : KeepsWays (is_ok result) (all_holdings meaning old) (all_holdings meaning new)
  pub refused : IfErr result (λ stop. IsUnserved (terms_of meaning old) (regions_of old) size stop (all_holdings meaning old) (all_holdings meaning new))
