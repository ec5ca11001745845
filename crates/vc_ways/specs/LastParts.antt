-- What a way of a last region stands for.
use Rattle.std.specs.Prelude.{◌≡◌, ℕ, IsErrOf, OnOk, Result, is_ok, length}
use Rattle.vc_model.specs.Discipline.{Discipline, Unserved}
use Rattle.vc_model.specs.Last.{last_need}
use Rattle.vc_last.specs.declared.last.Last.{Last}
use Rattle.vc_last.specs.Parts.{disc_in, layout_of, segments_in}
use Rattle.vc_seg.specs.OneBlock.{IsSize}
use Rattle.vc_seg.specs.declared.fault.RegionFault.{RegionFault}
use Rattle.vc_seg.specs.declared.fault.RegionFault.TheVariants as code
use Rattle.vc_ways.specs.Answer.{HasOwnSegmentsOut, Holding, KeepsWay}
use Rattle.vc_ways.specs.LastWay as model
use Rattle.vc_ways.specs.declared.last_way.LastWay.{LastWay}

-- its region, and which of its blocks are dead
abbrev pub way_of : {I : Type 0} {V : I → Type 0} → LastWay I V → model.LastWay
way_of w = record { region = layout_of w.region; dead = w.dead.items }

-- the discipline of a region and the segments that it has of it
abbrev pub last_holding : {I : Type 0} {V : I → Type 0} → ((x : I) × V x → Discipline) → Last I V → Holding
last_holding meaning l = record { disc = disc_in meaning l; segments = segments_in l }

-- its discipline and its segments
abbrev pub holding_of : {I : Type 0} {V : I → Type 0} → ((x : I) × V x → Discipline) → LastWay I V → Holding
holding_of meaning w = record { disc = disc_in meaning w.region; segments = segments_in w.region }

-- each block has a flag
abbrev pub IsPaired : {I : Type 0} {V : I → Type 0} → LastWay I V → Type 0
IsPaired w = length w.dead.items ≡ length (layout_of w.region).blocks

-- the way may ask its discipline for a block of a size
pub record CanAskLast {I : Type 0} {V : I → Type 0} (meaning : (x : I) × V x → Discipline) (w : LastWay I V) (size : ℕ) : Type 0 where
  pub fits : IsSize size
  pub lent : HasOwnSegmentsOut (holding_of meaning w)
  pub paired : IsPaired w

-- what it leaves when it asked: if it went, each block has a flag; the discipline is kept, and where it tells of a refused segment, that refused the bytes for the block
pub record LeavesLast {I : Type 0} {V : I → Type 0} (meaning : (x : I) × V x → Discipline) (old : LastWay I V) (size : ℕ) (result : Result ℕ RegionFault) (new : LastWay I V) : Type 0 where
  pub paired : OnOk result (IsPaired new)
  pub keeps : KeepsWay (is_ok result) (holding_of meaning old) (holding_of meaning new)
  pub refused : IsErrOf result code.NoSegment → Unserved (holding_of meaning old).disc (holding_of meaning new).disc (last_need (holding_of meaning old).disc.terms size)
