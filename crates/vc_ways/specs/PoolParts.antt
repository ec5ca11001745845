-- What the pools of the classes stand for.
use Rattle.std.specs.Prelude.{◌≡◌, ◌≢◌, ℕ, All, IsErrOf, List, Result, is_ok, length, map}
use Rattle.vc_base.specs.declared.addr.Addr.{Addr}
use Rattle.vc_model.specs.Discipline.{Discipline, Terms}
use Rattle.vc_model.specs.Layout.{Block}
use Rattle.vc_model.specs.Pool as model
use Rattle.vc_model.specs.Touch.{HasBlock}
use Rattle.vc_pool.specs.Parts.{disc_in, pool_of, segments_in}
use Rattle.vc_pool.specs.declared.pool.Pool.{Pool}
use Rattle.vc_seg.specs.OneBlock.{IsSize}
use Rattle.vc_seg.specs.declared.fault.RegionFault.{RegionFault}
use Rattle.vc_seg.specs.declared.fault.RegionFault.TheVariants as code
use Rattle.vc_ways.specs.Answer.{HasOwnSegmentsOut, Holding, KeepsWays}
use Rattle.vc_ways.specs.Asking.{Refuses, asking_cell}
use Rattle.vc_ways.specs.PoolWay.{class_of, pool_at}

-- the pools, by class
abbrev pub pools_of : {I : Type 0} {V : I → Type 0} → List (Pool I V) → List (model.Pool ℕ)
pools_of pools = map pool_of pools

-- a discipline and the segments that a pool has of it
abbrev pub holding_in : {I : Type 0} {V : I → Type 0} → ((x : I) × V x → Discipline) → Pool I V → Holding
holding_in meaning p = record { disc = disc_in meaning p; segments = segments_in p }

abbrev pub holdings : {I : Type 0} {V : I → Type 0} → ((x : I) × V x → Discipline) → List (Pool I V) → List Holding
holdings meaning pools = map (holding_in meaning) pools

-- the terms of these disciplines
abbrev pub terms_in : List Holding → List Terms
terms_in holdings = map (λ h. h.disc.terms) holdings

-- the blocks of a class
abbrev pub class_blocks : List (model.Pool ℕ) → ℕ → List (Block ℕ)
class_blocks pools class = (pool_at pools class).layout.blocks

-- the class of a size has a cell taken at an address
abbrev pub HasCell : List (model.Pool ℕ) → ℕ → ℕ → Type 0
HasCell pools size a = HasBlock (class_blocks pools (class_of size)) a

-- a cell of a class is taken at an address, apart from each other one that stays, and those are taken still
pub record CellComes (Stays : ℕ → ℕ → Type 0) (old : List (model.Pool ℕ)) (class a : ℕ) (new : List (model.Pool ℕ)) : Type 0 where
  pub there : HasBlock (class_blocks new class) a
  pub others : (n b : ℕ) → HasBlock (class_blocks old n) b → Stays n b → HasBlock (class_blocks new n) b × (n ≡ class → b ≢ a)

-- the pools may ask their disciplines for a block of a size
pub record CanAskPools {I : Type 0} {V : I → Type 0} (meaning : (x : I) × V x → Discipline) (pools : List (Pool I V)) (size : ℕ) : Type 0 where
  pub fits : IsSize size
  pub classes : length pools ≡ 20
  pub lent : All HasOwnSegmentsOut (holdings meaning pools)

-- what they leave when one asked: a pool for each class; the disciplines are kept, and where it tells of a refused segment, its discipline refused it
pub record LeavesPools {I : Type 0} {V : I → Type 0} (meaning : (x : I) × V x → Discipline) (old : List (Pool I V)) (size : ℕ) (result : Result Addr RegionFault) (new : List (Pool I V)) : Type 0 where
  pub classes : length new ≡ 20
  pub keeps : KeepsWays (is_ok result) (holdings meaning old) (holdings meaning new)
  pub refused : IsErrOf result code.NoSegment → Refuses (asking_cell (terms_in (holdings meaning old)) (pools_of old) size) (holdings meaning old) (holdings meaning new)
