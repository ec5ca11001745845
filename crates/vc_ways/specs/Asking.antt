-- What a way asks its discipline for, and a discipline that refuses it.
use Rattle.std.specs.Prelude.{◌≡◌, ℕ, zero, suc, List, ◌∷◌, ◌==◌, true}
use Rattle.vc_model.specs.Best.{best_need}
use Rattle.vc_model.specs.Discipline.{Terms, Unserved}
use Rattle.vc_model.specs.Last.{last_need}
use Rattle.vc_model.specs.Pool.{Pool, pool_need}
use Rattle.vc_seg.specs.declared.fault.RegionFault.TheVariants as code
use Rattle.vc_script.specs.Answer.{answer}
use Rattle.vc_script.specs.declared.command.Command.{Command}
use Rattle.vc_script.specs.declared.command.Command.TheVariants.{Alloc, Resize}
use Rattle.vc_script.specs.declared.line_answer.LineAnswer.{LineAnswer}
use Rattle.vc_script.specs.declared.line_answer.LineAnswer.TheVariants.{Is}
use Rattle.vc_script.specs.declared.tool.Tool.TheVariants.{Vmreplay}
use Rattle.vc_ways.specs.Answer.{Holding, KeepsWays}
use Rattle.vc_ways.specs.PoolWay.{class_bytes, class_of, pool_at, terms_at}
use Rattle.vc_ways.specs.Regions.{Regions, WayTerms}
use Rattle.vc_ways.specs.declared.regions.Stop.{Stop}
use Rattle.vc_ways.specs.declared.way.Way.{Way}
use Rattle.vc_ways.specs.declared.way.Way.TheVariants as way

-- how many disciplines stand before the one that is asked, the segments that its region has, and the bytes that it is asked for
pub record Asking : Type 0 where
  pub place : ℕ
  pub segments : List (ℕ × ℕ)
  pub bytes : ℕ

-- the pool of its class asks for a block of a size, the class of 32 bytes first
abbrev pub asking_cell : List Terms → List (Pool ℕ) → ℕ → Asking
asking_cell terms pools size =
    record {
      place = class_of size;
      segments = (pool_at pools (class_of size)).layout.segments;
      bytes = pool_need (terms_at terms (class_of size)) (pool_at pools (class_of size)) (class_bytes (class_of size));
    }

-- behind the best region and the last one
abbrev pub behind_two : Asking → Asking
behind_two a = record { place = suc (suc a.place); segments = a.segments; bytes = a.bytes }

-- a way asks for a block of a size: the best region first, then the last one, then the pools
abbrev pub asking : WayTerms → Regions → Way → ℕ → Asking
asking terms r way.Best size = record { place = 0; segments = r.best.segments; bytes = best_need terms.best size 32 }
asking terms r way.Last size = record { place = 1; segments = r.last.region.segments; bytes = last_need terms.last size }
asking terms r way.Pool size = behind_two (asking_cell terms.pools r.pools size)

-- of disciplines before and after it, the one behind so many refused a region with these segments so many bytes
abbrev pub RefusesBehind : ℕ → List (ℕ × ℕ) → ℕ → List Holding → List Holding → Type 0
RefusesBehind zero segments bytes (a ∷ rest) (b ∷ others) = (a.segments ≡ segments) × Unserved a.disc b.disc bytes
RefusesBehind (suc n) segments bytes (a ∷ rest) (b ∷ others) = RefusesBehind n segments bytes rest others
RefusesBehind n segments bytes olds news = ⊥

-- the one that was asked refused
abbrev pub Refuses : Asking → List Holding → List Holding → Type 0
Refuses a old new = RefusesBehind a.place a.segments a.bytes old new

-- where a stop tells of a refused segment, its way asked for a block of that size, and was refused
abbrev pub IsUnserved : WayTerms → Regions → ℕ → Stop → List Holding → List Holding → Type 0
IsUnserved terms r size stop old new = stop.fault ≡ code.NoSegment → Refuses (asking terms r stop.way size) old new

-- the size of the block that a command puts, or that it gives another size
abbrev pub size_asked : Command → ℕ
size_asked (Alloc r x size site) = size
size_asked (Resize r x size may_move) = size
size_asked command = 0

abbrev pub answered_size : LineAnswer → ℕ
answered_size (Is command) = size_asked command
answered_size other = 0

-- that of the line of a number
abbrev pub line_size : ℕ → List ℕ → ℕ
line_size n line = answered_size (answer Vmreplay (n == 1) line)

-- from what was held to what is held, the one that was asked refused last; all calls before went
pub record AreRefused (old new : List Holding) (a : Asking) : Type 0 where
  pub before : List Holding
  pub kept : KeepsWays true old before
  pub refuses : Refuses a before new
