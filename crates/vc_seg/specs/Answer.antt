-- What a call of a region answers, by the outcome that the definitions give.
use Rattle.std.specs.Prelude.{◌≡◌, ℕ, List, Bool, true, false, Result, Ok, Err}
use Rattle.vc_model.specs.Addr.{address, place_of}
use Rattle.vc_model.specs.Discipline.{Discipline, LentNothing, Served, Unserved}
use Rattle.vc_model.specs.Outcome.{Outcome, Done, Refused, Put, TooManySegments, NoSegment, Fixed, PoolSize, NotLast, WrongMethod}
use Rattle.vc_base.specs.declared.addr.Addr.{Addr}
use Rattle.vc_seg.specs.declared.fault.RegionFault.{RegionFault}
use Rattle.vc_seg.specs.declared.fault.RegionFault.TheVariants as code

-- the block is at that address, and the call leaves this region
abbrev pub IsPut : {R : Type 0} → Outcome (Put R) → ℕ → R → Type 0
IsPut (Done p) a r = (a ≡ address p.at) × (p.at ≡ place_of a) × (r ≡ p.region)
IsPut (Refused why) a r = ⊥

-- a fault is the refusal of the definitions, which takes a refused segment where the fault tells one; want of memory may come at any time
abbrev pub IsRefusal : {A : Type 0} → (Bool → Outcome A) → RegionFault → Type 0
IsRefusal call code.TooManySegments = call false ≡ Refused TooManySegments
IsRefusal call code.NoSegment = call true ≡ Refused NoSegment
IsRefusal call code.OutOfMemory = Unit {0}
IsRefusal call code.Fixed = call false ≡ Refused Fixed
IsRefusal call code.PoolSize = call false ≡ Refused PoolSize
IsRefusal call code.NotLast = call false ≡ Refused NotLast
IsRefusal call code.WrongMethod = call false ≡ Refused WrongMethod

-- the answer of a call that puts or keeps a block, and the region before it and after it; a fault changes nothing. Whether a segment is refused is the one free choice of the definitions
abbrev pub Answers : {R : Type 0} → (Bool → Outcome (Put R)) → Result Addr RegionFault → R → R → Type 0
Answers call (Ok a) old new = IsPut (call false) a.0 new
Answers call (Err why) old new = IsRefusal call why × (new ≡ old)

-- the answer of a call that frees a block, and the region before it and after it
abbrev pub Frees : {R : Type 0} → Outcome R → Result Unit RegionFault → R → R → Type 0
Frees outcome (Ok done) old new = outcome ≡ Done new
Frees outcome (Err why) old new = IsRefusal (λ refused. outcome) why × (new ≡ old)

-- what such a call leaves of the discipline, of the region's segments before it and after it, and of the size that it may have asked for
abbrev pub Asks : Result Addr RegionFault → Discipline → Discipline → List (ℕ × ℕ) → List (ℕ × ℕ) → ℕ → Type 0
Asks (Err code.NoSegment) old new segments segments' size = Unserved old new size
Asks (Err code.OutOfMemory) old new segments segments' size = LentNothing old new
Asks answer old new segments segments' size = Served old new segments segments' size
