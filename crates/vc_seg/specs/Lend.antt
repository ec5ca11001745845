-- What asking a discipline for a segment answers and leaves.
use Rattle.std.specs.Prelude.{◌≡◌, ◌≢◌, ℕ, ◌≤◌, List, All, true, false, Ok, Err}
use Rattle.std.specs.declared.result.Result.{Result}
use Rattle.vc_model.specs.Discipline.{Discipline, Lent, LentNothing, Terms, Unserved}
use Rattle.vc_model.specs.Segments.{Granted, TooMany, NotLent, ask, new_segment}
use Rattle.vc_seg.specs.Segment.{Bytes, zero_segment}
use Rattle.vc_seg.specs.declared.fault.RegionFault.{RegionFault}
use Rattle.vc_seg.specs.declared.fault.RegionFault.TheVariants as code

-- a segment of so many zeros is what these terms grant to a region with these, under a number that none of them has
pub record IsGrantOf (terms : Terms) (bytes : ℕ) (segments : List (ℕ × ℕ)) (s : Bytes) : Type 0 where
  pub granted : ask terms bytes segments false ≡ Granted (new_segment s.number bytes)
  pub zeros : s ≡ zero_segment s.number bytes
  pub first : 1 ≤ s.number
  pub last : s.number ≤ 1023
  pub fresh : All (λ t. t.0 ≢ s.number) segments

-- why no segment of that many bytes was granted to a region with these; want of memory may come at any time
abbrev pub IsNoGrant : Terms → ℕ → List (ℕ × ℕ) → RegionFault → Type 0
IsNoGrant terms bytes segments code.TooManySegments = ask terms bytes segments false ≡ TooMany
IsNoGrant terms bytes segments code.NoSegment = ask terms bytes segments true ≡ NotLent
IsNoGrant terms bytes segments code.OutOfMemory = Unit {0}
IsNoGrant terms bytes segments code.Fixed = ⊥
IsNoGrant terms bytes segments code.PoolSize = ⊥
IsNoGrant terms bytes segments code.NotLast = ⊥
IsNoGrant terms bytes segments code.WrongMethod = ⊥

-- what that leaves of the discipline, for the number that it answered or the fault
abbrev pub IsAsked : Result ℕ RegionFault → Discipline → Discipline → ℕ → Type 0
IsAsked (Ok number) old new bytes = Lent old new number bytes
IsAsked (Err code.NoSegment) old new bytes = Unserved old new bytes
IsAsked (Err code.OutOfMemory) old new bytes = LentNothing old new
IsAsked answer old new bytes = new ≡ old
