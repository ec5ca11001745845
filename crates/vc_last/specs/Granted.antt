-- Segments with their bytes, and what asking a discipline for bytes makes of them.
use Rattle.std.specs.Prelude.{◌≡◌, ◌≢◌, ℕ, List, [], ◌∷◌, ◌++◌, Err, IfErr, IsErrOf, OnErr, OnOk, Result, false, map, if◌then◌else◌}
use Rattle.vc_model.specs.Discipline.{Discipline, Served, Terms}
use Rattle.vc_model.specs.Segments.{Grant, Granted, TooMany, ask}
use Rattle.vc_seg.specs.Lend.{IsAsked, IsNoGrant}
use Rattle.vc_seg.specs.Segment.{AreSegments, Bytes, grown_segment, pair_of, zero_segment}
use Rattle.vc_seg.specs.declared.fault.RegionFault.{RegionFault}
use Rattle.vc_seg.specs.declared.fault.RegionFault.TheVariants as code

-- the segments with so many zeros more behind the last one's bytes
abbrev pub with_zeros : ℕ → List Bytes → List Bytes
with_zeros more [] = []
with_zeros more (s ∷ []) = grown_segment more s ∷ []
with_zeros more (s ∷ t ∷ ss) = s ∷ with_zeros more (t ∷ ss)

-- the segments with what is granted, all of it zeros
abbrev pub with_granted : Grant → List Bytes → List Bytes
with_granted g segs = if g.fresh then segs ++ zero_segment g.number g.bytes ∷ [] else with_zeros g.bytes segs

-- so many bytes were granted to a region with these, and stand among them
pub record IsGranted (terms : Terms) (bytes : ℕ) (old new : List Bytes) : Type 0 where
  pub grant : Grant
  pub granted : ask terms bytes (map pair_of old) false ≡ Granted grant
  pub segments : new ≡ with_granted grant old

-- what asking for so many bytes answers, and leaves of a region's segments and of the discipline; a fault leaves the segments
pub record IsObtained (bytes : ℕ) (result : Result Unit RegionFault) (old new : List Bytes) (d e : Discipline) : Type 0 where
  pub granted : OnOk result (IsGranted d.terms bytes old new)
  pub served : OnOk result (Served d e (map pair_of old) (map pair_of new) bytes)
  pub legal : AreSegments new
  pub fault : IfErr result (IsNoGrant d.terms bytes (map pair_of old))
  pub may : IsErrOf result code.OutOfMemory → ask d.terms bytes (map pair_of old) false ≢ TooMany
  pub same : OnErr result (new ≡ old)
  pub refused : IfErr result (λ why. IsAsked (Err why) d e bytes)
