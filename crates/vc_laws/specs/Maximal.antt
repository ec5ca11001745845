-- Gaps in their own words: the longest runs of free bytes. A place is a segment's number and an offset in it.
use Rattle.std.specs.Prelude.{◌≡◌, ℕ, ◌+◌, ◌-◌, ◌<◌, ◌≤◌, List, All, AllPairs, Any}
use Rattle.vc_model.specs.Gap.{Run}
use Rattle.vc_model.specs.Sound.{HaveOwnNumbers, IsApart, IsUsable}

-- a run has the byte at a place
abbrev pub Covers : Run → ℕ × ℕ → Type 0
Covers f at = (f.seg ≡ at.0) × (f.from ≤ at.1) × (at.1 < f.to)

-- the byte at a place is free: it lies in the usable part of a segment, all but its first and its last 16 bytes, and no footprint covers it
pub record IsFreeByte (segments : List (ℕ × ℕ)) (footprints : List Run) (at : ℕ × ℕ) : Type 0 where
  pub usable : Any (λ s. (at.0 ≡ s.0) × (16 ≤ at.1) × (at.1 + 16 < s.1)) segments
  pub uncovered : All (λ f. ¬ Covers f at) footprints

-- a gap is a run that has a byte, whose bytes are free, and that can't be a byte longer at either end
pub record IsWholeGap (segments : List (ℕ × ℕ)) (footprints : List Run) (run : Run) : Type 0 where
  pub some : run.from < run.to
  pub free : (off : ℕ) → run.from ≤ off → off < run.to → IsFreeByte segments footprints (run.seg, off)
  pub before : ¬ IsFreeByte segments footprints (run.seg, run.from - 1)
  pub behind : ¬ IsFreeByte segments footprints (run.seg, run.to)

-- footprints that have bytes, lie in the usable parts of segments and have no byte in common; segments have numbers of their own
pub record AreLawful (segments : List (ℕ × ℕ)) (footprints : List Run) : Type 0 where
  pub numbered : HaveOwnNumbers segments
  pub some : All (λ f. f.from < f.to) footprints
  pub usable : All (IsUsable segments) footprints
  pub apart : AllPairs IsApart footprints
