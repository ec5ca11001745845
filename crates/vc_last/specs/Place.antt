-- Places behind the blocks of a segment.
use Rattle.std.specs.Prelude.{◌≡◌, ℕ, ◌+◌, ◌%◌, ◌≤◌, [], ◌∷◌, ◌++◌, All, Any, Some, option_map}
use Rattle.vc_model.specs.Addr.{address, place_of}
use Rattle.vc_model.specs.Best.{zeros}
use Rattle.vc_model.specs.Last.{newest}
use Rattle.vc_model.specs.Layout.{Block, Layout}
use Rattle.vc_model.specs.Segments.{span}

-- the blocks of a segment end at an offset, or before it
abbrev pub EndBefore : ℕ × ℕ → Block ℕ → Type 0
EndBefore at c = c.seg ≡ at.0 → c.off + span c.size ≤ at.1

-- the newest segment has that number
abbrev pub IsNewest : Layout ℕ → ℕ → Type 0
IsNewest r number = option_map (λ s. s.0) (newest r) ≡ Some number

-- an address is that of a place
pub record IsAt (a : ℕ) (at : ℕ × ℕ) : Type 0 where
  pub address : a ≡ address at
  pub place : place_of a ≡ at

-- a place behind all blocks of its segment, with room for a block of that size
pub record IsBlockPlace (r : Layout ℕ) (size : ℕ) (at : ℕ × ℕ) : Type 0 where
  pub behind : All (EndBefore at) r.blocks
  pub first : 32 ≤ at.1
  pub multiple : at.1 % 32 ≡ 0
  pub inside : Any (λ s. (at.0 ≡ s.0) × (at.1 + span size ≤ s.1)) r.segments

-- the layout with a block of zeros as the latest
abbrev pub with_latest : Layout ℕ → ℕ → ℕ → ℕ × ℕ → Layout ℕ
with_latest r tag size at = record { segments = r.segments; blocks = r.blocks ++ zeros tag size at ∷ [] }
