-- Blocks that don't overlap, and that lie in their segments.
use Rattle.std.specs.Prelude.{◌≡◌, ◌≢◌, ℕ, ◌+◌, ◌<◌, ◌≤◌, ◌^◌, ◌⊎◌, List, All, AllPairs, Any, length}
use Rattle.vc_model.specs.Addr.{place_of}
use Rattle.vc_model.specs.Gap.{Run}
use Rattle.vc_model.specs.Layout.{Block, Layout, address_of, footprint}

-- one run ends where another begins, or before it, in the order of addresses
abbrev pub EndsBefore : Run → Run → Type 0
EndsBefore a b = (a.seg < b.seg) ⊎ ((a.seg ≡ b.seg) × (a.to ≤ b.from))

-- two runs have no byte in common
abbrev pub IsApart : Run → Run → Type 0
IsApart a b = EndsBefore a b ⊎ EndsBefore b a

-- a run lies in the usable part of one of these segments, all but its first and its last 16 bytes
abbrev pub IsUsable : List (ℕ × ℕ) → Run → Type 0
IsUsable segments f = Any (λ s. (f.seg ≡ s.0) × (16 ≤ f.from) × (f.to + 16 ≤ s.1)) segments

-- the numbers of these segments are from 1 on, and no two are the same
pub record HaveOwnNumbers (segments : List (ℕ × ℕ)) : Type 0 where
  pub first : All (λ s. 1 ≤ s.0) segments
  pub distinct : AllPairs (λ s t. s.0 ≢ t.0) segments

-- blocks with heads: no two overlap, each lies in the usable part of a segment, its address tells its place, and segments have numbers of their own and at most 33,554,432 bytes
pub record IsSound {L : Type 0} (r : Layout L) : Type 0 where
  pub apart : AllPairs (λ a b. IsApart (footprint a) (footprint b)) r.blocks
  pub usable : All (λ b. IsUsable r.segments (footprint b)) r.blocks
  pub exact : All (λ b. place_of (address_of b) ≡ (b.seg, b.off)) r.blocks
  pub numbered : HaveOwnNumbers r.segments
  pub short : All (λ s. s.1 ≤ 33554432) r.segments

-- no two blocks stand at one address, each stands in a segment whose number is from 1 on, and its address tells its place
pub record HaveOwnPlaces {L : Type 0} (blocks : List (Block L)) : Type 0 where
  pub distinct : AllPairs (λ a b. address_of a ≢ address_of b) blocks
  pub first : All (λ b. 1 ≤ b.seg) blocks
  pub exact : All (λ b. place_of (address_of b) ≡ (b.seg, b.off)) blocks

-- each block has as many bytes as its size, at most 16,777,264, and its address is a u32; no segment has more than 33,554,432 bytes
pub record HasWholeBlocks {L : Type 0} (r : Layout L) : Type 0 where
  pub bytes : All (λ b. length b.bytes ≡ b.size) r.blocks
  pub most : All (λ b. b.size ≤ 16777264) r.blocks
  pub fits : All (λ b. address_of b < 2 ^ 32) r.blocks
  pub short : All (λ s. s.1 ≤ 33554432) r.segments
