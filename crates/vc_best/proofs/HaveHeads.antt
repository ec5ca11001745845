-- Blocks with heads, by address, that don't overlap.
use Rattle.vc_base.proofs.Common.{◌≡◌, ℕ, ◌%◌, ◌<◌, ◌≤◌, List, All, AllPairs, IsSegmentSize, Block, Layout, footprint, EndsBefore, HaveOwnNumbers, IsUsable}

-- blocks by address, of which no two overlap
abbrev pub AreApart : {L : Type 0} → List (Block L) → Type 0
AreApart blocks = AllPairs (λ a b. EndsBefore (footprint a) (footprint b)) blocks

-- the offsets and sizes that a block can have
pub record IsSlot (b : Block ℕ) : Type 0 where
  pub first : 32 ≤ b.off
  pub last : b.off < 33554432
  pub multiple : b.off % 32 ≡ 0
  pub some : 1 ≤ b.size
  pub most : b.size ≤ 16777264

-- a block that has an offset and a size that one can have, and lies in the usable part of a segment of these
pub record HasHead (segments : List (ℕ × ℕ)) (b : Block ℕ) : Type 0 where
  pub slot : IsSlot b
  pub usable : IsUsable segments (footprint b)

-- such blocks, by address, of which no two overlap, in segments of legal sizes with numbers of their own
pub record HaveHeads (r : Layout ℕ) : Type 0 where
  pub blocks : All (HasHead r.segments) r.blocks
  pub apart : AreApart r.blocks
  pub sizes : All (λ s. IsSegmentSize s.1) r.segments
  pub numbered : HaveOwnNumbers r.segments
