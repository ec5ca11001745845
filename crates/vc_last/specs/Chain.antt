-- The blocks of a last region: the latest, and from each head on the one allocated before it.
use Rattle.std.specs.Prelude.{◌≡◌, ℕ, ◌+◌, ◌*◌, ◌/◌, ◌<◌, ◌≤◌, zero, suc, List, [], ◌∷◌, ◌++◌, AllPairs, Vec, length, vec_capacity, ◌==◌, if◌then◌else◌}
use Rattle.vc_model.specs.Layout.{Block, address_of}
use Rattle.vc_seg.specs.Segment.{AreSegments, Bytes}
use Rattle.vc_extent.specs.Tiling.{index_from}
use Rattle.vc_last.specs.Head.{HasHead, before_of, block_of}
use Rattle.vc_last.specs.Allocation.{EndsFirst}

-- the blocks from an address back, in order of allocation; as many at most as the first number
unfoldable pub blocks_back : ℕ → List Bytes → ℕ → List (Block ℕ)
blocks_back zero segs a = []
blocks_back (suc more) segs a =
    if a == 0 then [] else blocks_back more segs (before_of segs a) ++ block_of segs a ∷ []

-- more than these segments can have
abbrev pub most_blocks : List Bytes → ℕ
most_blocks segs = (length segs + 1) * 1048576

-- the blocks of which the latest stands at an address, in order of allocation
unfoldable pub blocks_from : List Bytes → ℕ → List (Block ℕ)
blocks_from segs latest = blocks_back (most_blocks segs) segs latest

-- each lies behind its head, which names the one before it; the first names `before`
-- the last stands at `latest`; where there is none, `before` is `latest`
abbrev pub IsChain : List Bytes → ℕ → List (Block ℕ) → ℕ → Type 0
IsChain segs before [] latest = before ≡ latest
IsChain segs before (b ∷ bs) latest =
    HasHead segs b × (before_of segs (address_of b) ≡ before) × IsChain segs (address_of b) bs latest

-- by the order of lending of its segment, and by its offset there
abbrev pub rank : List Bytes → Block ℕ → ℕ
rank segs b = index_from 0 b.seg segs * 1048576 + b.off / 32

-- a block lies lower than another
abbrev pub LiesLower : List Bytes → Block ℕ → Block ℕ → Type 0
LiesLower segs a b = rank segs a < rank segs b

-- what is true of segments and of the latest block's address, 0 for none, with these blocks
pub record IsLastOf (segs : List Bytes) (latest : ℕ) (blocks : List (Block ℕ)) : Type 0 where
  pub segments : AreSegments segs
  pub chain : IsChain segs 0 blocks latest
  pub ordered : AllPairs EndsFirst blocks
  pub rising : AllPairs (LiesLower segs) blocks

abbrev pub IsLast : List Bytes → ℕ → Type 0
IsLast segs latest = IsLastOf segs latest (blocks_from segs latest)

-- the same of segments in a list that has room for each one that can be asked for
pub record IsReady {Z : Type 0} (segs : Vec Bytes Z) (latest : ℕ) : Type 0 where
  pub last : IsLast segs.items latest
  pub room : 1023 ≤ vec_capacity segs
