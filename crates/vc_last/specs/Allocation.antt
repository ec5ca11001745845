-- Blocks in order of allocation, and what is always true of them.
use Rattle.std.specs.Prelude.{◌≡◌, ℕ, ◌≤◌, All, AllPairs, Bool, Option, Some, None, false}
use Rattle.vc_model.specs.Addr.{place_of}
use Rattle.vc_model.specs.Last.{latest}
use Rattle.vc_model.specs.Layout.{Block, Layout, address_of, footprint, is_at}
use Rattle.vc_model.specs.Sound.{HaveOwnNumbers, IsUsable}

-- where two blocks are in one segment, the one allocated first ends before the other begins
abbrev pub EndsFirst : Block ℕ → Block ℕ → Type 0
EndsFirst a b = a.seg ≡ b.seg → (footprint a).to ≤ (footprint b).from

-- blocks one behind another, each in the usable part of a segment at the place that its address tells, and segments with numbers of their own
pub record AreAllocated (r : Layout ℕ) : Type 0 where
  pub ordered : AllPairs EndsFirst r.blocks
  pub usable : All (λ b. IsUsable r.segments (footprint b)) r.blocks
  pub exact : All (λ b. place_of (address_of b) ≡ (b.seg, b.off)) r.blocks
  pub numbered : HaveOwnNumbers r.segments

-- whether there is a block, at that place
abbrev pub is_one_at : ℕ × ℕ → Option (Block ℕ) → Bool
is_one_at at None = false
is_one_at at (Some b) = is_at at b

-- whether the latest block is at a place
abbrev pub is_latest : Layout ℕ → ℕ × ℕ → Bool
is_latest r at = is_one_at at (latest r)
