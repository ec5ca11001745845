-- Which lists of blocks are sound.
use Rattle.std.specs.Prelude.{◌≡◌, ℕ, ◌<◌, ◌≤◌, ◌^◌, All, length}
use Rattle.vc_base.specs.declared.addr.Addr.{Addr}
use Rattle.vc_base.specs.Cells.{Blocks, IsAddress, IsHolder, bytes_at, word_at}
use Rattle.vc_dtlist.specs.Linked.{IsPlain, StandsFor}
use Rattle.vc_dict.specs.Listed.{holders_from}

-- a holder behind another one, or behind none, may be linked in a list: it has at most 1,056 bytes, and what its second word
-- tells may be an address
pub record IsLink (blocks : Blocks) (before at : ℕ) : Type 0 where
  pub address : IsAddress at
  pub holder : IsHolder blocks at
  pub most : length (bytes_at blocks at) ≤ 1056
  pub previous : word_at blocks at 0 ≡ before
  pub plain : IsPlain blocks at
  pub next : word_at blocks at 1 < 2 ^ 32

-- so many holders from the first on are linked up to the last, and each has at most 1,056 bytes
pub record IsSoundList (blocks : Blocks) (count : ℕ) (first last : Addr) : Type 0 where
  pub stands : StandsFor (record { first = first; last = last }) blocks (holders_from blocks count first.0)
  pub sizes : All (λ a. length (bytes_at blocks a) ≤ 1056) (holders_from blocks count first.0)
