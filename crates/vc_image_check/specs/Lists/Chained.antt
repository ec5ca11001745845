-- Which sets and bags of blocks are sound, but for their tables.
use Rattle.std.specs.Prelude.{◌≡◌, ◌≢◌, ℕ, ◌<◌, ◌≤◌, ◌^◌, All, length}
use Rattle.vc_base.specs.declared.addr.Addr.{Addr}
use Rattle.vc_base.specs.Cells.{Blocks, IsAddress, IsHolder, bytes_at, word_at}
use Rattle.vc_dtdisc.specs.Rules.{Rules}
use Rattle.vc_dthash.specs.Chained.{AreChained, IsHashed, hash_at}
use Rattle.vc_dtlist.specs.Linked.{LinksFor}
use Rattle.vc_dict.specs.Listed.{holders_from}

-- a holder behind another one, or behind none, may be linked in a set or bag with that table: it isn't the table, has the hash
-- of its key in its fourth word and at most 1,056 bytes, and what its second word tells may be an address
pub record IsKnot (rules : Rules) (blocks : Blocks) (table before at : ℕ) : Type 0 where
  pub address : IsAddress at
  pub holder : IsHolder blocks at
  pub most : length (bytes_at blocks at) ≤ 1056
  pub another : at ≢ table
  pub previous : word_at blocks at 0 ≡ before
  pub hashed : IsHashed rules blocks at
  pub next : word_at blocks at 1 < 2 ^ 32

-- so many holders from the first on are linked up to the last, none is the table, each has the hash of its key in its fourth
-- word and at most 1,056 bytes, and each slot of the table leads through those that belong to it, in their order
pub record IsSoundChain (rules : Rules) (blocks : Blocks) (count table slots : ℕ) (first last : Addr) : Type 0 where
  pub links : LinksFor (record { first = first; last = last }) blocks (holders_from blocks count first.0)
  pub sizes : All (λ a. length (bytes_at blocks a) ≤ 1056) (holders_from blocks count first.0)
  pub apart : All (λ a. a ≢ table) (holders_from blocks count first.0)
  pub hashes : All (IsHashed rules blocks) (holders_from blocks count first.0)
  pub chains : AreChained (hash_at rules blocks) blocks table slots (holders_from blocks count first.0)
