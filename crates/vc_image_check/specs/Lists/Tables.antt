-- Which blocks are sound as the table of a set or bag.
use Rattle.std.specs.Prelude.{◌≡◌, ◌≢◌, ℕ, ◌*◌, ◌<◌, ◌≤◌, length}
use Rattle.vc_base.specs.Cells.{Blocks, bytes_at}
use Rattle.vc_dthash.specs.Slots.{IsSlots, most_slots}

-- the slots of a table are 16, doubled at most 17 times; its block has 8 bytes for each; and two objects for each are enough for
-- so many, where there can be more slots
pub record IsSoundTable (blocks : Blocks) (count table slots : ℕ) : Type 0 where
  pub some : table ≢ 0
  pub allowed : IsSlots slots
  pub size : length (bytes_at blocks table) ≡ 8 * slots
  pub enough : slots < most_slots → count ≤ 2 * slots
