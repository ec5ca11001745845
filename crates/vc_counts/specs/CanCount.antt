-- Counts that have room for one more command.
use Rattle.std.specs.Prelude.{◌≡◌, ℕ, ◌+◌, ◌*◌, ◌<◌, ◌≤◌, ◌^◌}
use Rattle.vc_counts.specs.declared.counts.Counts.{Counts}

-- the commands that were counted
abbrev pub counted_commands : Counts → ℕ
counted_commands c = c.done + c.refused

-- for each command no more was counted than a region's numbers hold: a u32 of segments, a u64 of
-- their bytes, and another of the bytes that blocks have, with a holder
pub record IsInRange (c : Counts) : Type 0 where
  pub segments : c.segments ≤ 2 ^ 32 * counted_commands c
  pub bytes : c.bytes ≤ 2 ^ 64 * counted_commands c
  pub busy : c.busy ≤ 2 ^ 65 * counted_commands c

-- a command at a line can be counted over regions whose blocks have so many bytes: no more commands
-- were counted than there are lines before it
pub record CanCount (c : Counts) (busy line : ℕ) : Type 0 where
  pub range : IsInRange c
  pub now : c.busy ≡ busy
  pub before : counted_commands c < line
