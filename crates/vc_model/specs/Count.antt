-- Counts of faults and of calls: they never fall, and stay at the greatest u64 once there.
use Rattle.std.specs.Prelude.{◌≡◌, ℕ, ◌+◌, ◌<◌, ◌≤◌, ◌⊎◌, ◌==◌, if◌then◌else◌}

-- the value at which a count stays
abbrev pub last_count : ℕ
last_count = 18446744073709551615

-- the count after one more
abbrev pub next_count : ℕ → ℕ
next_count n = if n == last_count then n else n + 1

-- a count rose from before to after, or stands at its last value
abbrev pub Rose : ℕ → ℕ → Type 0
Rose before after = (before < after) ⊎ (after ≡ last_count)

-- a count rose by at least n, or stands at its last value
abbrev pub RoseBy : ℕ → ℕ → ℕ → Type 0
RoseBy n before after = (before + n ≤ after) ⊎ (last_count ≤ after)
