-- Regions over a discipline that grows, for worked rows.
use Rattle.std.specs.Prelude.{ℕ, true, false}
use Rattle.vc_model.specs.Discipline.{Terms}
use Rattle.vc_model.specs.Layout.{Layout, empty_layout}
use Rattle.vc_model.specs.Best.{best_alloc}
use Rattle.vc_model.specs.Last.{last_alloc}
use Rattle.vc_model.specs.Pool.{Pool, empty_pool, pool_alloc}
use Rattle.vc_model.specs.PoolRows.{region_put}
use Rattle.vc_model.specs.Segments.{Grant}

-- terms of that round, of a discipline that grows
abbrev pub grows_to : ℕ → Terms
grows_to round = record { round = round; grows = true }

-- so many bytes more of the segment of that number
abbrev pub more_bytes : ℕ → ℕ → Grant
more_bytes number bytes = record { number = number; bytes = bytes; fresh = false }

-- a region of each method with one block of 4,000 bytes
abbrev pub best_of_one : Layout ℕ
best_of_one = region_put empty_layout (best_alloc (grows_to 4096) empty_layout 1 4000 32 false)

abbrev pub pool_of_long : Pool ℕ
pool_of_long = region_put empty_pool (pool_alloc (grows_to 4096) empty_pool 1 4000 false)

abbrev pub last_of_long : Layout ℕ
last_of_long = region_put empty_layout (last_alloc (grows_to 4096) empty_layout 1 4000 false)
