-- The extents of the ways, as segments come or get longer.
use Rattle.std.specs.Prelude.{ℕ, ◌+◌, ◌-◌, List, drop, length, map, sum}
use Rattle.vc_ways.specs.declared.each.Each.{Each}
use Rattle.vc_ways.specs.declared.extent.Newest.{Newest}
use Rattle.vc_ways.specs.declared.extent.Newests.{Newests}
use Rattle.vc_ways.specs.PoolWay.{pool_at}
use Rattle.vc_ways.specs.Regions.{Regions}

-- the sizes of segments behind the first ones, added up
abbrev pub bytes_behind : ℕ → List (ℕ × ℕ) → ℕ
bytes_behind first segments = sum (map (λ s. s.1) (drop first segments))

-- the newest segment: how many stand before it, and its size; both 0 where there is none
abbrev pub newest_in : List (ℕ × ℕ) → Newest
newest_in segments = record { before = length segments - 1; bytes = bytes_behind (length segments - 1) segments }

-- the newest segments of the regions, and of the pool of a class
abbrev pub newest_of : Regions → ℕ → Newests
newest_of r class =
    record {
      best = newest_in r.best.segments;
      last = newest_in r.last.region.segments;
      pool = newest_in (pool_at r.pools class).layout.segments;
    }

-- an extent, with what stands now from where a segment was the newest
abbrev pub with_newest : ℕ → Newest → List (ℕ × ℕ) → ℕ
with_newest extent newest segments = extent - newest.bytes + bytes_behind newest.before segments

-- extents with those of the regions and of the pool of a class
abbrev pub with_extents : Regions → ℕ → Newests → Each → Each
with_extents r class newest e =
    record {
      best = with_newest e.best newest.best r.best.segments;
      last = with_newest e.last newest.last r.last.region.segments;
      pool = with_newest e.pool newest.pool (pool_at r.pools class).layout.segments;
    }
