-- A block in the three ways: in a best region, in a last region, and in pools by size class.
use Rattle.std.specs.Prelude.{ℕ, List, Option, Some, Bool, false, true, map, sum}
use Rattle.vc_model.specs.Best.{best_alloc, without_block_at}
use Rattle.vc_model.specs.Discipline.{Terms}
use Rattle.vc_model.specs.Layout.{Layout, empty_layout}
use Rattle.vc_model.specs.Numbers.{segment_bytes}
use Rattle.vc_model.specs.Outcome.{Outcome, Done, Fault, Put, Refused}
use Rattle.vc_model.specs.Pool.{Pool}
use Rattle.vc_model.specs.Resize.{best_resize}
use Rattle.vc_ways.specs.declared.each.Each.{Each}
use Rattle.vc_ways.specs.declared.way.Way.{Way}
use Rattle.vc_ways.specs.declared.way.Way.TheVariants as way
use Rattle.vc_ways.specs.LastWay.{LastWay, drop_dead, last_dead, last_put, last_sized, new_last}
use Rattle.vc_ways.specs.Live.{LivePlaces}
use Rattle.vc_ways.specs.PoolWay.{cell_free, cell_put, cell_sized, new_pools}

-- the terms of the disciplines: of the best region, of the last region, and of each class
pub record WayTerms : Type 0 where
  pub best : Terms
  pub last : Terms
  pub pools : List Terms

-- what each way has
pub record Regions : Type 0 where
  pub best : Layout ℕ
  pub last : LastWay
  pub pools : List (Pool ℕ)

-- without a block
abbrev pub new_regions : Regions
new_regions = record { best = empty_layout; last = new_last; pools = new_pools }

-- the sizes of the segments of each way, added up
abbrev pub extent_sums : Regions → Each
extent_sums r =
    record {
      best = segment_bytes r.best;
      last = segment_bytes r.last.region;
      pool = sum (map (λ p. segment_bytes p.layout) r.pools);
    }

-- a command is done in all ways, or stopped in one
pub data Tried (A : Type 0) : Type 0 where
  Took : (answer : A) → Tried A
  Stopped : (way : Way) (why : Fault) → Tried A

-- the ways run one after another, and the first that refuses stops them
abbrev pub in_way : {A B : Type 0} → Way → Outcome A → (A → Tried B) → Tried B
in_way way (Done answer) rest = rest answer
in_way way (Refused why) rest = Stopped way why

-- whether the segment that a way asks for is refused
abbrev pub is_refused : Option Way → Way → Bool
is_refused (Some way.Best) way.Best = true
is_refused (Some way.Last) way.Last = true
is_refused (Some way.Pool) way.Pool = true
is_refused refused way = false

-- a block of a size has these places; dead blocks at the end of the last region are freed
abbrev pub took : ℕ → Put (Layout ℕ) → ℕ × LastWay → (ℕ × ℕ) × List (Pool ℕ) → Tried (LivePlaces × Regions)
took size best last pool =
    Took (record { size = size; best = best.at; last = last.0; cell = pool.0 }, record { best = best.region; last = drop_dead last.1; pools = pool.1 })

-- the calls in the three ways, for a block of a size
abbrev pub three_ways : ℕ → Outcome (Put (Layout ℕ)) → Outcome (ℕ × LastWay) → Outcome ((ℕ × ℕ) × List (Pool ℕ)) → Tried (LivePlaces × Regions)
three_ways size best last pool =
    in_way way.Best best (λ b. in_way way.Last last (λ l. in_way way.Pool pool (took size b l)))

-- a block of a size is put; in which way a segment is refused, if in any, is the one free choice
abbrev pub put_block : WayTerms → Regions → ℕ → Option Way → Tried (LivePlaces × Regions)
put_block terms r size refused =
    three_ways size
    (best_alloc terms.best r.best 0 size 32 (is_refused refused way.Best))
    (last_put terms.last r.last size (is_refused refused way.Last))
    (cell_put terms.pools r.pools size (is_refused refused way.Pool))

-- a block gets another size, and may move
abbrev pub size_block : WayTerms → Regions → LivePlaces → ℕ → Option Way → Tried (LivePlaces × Regions)
size_block terms r live size refused =
    three_ways size
    (best_resize terms.best r.best live.best size true (is_refused refused way.Best))
    (last_sized terms.last r.last live.last size (is_refused refused way.Last))
    (cell_sized terms.pools r.pools live.size live.cell size (is_refused refused way.Pool))

-- a block is freed; in the last region it is dead
abbrev pub free_in_each : Regions → LivePlaces → Regions
free_in_each r live =
    record {
      best = without_block_at r.best live.best;
      last = drop_dead (last_dead r.last live.last);
      pools = cell_free r.pools live.size live.cell;
    }
