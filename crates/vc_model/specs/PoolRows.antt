-- Pools and last regions over a discipline that rounds up to 4,096 bytes, for worked rows.
use Rattle.std.specs.Prelude.{ℕ, [], ◌∷◌, Option, Some, None, false, true}
use Rattle.vc_model.specs.Outcome.{Outcome, Done, Put, Refused}
use Rattle.vc_model.specs.Layout.{Layout, empty_layout}
use Rattle.vc_model.specs.Best.{zeros}
use Rattle.vc_model.specs.Pool.{Pool, empty_pool, pool_alloc, pool_free}
use Rattle.vc_model.specs.Last.{last_alloc, last_resize}
use Rattle.vc_model.specs.Rows.{rounds_to}

-- where a block was put
abbrev pub place_put : {R : Type 0} → Outcome (Put R) → Option (ℕ × ℕ)
place_put (Done p) = Some p.at
place_put (Refused why) = None

-- the region after a call, which is the one before it where the call was refused
abbrev pub region_put : {R : Type 0} → R → Outcome (Put R) → R
region_put before (Done p) = p.region
region_put before (Refused why) = before

-- without a block
abbrev pub pool_of_none : Pool ℕ
pool_of_none = empty_pool

abbrev pub last_of_none : Layout ℕ
last_of_none = empty_layout

-- a pool with one more block
abbrev pub pool_with : Pool ℕ → ℕ → ℕ → Pool ℕ
pool_with p label size = region_put p (pool_alloc (rounds_to 4096) p label size false)

-- blocks of 24 bytes and of 8
abbrev pub pool_of_two : Pool ℕ
pool_of_two = pool_with (pool_with pool_of_none 1 24) 2 24

abbrev pub pool_of_three : Pool ℕ
pool_of_three = pool_with pool_of_two 3 8

-- of these the first is freed and then the third
abbrev pub pool_of_one : Pool ℕ
pool_of_one = pool_free (pool_free pool_of_three (1, 32)) (1, 96)

-- and three are put again
abbrev pub pool_of_two_again : Pool ℕ
pool_of_two_again = pool_with pool_of_one 4 24

abbrev pub pool_of_three_again : Pool ℕ
pool_of_three_again = pool_with pool_of_two_again 5 24

abbrev pub pool_of_four : Pool ℕ
pool_of_four = pool_with pool_of_three_again 6 24

-- a block in the second of three segments that hold two cells each, of which two cells of the first and one of the third were freed
abbrev pub pool_of_segments : Pool ℕ
pool_of_segments =
    record {
      layout = record { segments = (3, 96) ∷ (1, 96) ∷ (2, 96) ∷ []; blocks = zeros 1 24 (1, 32) ∷ [] };
      element = Some 24;
      freed = (3, 64) ∷ (1, 64) ∷ (2, 32) ∷ (3, 32) ∷ [];
      carved = (3, 2) ∷ (1, 2) ∷ (2, 1) ∷ [];
    }

-- a last region with one more block
abbrev pub last_with : Layout ℕ → ℕ → ℕ → Layout ℕ
last_with r label size = region_put r (last_alloc (rounds_to 4096) r label size false)

-- blocks of 10 and of 100 bytes
abbrev pub last_of_one : Layout ℕ
last_of_one = last_with last_of_none 1 10

abbrev pub last_of_two : Layout ℕ
last_of_two = last_with last_of_one 2 100

-- the second has another size
abbrev pub last_resized : ℕ → Layout ℕ
last_resized size = region_put last_of_two (last_resize (rounds_to 4096) last_of_two (1, 64) size true false)

-- the segment lent latest has no block
abbrev pub last_emptied : Layout ℕ
last_emptied = record { segments = (2, 4096) ∷ (1, 8192) ∷ []; blocks = zeros 1 10 (2, 32) ∷ zeros 2 100 (2, 64) ∷ [] }
