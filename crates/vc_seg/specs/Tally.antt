-- Tallies of sizes in bytes.
use Rattle.std.specs.Prelude.{List, fold, length, max, sum, ℕ, ◌+◌, ◌<◌}
use Rattle.vc_seg.specs.declared.tally.Tally.{Tally}

-- one more size
abbrev pub tally_with : Tally → ℕ → Tally
tally_with t size = record { count = t.count + 1; bytes = t.bytes + size; most = max t.most size }

-- more sizes
abbrev pub tallied_all : Tally → List ℕ → Tally
tallied_all t sizes = fold tally_with t sizes

-- the tally of these sizes
abbrev pub tally_of : List ℕ → Tally
tally_of sizes = tallied_all (record { count = 0; bytes = 0; most = 0 }) sizes

-- the numbers stay in 64 bits where these sizes are added
pub record HasRoom (t : Tally) (sizes : List ℕ) : Type 0 where
  pub count : t.count + length sizes < 18446744073709551616
  pub bytes : t.bytes + sum sizes < 18446744073709551616
