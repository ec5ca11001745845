-- What is reported of a trace, so far.
use Rattle.std.specs.Prelude.{ℕ, ◌-◌, List, ◌∷◌, ◌++◌, [], codes, decimal, max, nat_lt, if◌then◌else◌}
use Rattle.vc_ways.specs.declared.each.Each.{Each}
use Rattle.vc_ways.specs.declared.tally.Tally.{Tally}

abbrev pub none : Each
none = record { best = 0; last = 0; pool = 0 }

-- of no command
abbrev pub new_tally : Tally
new_tally = record { most = 0; peak = none; waste = none }

-- the greater of two numbers of each way
abbrev pub greater : Each → Each → Each
greater a b = record { best = max a.best b.best; last = max a.last b.last; pool = max a.pool b.pool }

-- what is beyond the live bytes
abbrev pub beyond_live : Each → ℕ → Each
beyond_live a live = record { best = a.best - live; last = a.last - live; pool = a.pool - live }

-- after one more command, which left so many live bytes and these extents
abbrev pub tallied : Tally → ℕ → Each → Tally
tallied t live extents =
    record {
      most = max t.most live;
      peak = greater t.peak extents;
      waste = if nat_lt t.most live then beyond_live extents live else t.waste;
    }

-- the line of a way: its word, its peak and its waste
abbrev pub way_line : List ℕ → ℕ → ℕ → List ℕ
way_line word peak waste = word ++ codes " peak " ++ decimal peak ++ codes " waste " ++ decimal waste ++ 10 ∷ []

-- the four lines
abbrev pub report : Tally → List ℕ
report t =
    codes "live " ++ decimal t.most ++ 10 ∷ []
    ++ way_line (codes "best") t.peak.best t.waste.best
    ++ way_line (codes "last") t.peak.last t.waste.last
    ++ way_line (codes "pool") t.peak.pool t.waste.pool
