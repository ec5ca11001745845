-- The terms of the disciplines over which a trace is run.
use Rattle.std.specs.Prelude.{List, Option, Some, None, false, drop, map, slice_index_or, take}
use Rattle.vc_model.specs.Discipline.{Discipline, Terms}
use Rattle.vc_ways.specs.Regions.{WayTerms}

-- of the discipline at a place; where none stands there nothing is run
abbrev pub place_terms : Option Discipline → Terms
place_terms (Some d) = d.terms
place_terms None = record { round = 32; grows = false }

-- of the places 1 to 22 of a shelf: of the best region, of the last region, and of each class
abbrev pub terms_on : List (Option Discipline) → WayTerms
terms_on slots =
    record {
      best = place_terms (slice_index_or slots 0 None);
      last = place_terms (slice_index_or slots 1 None);
      pools = map place_terms (take 20 (drop 2 slots));
    }
