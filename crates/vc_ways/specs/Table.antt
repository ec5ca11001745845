-- The live blocks of a trace, by name.
use Rattle.std.specs.Prelude.{ℕ, List, Option, bytes_eq}
use Rattle.std.specs.List.{sum_by}
use Rattle.std.specs.Map.{lookup}
use Rattle.indexmap.specs.IndexMap.{insert_entry, swap_remove_entry}
use Rattle.vc_ways.specs.Live.{LivePlaces}

-- a name has one at most
abbrev pub LiveTable : Type 0
LiveTable = List (List ℕ × LivePlaces)

-- the live block of a name, where there is one
abbrev pub find_live : List ℕ → LiveTable → Option LivePlaces
find_live x table = lookup (bytes_eq x) table

-- a name has this block, in place of any of before
abbrev pub put_live : List ℕ → LivePlaces → LiveTable → LiveTable
put_live x live table = insert_entry bytes_eq table x live

-- a name has no block; the last one of the table stands where it was
abbrev pub without_live : List ℕ → LiveTable → LiveTable
without_live x table = swap_remove_entry (bytes_eq x) table

-- the sum of their sizes
abbrev pub sum_of_sizes : LiveTable → ℕ
sum_of_sizes table = sum_by (λ e. e.1.size) table
