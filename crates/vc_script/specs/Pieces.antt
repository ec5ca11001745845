-- The cutting of an input that comes in pieces: what the calls of feed and of end find.
use Rattle.std.specs.Prelude.{ℕ, zero, suc, ◌+◌, List, [], ◌∷◌, Result, Ok, Err, drop}
use Rattle.vc_script.specs.declared.line_fault.LineFault.{LineFault}
use Rattle.vc_script.specs.declared.cutter.Cut.{Cut}
use Rattle.vc_script.specs.declared.cutter.Cut.TheVariants.{Whole, More, Bad}
use Rattle.vc_script.specs.Cutting.{Cutting}
use Rattle.vc_script.specs.Cutter.{result_of_feed, end_cut, after_end}

-- lines and a fault, each with the line's number
abbrev pub FoundLines : Type 0
FoundLines = List (ℕ × Result (List ℕ) LineFault)

-- what a call found, and what the calls behind it find: in the same piece behind a whole line, with the next piece
-- where more is wanted, and none behind a fault
abbrev pub found_then : Cut → Cutting → FoundLines → FoundLines → FoundLines
found_then Whole after in_piece in_next = (after.count, Ok after.line) ∷ in_piece
found_then More after in_piece in_next = in_next
found_then (Bad fault) after in_piece in_next = (after.count + 1, Err fault) ∷ []

-- what at most so many calls find in these pieces, the call of end among them
abbrev pub found_in : ℕ → Cutting → List (List ℕ) → FoundLines
found_in zero s pieces = []
found_in (suc calls) s [] = found_then (end_cut s.kept) (after_end s s.kept) [] []
found_in (suc calls) s (p ∷ ps) =
    let f = result_of_feed s p in
    found_then f.cut f.after (found_in calls f.after (drop f.used p ∷ ps)) (found_in calls f.after ps)
