-- The lines of an input by their numbers, and the first line that can't be taken.
use Rattle.std.specs.Prelude.{ℕ, ◌+◌, List, [], ◌∷◌, Result, Ok, Err, length, nat_lt, if◌then◌else◌}
use Rattle.vc_script.specs.declared.line_fault.LineFault.{LineFault}
use Rattle.vc_script.specs.declared.line_fault.LineFault.TheVariants.{LineTooLong, TooManyLines}
use Rattle.vc_script.specs.Lines.{lines, without_cr}

-- a line has at most so many bytes before its newline, a final CR among them
abbrev pub line_limit : ℕ
line_limit = 4096

-- the greatest number of a line
abbrev pub last_number : ℕ
last_number = 2147483647

-- a line of that number: without its final CR, or what is wrong with it
abbrev pub judge : ℕ → List ℕ → Result (List ℕ) LineFault
judge number line =
    if nat_lt last_number number then Err TooManyLines
    else (if nat_lt line_limit (length line) then Err LineTooLong else Ok (without_cr line))

-- nothing is judged behind a line that can't be taken
abbrev pub judged_then : ℕ → Result (List ℕ) LineFault → List (ℕ × Result (List ℕ) LineFault) → List (ℕ × Result (List ℕ) LineFault)
judged_then number (Ok line) behind = (number, Ok line) ∷ behind
judged_then number (Err fault) behind = (number, Err fault) ∷ []

-- lines are numbered, here from that number on
abbrev pub judged_from : ℕ → List (List ℕ) → List (ℕ × Result (List ℕ) LineFault)
judged_from number [] = []
judged_from number (line ∷ rest) = judged_then number (judge number line) (judged_from (number + 1) rest)

-- the lines of an input by their numbers, up to the first that can't be taken
abbrev pub judged_lines : List ℕ → List (ℕ × Result (List ℕ) LineFault)
judged_lines input = judged_from 1 (lines input)
