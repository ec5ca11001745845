-- The lines of an input.
use Rattle.std.specs.Prelude.{ℕ, List, [], ◌∷◌, ◌++◌, ◌==◌, if◌then◌else◌}

-- a piece, where it has a byte
abbrev pub piece : List ℕ → List (List ℕ)
piece [] = []
piece (b ∷ bs) = (b ∷ bs) ∷ []

-- the lines, of the first of which some bytes were read
abbrev pub lines_after : List ℕ → List ℕ → List (List ℕ)
lines_after begun [] = piece begun
lines_after begun (b ∷ bs) = if b == 10 then begun ∷ lines_after [] bs else lines_after (begun ++ b ∷ []) bs

-- the input is cut at newlines; a last piece that isn't empty is a line too
abbrev pub lines : List ℕ → List (List ℕ)
lines input = lines_after [] input

-- the lines that a newline ends, of the first of which some bytes were read
abbrev pub ended_after : List ℕ → List ℕ → List (List ℕ)
ended_after begun [] = []
ended_after begun (b ∷ bs) = if b == 10 then begun ∷ ended_after [] bs else ended_after (begun ++ b ∷ []) bs

-- the whole lines: a last piece without its newline is none
abbrev pub ended_lines : List ℕ → List (List ℕ)
ended_lines bytes = ended_after [] bytes

-- a CR that is the last byte of a line is dropped
abbrev pub without_cr : List ℕ → List ℕ
without_cr [] = []
without_cr (b ∷ []) = if b == 13 then [] else b ∷ []
without_cr (b ∷ c ∷ cs) = b ∷ without_cr (c ∷ cs)
