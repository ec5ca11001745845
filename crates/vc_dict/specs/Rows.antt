-- Three holders for the rows of definitions.
use Rattle.std.specs.Prelude.{ℕ, List, [], ◌∷◌, ◌++◌, None, replicate}
use Rattle.vc_base.specs.Cells.{Blocks, put}

-- a holder of one byte
abbrev pub holder_of : ℕ → List ℕ
holder_of byte = replicate 32 0 ++ byte ∷ []

-- the objects b, a and B at 1, 2 and 3
abbrev pub three : Blocks
three = put 1 (holder_of 98) (put 2 (holder_of 97) (put 3 (holder_of 66) (λ a. None)))
