-- A worked region of two blocks for the rows of cells.
use Rattle.std.specs.Prelude.{ℕ, List, [], ◌∷◌}
use Rattle.vc_model.specs.Layout.{Block}

-- an unlabelled block at offset 32 of segment 1, and one of tag 7 at offset 96
abbrev pub cell_and_labelled : List (Block ℕ)
cell_and_labelled =
    record { label = 0; seg = 1; off = 32; size = 2; bytes = 5 ∷ 6 ∷ [] }
    ∷ record { label = 7; seg = 1; off = 96; size = 1; bytes = 9 ∷ [] }
    ∷ []
