-- Blocks by address.
use Rattle.std.specs.Prelude.{ℕ, List, [], ◌∷◌}
use Rattle.vc_model.specs.Layout.{Block, with_block}

-- these blocks, each put where its address falls
abbrev pub in_order : List (Block ℕ) → List (Block ℕ)
in_order [] = []
in_order (b ∷ bs) = with_block b (in_order bs)
