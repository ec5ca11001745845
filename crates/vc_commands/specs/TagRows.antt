-- Worked blocks for the rows of tags.
use Rattle.std.specs.Prelude.{ℕ, List, map}
use Rattle.vc_model.specs.Best.{zeros}
use Rattle.vc_model.specs.Layout.{Block}

-- blocks of these tags, wherever they stand
abbrev pub with_tags : List ℕ → List (Block ℕ)
with_tags tags = map (λ tag. zeros tag 32 (1, 32)) tags
