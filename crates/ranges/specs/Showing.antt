-- What the program prints of the objects that are seen.
use Rattle.std.specs.Prelude.{ℕ, List, [], ◌∷◌, ◌++◌, flat_map}
use Rattle.vc_paths.specs.Visible.{Seen}

-- a line of an object's bytes
abbrev pub object_line : Seen ℕ → List ℕ
object_line o = o.bytes ++ 10 ∷ []

-- a line for each of some objects
abbrev pub object_lines : List (Seen ℕ) → List ℕ
object_lines objects = flat_map object_line objects
