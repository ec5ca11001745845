-- Lists whose items are numbered from 1 on, as the places of a shelf.
use Rattle.std.specs.Prelude.{ℕ, ◌-◌, List, Option, None, slice_get, ◌==◌, if◌then◌else◌}

-- what stands at a number; None where there is no such number
abbrev pub at_number : {A : Type 0} → List A → ℕ → Option A
at_number xs n = if n == 0 then None else slice_get xs (n - 1)
