-- The count of a counter of steps, which takes no memory.
use Rattle.std.specs.Prelude.{ℕ}
use base.Fml.{Fml, fsep, fobs, fauth}
use base.Stored.{gnum}

-- both halves of the ghost cell of that name, which holds the count
unfoldable pub count_owns : ℕ → ℕ → Fml
count_owns name count = fsep (fobs name (gnum count)) (fauth name (gnum count))
