-- Which holder's object has a key.
use Rattle.std.specs.Prelude.{ℕ, Bool, List, Option}
use Rattle.vc_base.specs.Cells.{Blocks, body_of, bytes_at}
use Rattle.vc_dtdisc.specs.Objects as objects
use Rattle.vc_dtdisc.specs.Rules.{Rules}

-- the object of a holder: the bytes behind its words
abbrev pub object_at : Blocks → ℕ → List ℕ
object_at blocks at = body_of (bytes_at blocks at)

-- whether that object has this key
abbrev pub has_key : Rules → Blocks → List ℕ → ℕ → Bool
has_key rules blocks key at = objects.has_key rules key (object_at blocks at)

-- the first of these holders whose object has it
abbrev pub find_key : Rules → Blocks → List ℕ → List ℕ → Option ℕ
find_key rules blocks key holders = objects.first_with (object_at blocks) rules key holders
