-- What an answer to an object says.
use Rattle.std.specs.Prelude.{Bool, true, false}
use Rattle.vc_store.specs.declared.put.Put.{Put}
use Rattle.vc_store.specs.declared.put.Put.TheVariants.{New, Old, NoSegment, OutOfMemory, WrongSize}

-- whether an object of its key is there: it, or the one that a set had
abbrev pub is_there : Put → Bool
is_there New = true
is_there Old = true
is_there NoSegment = false
is_there OutOfMemory = false
is_there WrongSize = false
