-- What is taken from the front of a list.
use Rattle.std.specs.Prelude.{◌≡◌, List, [], ◌∷◌, Bool, true, false, Option, Some, None}
use Rattle.vc_script.specs.declared.command.Command.{Command}
use Rattle.vc_script.specs.declared.command.Command.TheVariants.{Delete, Insert, Search}

-- the first of a list, behind which the others stay, or none of an empty list, which stays empty
abbrev pub IsNext : {A : Type 0} → Option A → List A → List A → Type 0
IsNext None before after = (before ≡ []) × (after ≡ [])
IsNext (Some first) before after = before ≡ first ∷ after

-- whether the first command holds an object, which takes memory
abbrev pub is_object_next : List Command → Bool
is_object_next (Insert dict object ∷ rest) = true
is_object_next (Delete dict object ∷ rest) = true
is_object_next (Search dict object ∷ rest) = true
is_object_next commands = false
