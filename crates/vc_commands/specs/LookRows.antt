-- A worked path for the rows of what is looked for.
use Rattle.std.specs.Prelude.{ℕ, List, [], ◌∷◌, Option, codes, ◌==◌}
use Rattle.vc_dtdisc.specs.Rules.{Rules}
use Rattle.vc_dtdisc.specs.Shapes.{rules_of}
use Rattle.vc_dtdisc.specs.declared.shape.Shape.TheVariants.{Field}
use Rattle.vc_paths.specs.Visible.{Seen}
use Rattle.vc_script.specs.declared.command.Command.{Command}
use Rattle.vc_script.specs.declared.reply.Reply.{Reply}
use Rattle.vc_commands.specs.Looking.{look_found, look_reply, own_place}

-- an object of a dictionary of that number, at an address
abbrev pub object_seen : ℕ → ℕ → List ℕ → Seen ℕ
object_seen d at bytes = record { dict = d; at = at; bytes = bytes }

-- a key is the first byte
abbrev pub by_first : Rules
by_first = rules_of (Field 0 1)

-- through dictionary 0, an ordered bag of a0 and c3, b1 and b2 of dictionary 1 are seen too
abbrev pub path_seen : List (Seen ℕ)
path_seen =
    object_seen 0 64 (codes "a0") ∷ object_seen 1 64 (codes "b1") ∷ object_seen 1 96 (codes "b2") ∷ object_seen 0 96 (codes "c3") ∷ []

-- the reply to a command there, what it finds, and the place of that in dictionary 0
abbrev pub reply_there : Command → Reply
reply_there command = look_reply by_first command path_seen

abbrev pub found_there : Command → Option (Seen ℕ)
found_there command = look_found by_first command path_seen

abbrev pub own_there : Command → Option ℕ
own_there command = own_place (λ d. d == 0) (found_there command)
