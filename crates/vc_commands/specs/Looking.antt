-- What the commands that look through a view path find, and what they reply. N names the dictionaries of the path.
use Rattle.std.specs.Prelude.{ℕ, List, Bool, true, Option, Some, None, map, if◌then◌else◌}
use Rattle.vc_dtdisc.specs.Finding.{first_of, last_of}
use Rattle.vc_dtdisc.specs.Objects.{before_key, behind_key, first_with}
use Rattle.vc_dtdisc.specs.Rules.{Rules}
use Rattle.vc_paths.specs.Visible.{Seen, seen_bytes}
use Rattle.vc_script.specs.declared.command.Command.{Command}
use Rattle.vc_script.specs.declared.command.Command.TheVariants.{Search, MatchKey, First, Last, Next, Prev, Walk}
use Rattle.vc_script.specs.Target.{looks, target_of}
use Rattle.vc_script.specs.declared.refusal.Refusal.TheVariants as why
use Rattle.vc_script.specs.declared.reply.Reply.{Reply}
use Rattle.vc_script.specs.declared.reply.Reply.TheVariants.{Found, Nothing, Objects, Refused}
use Rattle.vc_commands.specs.DictCommands.{is_object}

-- whether a command looks through a view path
abbrev pub is_look : Command → Bool
is_look command = looks (target_of command)

-- whether the object or key that a command looks for has 1 to 1,024 bytes, where it has one
abbrev pub is_askable : Command → Bool
is_askable (Search d bytes) = is_object bytes
is_askable (MatchKey d key) = is_object key
is_askable (Next d bytes) = is_object bytes
is_askable (Prev d bytes) = is_object bytes
is_askable command = true

-- the object that a command finds among those that are seen; a walk finds none
abbrev pub found_by_command : {N : Type 0} → Rules → Command → List (Seen N) → Option (Seen N)
found_by_command rules (Search d bytes) seen = first_with seen_bytes rules (rules.key bytes) seen
found_by_command rules (MatchKey d key) seen = first_with seen_bytes rules key seen
found_by_command rules (First d) seen = first_of seen
found_by_command rules (Last d) seen = last_of seen
found_by_command rules (Next d bytes) seen = behind_key seen_bytes rules (rules.key bytes) seen
found_by_command rules (Prev d bytes) seen = before_key seen_bytes rules (rules.key bytes) seen
found_by_command rules command seen = None

-- none where the command may not be asked
abbrev pub look_found : {N : Type 0} → Rules → Command → List (Seen N) → Option (Seen N)
look_found rules command seen = if is_askable command then found_by_command rules command seen else None

-- the object, if one is found
abbrev pub found_reply : {N : Type 0} → Option (Seen N) → Reply
found_reply None = Nothing
found_reply (Some o) = Found o.bytes

-- a walk tells all objects in order
abbrev pub look_answer : {N : Type 0} → Rules → Command → List (Seen N) → Reply
look_answer rules (Walk d) seen = Objects (map seen_bytes seen)
look_answer rules command seen = found_reply (found_by_command rules command seen)

abbrev pub look_reply : {N : Type 0} → Rules → Command → List (Seen N) → Reply
look_reply rules command seen = if is_askable command then look_answer rules command seen else Refused why.Size

-- the place of what is found, where it is an object of the first dictionary itself, and else none
abbrev pub own_place : {N : Type 0} → (N → Bool) → Option (Seen N) → Option ℕ
own_place is_own None = None
own_place is_own (Some o) = if is_own o.dict then Some o.at else None

-- so is that of what a command finds
abbrev pub look_place : {N : Type 0} → (N → Bool) → Rules → Command → List (Seen N) → Option ℕ
look_place is_own rules command seen = own_place is_own (look_found rules command seen)

-- the current object once something is looked for: what is found, where it is the first dictionary's own, and else the one of before
abbrev pub current_or : Option ℕ → Option ℕ → Option ℕ
current_or current None = current
current_or current (Some at) = Some at
