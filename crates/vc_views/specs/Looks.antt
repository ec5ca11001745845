-- What a command that looks through a dictionary finds and replies, by numbers.
use Rattle.std.specs.Prelude.{ℕ, Option, ◌==◌}
use Rattle.vc_commands.specs.Looking.{look_found, look_reply, own_place}
use Rattle.vc_paths.specs.Layers.{Layered}
use Rattle.vc_paths.specs.Links.{Links}
use Rattle.vc_paths.specs.Path.{visible_of}
use Rattle.vc_script.specs.declared.command.Command.{Command}
use Rattle.vc_script.specs.declared.reply.Reply.{Reply}

-- the reply to it
abbrev pub reply_through : Layered → Links → ℕ → Command → Reply
reply_through all links d command = look_reply (all.layer d).rules command (visible_of all links d)

-- the place of what it finds, where that is an object of the dictionary itself
abbrev pub place_through : Layered → Links → ℕ → Command → Option ℕ
place_through all links d command = own_place (λ e. e == d) (look_found (all.layer d).rules command (visible_of all links d))
