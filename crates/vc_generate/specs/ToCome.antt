-- The commands that a generator's fields stand for.
use Rattle.std.specs.Prelude.{ℕ, List, ◌++◌, Bool, drop}
use Rattle.vc_script.specs.declared.command.Command.{Command}
use Rattle.vc_script.specs.declared.tool.Tool.{Tool}
use Rattle.vc_generate.specs.Generated.{closing, commands_of, opening}

-- what is left of the opening, the commands of the words to come at these taken places, and what is left of the closing
unfoldable pub to_come : Tool → ℕ → List Bool → List ℕ → ℕ → List Command
to_come tool opened taken words closed =
    drop opened (opening tool) ++ commands_of tool taken words ++ drop closed (closing tool)
