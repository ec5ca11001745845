-- How commands on blocks pair up, told by the commands alone.
use Rattle.std.specs.Prelude.{ℕ, List, [], ◌∷◌, Bool, true, not, ◌&&◌, ◌||◌}
use Rattle.std.specs.Str.{bytes_eq}
use Rattle.vc_script.specs.declared.command.Command.{Command}
use Rattle.vc_script.specs.declared.command.Command.TheVariants.{Alloc, Free, Resize}

-- whether a block stands behind a command, where it's told whether it stood before
abbrev pub stands_after : List ℕ → Bool → Command → Bool
stands_after block stood (Alloc region other size site) = bytes_eq other block || stood
stands_after block stood (Free region other) = not (bytes_eq other block) && stood
stands_after block stood command = stood

-- what is allocated doesn't stand, and what is resized or freed does
abbrev pub fits : (List ℕ → Bool) → Command → Bool
fits stands (Alloc region block size site) = not (stands block)
fits stands (Resize region block size moves) = stands block
fits stands (Free region block) = stands block
fits stands command = true

-- each command fits the blocks that stand behind those before it
abbrev pub are_paired : (List ℕ → Bool) → List Command → Bool
are_paired stands [] = true
are_paired stands (command ∷ commands) =
    fits stands command && are_paired (λ block. stands_after block (stands block) command) commands
