-- What the words behind the program's name ask for.
use Rattle.std.specs.Prelude.{ℕ, List, [], ◌∷◌, Option, Some, None, bytes_eq, codes, if◌then◌else◌}
use Rattle.vc_image_run.specs.declared.tool.task.ImageTask.{ImageTask}
use Rattle.vc_image_run.specs.declared.tool.task.ImageTask.TheVariants.{Check, Show, Save, Run}

-- the task of a name
abbrev pub task_named : List ℕ → Option ImageTask
task_named name =
    if bytes_eq name (codes "check") then Some Check
    else (if bytes_eq name (codes "show") then Some Show
    else (if bytes_eq name (codes "save") then Some Save
    else (if bytes_eq name (codes "run") then Some Run
    else None)))

-- that of two words, the second of which names a file
abbrev pub task_of : List (List ℕ) → Option ImageTask
task_of (name ∷ file ∷ []) = task_named name
task_of words = None
