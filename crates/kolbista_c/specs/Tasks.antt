-- What is promised of each thing that is done with a script over disciplines of its own.
use Rattle.std.specs.Prelude.{ℕ, List, map, string_bytes}
use Rattle.kolbista_c.specs.Making.{MadeInMemory, Remade, Saved}
use Rattle.kolbista_c.specs.Memory.{Buffer, RanInMemory}
use Rattle.kolbista_c.specs.declared.own_shelf.Task.{Task}
use Rattle.kolbista_c.specs.declared.own_shelf.Task.TheVariants.{Run, Save, RunOver}

-- by what is done, once there was memory for the disciplines
abbrev pub Performs : Task → List ℕ → ℕ → Buffer → Buffer → Buffer → Type 0
Performs (Run tool words) script answer made out err = RanInMemory tool (map string_bytes words.now) script answer out err
Performs Save script answer made out err = MadeInMemory (Saved script) answer made out err
Performs (RunOver image) script answer made out err = MadeInMemory (Remade image.now script) answer made out err
