-- The range of what words ask for.
use Rattle.std.specs.Prelude.{ℕ, Option, Some, None, Bool, true}
use Rattle.vc_script.specs.Words.{is_between}

-- whether a count of generated commands, where one is given, is 1 to 1,000,000
abbrev pub is_in_range : Option ℕ → Bool
is_in_range None = true
is_in_range (Some n) = is_between 1 1000000 n
