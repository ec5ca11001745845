-- How a tool ends.
use Rattle.std.specs.Prelude.{ℕ}
use Rattle.vc_session.specs.declared.status.Status.{Status}
use Rattle.vc_session.specs.declared.status.Status.TheVariants.{Ok, Script, Usage, Read, Write, Memory}

-- the number that a program ends with
abbrev pub number : Status → ℕ
number Ok = 0
number Script = 1
number Usage = 2
number Read = 3
number Write = 4
number Memory = 5
