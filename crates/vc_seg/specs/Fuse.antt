-- A discipline that refuses the calls of lend with given numbers.
use Rattle.std.specs.Prelude.{ℕ, List}
use Rattle.vc_model.specs.Discipline.{Discipline}

-- its meaning as a discipline, the numbers of the calls that it refuses, and the number of the last call, from 1
pub record Fuse : Type 0 where
  pub discipline : Discipline
  pub fails : List ℕ
  pub calls : ℕ
