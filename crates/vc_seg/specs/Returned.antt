-- What taking a segment back leaves of a discipline.
use Rattle.std.specs.Prelude.{◌≡◌, ℕ}
use Rattle.vc_model.specs.Discipline.{Discipline, Kept, without_last}

-- the last such pair is out no more
pub record Returned (old new : Discipline) (pair : ℕ × ℕ) : Type 0 where
  pub kept : Kept old new
  pub out : new.out ≡ without_last pair old.out
  pub faults : new.faults ≡ old.faults
  pub exceptions : new.exceptions ≡ old.exceptions
