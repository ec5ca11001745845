-- A discipline that raises its budget once, where it is asked for an exception.
use Rattle.std.specs.Prelude.{ℕ, ◌+◌, Option, Some, None}
use Rattle.vc_model.specs.Discipline.{excused, pleaded}
use Rattle.vc_seg.specs.Budget.{Budget}

-- what it is as a discipline with a budget, and the bytes by which its first exception raises that; none behind it
pub record Relief : Type 0 where
  pub budget : Budget
  pub relief : Option ℕ

-- after it was asked for an exception
abbrev pub relieved : Relief → Relief
relieved r = by r.relief
  where
    by : Option ℕ → Relief
    by None = record r { budget = record r.budget { exceptions = pleaded r.budget.exceptions } }
    by (Some more) = record { relief = None; budget = record r.budget { budget = r.budget.budget + more; exceptions = excused r.budget.exceptions } }
