-- A discipline that has at most so many bytes out at a time.
use Rattle.std.specs.Prelude.{ℕ, ◌-◌, List, Some, sum_by}
use Rattle.vc_model.specs.Discipline.{Discipline, Exceptions, Terms}

-- the most bytes that may be out, the segments that are out, the refusals so far, its terms, and its exceptions
pub record Budget : Type 0 where
  pub budget : ℕ
  pub out : List (ℕ × ℕ)
  pub faults : ℕ
  pub terms : Terms
  pub exceptions : Exceptions

-- the bytes of segments
abbrev pub bytes_of : List (ℕ × ℕ) → ℕ
bytes_of segments = sum_by (λ s. s.1) segments

-- the bytes that it can still lend: the budget less the bytes out
abbrev pub left_in_budget : Budget → ℕ
left_in_budget b = b.budget - bytes_of b.out

-- its meaning as a discipline, which tells that room
abbrev pub discipline_of : Budget → Discipline
discipline_of b = record { out = b.out; faults = b.faults; terms = b.terms; room = Some (left_in_budget b); exceptions = b.exceptions }
