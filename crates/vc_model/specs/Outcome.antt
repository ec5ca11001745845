-- What a call of a region gives.
use Rattle.std.specs.Prelude.{ℕ, Option}
use Rattle.vc_model.specs.Segments.{Grant}

-- why a region refuses a call
pub data Fault : Type 0 where
  TooManySegments : Fault
  NoSegment : Fault
  Fixed : Fault
  PoolSize : Fault
  NotLast : Fault
  WrongMethod : Fault

-- the call is done, or it is refused and changes nothing
pub data Outcome (A : Type 0) : Type 0 where
  Done : (answer : A) → Outcome A
  Refused : (why : Fault) → Outcome A

-- a block was put, or stays: its place as segment and offset, the region after the call, and what was granted for it
pub record Put (R : Type 0) : Type 0 where
  pub at : ℕ × ℕ
  pub region : R
  pub granted : Option Grant

-- the same of another form of the region
abbrev pub put_as : {R S : Type 0} → (R → S) → Put R → Put S
put_as form p = record { at = p.at; region = form p.region; granted = p.granted }

abbrev pub outcome_as : {R S : Type 0} → (R → S) → Outcome (Put R) → Outcome (Put S)
outcome_as form (Done p) = Done (put_as form p)
outcome_as form (Refused why) = Refused why

-- what a call gives, of another form of what it answers
abbrev pub done_as : {A B : Type 0} → (A → B) → Outcome A → Outcome B
done_as form (Done answer) = Done (form answer)
done_as form (Refused why) = Refused why
