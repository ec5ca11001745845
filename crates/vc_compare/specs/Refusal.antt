-- A discipline that refuses a segment, from entry to exit of a comparison.
use Rattle.std.specs.Prelude.{◌≡◌, ℕ, ◌<◌, List, [], Option, Some, IfSome, slice_get, true}
use Rattle.vc_model.specs.Count.{Rose, RoseBy, last_count}
use Rattle.vc_model.specs.Discipline.{Discipline, Kept, NoneRefused, Unserved}
use Rattle.vc_ways.specs.Asking.{Asking}

-- a discipline refused so many bytes to a region that had these segments of it
pub record HasRefused (entry exit : Discipline) (segments : List (ℕ × ℕ)) (bytes : ℕ) : Type 0 where
  -- as it was when it was asked, and when it had answered
  pub asked : Discipline
  pub answered : Discipline
  pub before : Kept entry asked
  pub refuses : Unserved asked answered bytes
  pub behind : NoneRefused answered exit
  -- from entry to exit its faults rose, or stand at the last value
  pub rose : Rose entry.faults exit.faults
  -- where it was armed at entry, it was asked for an exception; and where it made one, its faults rose twice
  pub told : entry.exceptions.armed ≡ true → Rose entry.exceptions.told exit.exceptions.told
  pub twice : entry.exceptions.armed ≡ true → entry.exceptions.yes < exit.exceptions.yes → RoseBy 2 entry.faults exit.faults
  -- where it tells its room and had lent nothing before, the bytes are above its room at entry
  pub room : segments ≡ [] → IfSome entry.room (λ room. room < bytes)

-- the one at the place that was asked refused
pub record RefusesAsked (slots slots' : List (Option Discipline)) (a : Asking) : Type 0 where
  pub entry : Discipline
  pub exit : Discipline
  pub stood : slice_get slots a.place ≡ Some (Some entry)
  pub stands : slice_get slots' a.place ≡ Some (Some exit)
  pub refused : HasRefused entry exit a.segments a.bytes

-- a count didn't rise, and stands below its last value
abbrev pub CountStays : ℕ → ℕ → Type 0
CountStays before after = (after ≡ before) × (before < last_count)

-- no discipline at any place counted a refusal
abbrev pub NoneRose : List (Option Discipline) → List (Option Discipline) → Type 0
NoneRose slots slots' = (n : ℕ) (d e : Discipline) → slice_get slots n ≡ Some (Some d) → slice_get slots' n ≡ Some (Some e) → CountStays d.faults e.faults
