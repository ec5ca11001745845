-- How objects come into a buffer.
use Rattle.std.specs.Prelude.{◌≡◌, ℕ, ◌++◌, List, Option, Some, None, Bool, length, drop, nat_le, if◌then◌else◌}
use Rattle.vc_store.specs.Reading.{Contents, Sought, current, first_place, last_index, next_place, previous_place}
use Rattle.vc_checked.specs.declared.answer.Answer.{Answer}
use Rattle.vc_checked.specs.declared.answer.Answer.TheVariants.{Done, TooSmall, NoObject}
use Rattle.vc_checked.specs.declared.places.Move.{Move}
use Rattle.vc_checked.specs.declared.places.Move.TheVariants.{First, Last, Next, Previous}

-- a buffer before a call and after it, and the length that the call told
pub record Room : Type 0 where
  pub before : List ℕ
  pub after : List ℕ
  pub needed : ℕ

abbrev pub room : List ℕ → List ℕ → ℕ → Room
room before after needed = record { before = before; after = after; needed = needed }

-- whether an object is no longer than a buffer
abbrev pub fits_room : List ℕ → Room → Bool
fits_room object r = nat_le (length object) (length r.before)

-- an object's length is told; where it fits, the object stands at the front and the other bytes stay, and else all do
pub record IsShown (object : List ℕ) (r : Room) (answer : Answer) : Type 0 where
  pub needed : r.needed ≡ length object
  pub answered : answer ≡ (if fits_room object r then Done else TooSmall)
  pub after : r.after ≡ (if fits_room object r then object ++ drop (length object) r.before else r.before)

-- nothing is shown
pub record ShowsNothing (due : Answer) (r : Room) (answer : Answer) : Type 0 where
  pub answered : answer ≡ due
  pub needed : r.needed ≡ 0
  pub after : r.after ≡ r.before

-- an object is shown where there is one
abbrev pub ShowsIfThere : Option (List ℕ) → Room → Answer → Type 0
ShowsIfThere None r answer = ShowsNothing NoObject r answer
ShowsIfThere (Some object) r answer = IsShown object r answer

-- the place that becomes current, among the objects and by the one that is
abbrev pub place_by : Move → Contents → Option ℕ
place_by First d = first_place (length d.objects)
place_by Last d = last_index (length d.objects)
place_by Next d = next_place (length d.objects) d.place
place_by Previous d = previous_place d.place

-- what is shown where an object was sought: the current one, where there is such a one
abbrev pub shown_if : Bool → Contents → Option (List ℕ)
shown_if there d = if there then current d else None

-- the first object that passes a test is current and is shown, where there is one
pub record SeeksFirst (test : List ℕ → Bool) (old new : Contents) (r : Room) (answer : Answer) : Type 0 where
  pub there : Bool
  pub sought : Sought test there old new
  pub shown : ShowsIfThere (shown_if there new) r answer
