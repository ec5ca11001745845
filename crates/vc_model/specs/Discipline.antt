-- What a segment discipline means to whoever asks it for segments.
use Rattle.std.specs.Prelude.{◌≡◌, ◌≢◌, ℕ, ◌+◌, ◌-◌, ◌%◌, ◌<◌, ◌≤◌, ◌==◌, ◌&&◌, ◌⊎◌, List, [], ◌∷◌, ◌++◌, Bool, true, false, Option, Contains, IfSome, IsSomeAnd, option_map, if◌then◌else◌}
use Rattle.std.specs.List.{list_any}
use Rattle.vc_model.specs.Count.{Rose, RoseBy, last_count, next_count}

-- what is constant of a discipline: the bytes to a multiple of which sizes are rounded up, and whether it may be asked to make a segment longer
pub record Terms : Type 0 where
  pub round : ℕ
  pub grows : Bool

-- what a discipline does about a refusal: whether it may be asked for an exception, how often it was asked for one, and how often it made one
pub record Exceptions : Type 0 where
  pub armed : Bool
  pub told : ℕ
  pub yes : ℕ

-- the segments that are out, as number and bytes; the refusals so far; its terms; the bytes that it can still lend, where it tells them; its exceptions
pub record Discipline : Type 0 where
  pub out : List (ℕ × ℕ)
  pub faults : ℕ
  pub terms : Terms
  pub room : Option ℕ
  pub exceptions : Exceptions

-- it isn't armed, and made no exception
abbrev pub no_exceptions : Exceptions
no_exceptions = record { armed = false; told = 0; yes = 0 }

-- with its arming changed, and nothing else
abbrev pub armed_as : Bool → Discipline → Discipline
armed_as on d = record d { exceptions = record { armed = on; told = d.exceptions.told; yes = d.exceptions.yes } }

-- it was asked for an exception, and made none; it made one
abbrev pub pleaded : Exceptions → Exceptions
pleaded e = record { armed = e.armed; told = next_count e.told; yes = e.yes }

abbrev pub excused : Exceptions → Exceptions
excused e = record { armed = e.armed; told = next_count e.told; yes = next_count e.yes }

-- a round is a multiple of 32 from 32 to 65,536
pub record IsRound (round : ℕ) : Type 0 where
  pub least : 32 ≤ round
  pub most : round ≤ 65536
  pub multiple : round % 32 ≡ 0

-- the size of a segment is a multiple of 32 from 64 to 33,554,432 bytes
pub record IsSegmentSize (size : ℕ) : Type 0 where
  pub least : 64 ≤ size
  pub most : size ≤ 33554432
  pub multiple : size % 32 ≡ 0

-- one lend of a segment: its pair is the last that is out, and the room held it where it is told
pub record LentAtOnce (old new : Discipline) (number size : ℕ) : Type 0 where
  pub out : new.out ≡ old.out ++ (number, size) ∷ []
  pub room : IfSome old.room (λ room. size ≤ room)
  pub faults : new.faults ≡ old.faults
  pub terms : new.terms ≡ old.terms
  pub exceptions : new.exceptions ≡ old.exceptions

-- one refusal of so many bytes: the faults rose, and the room was below the size where it is told; all else stays
pub record RefusedAtOnce (old new : Discipline) (size : ℕ) : Type 0 where
  pub rose : Rose old.faults new.faults
  pub never_less : old.faults ≤ new.faults
  pub most : new.faults ≤ last_count
  pub room : IfSome old.room (λ room. room < size)
  pub out : new.out ≡ old.out
  pub same_room : new.room ≡ old.room
  pub terms : new.terms ≡ old.terms
  pub exceptions : new.exceptions ≡ old.exceptions

-- the discipline was asked for an exception: it is counted, and so is one that it makes; one that it doesn't make leaves the room, and no room that is told gets less
pub record Excepted (old new : Discipline) (made : Bool) : Type 0 where
  pub out : new.out ≡ old.out
  pub faults : new.faults ≡ old.faults
  pub terms : new.terms ≡ old.terms
  pub armed : new.exceptions.armed ≡ old.exceptions.armed
  pub told : Rose old.exceptions.told new.exceptions.told
  pub never_less_told : old.exceptions.told ≤ new.exceptions.told
  pub never_less_yes : old.exceptions.yes ≤ new.exceptions.yes
  pub yes : made ≡ true → Rose old.exceptions.yes new.exceptions.yes
  pub no : made ≡ false → (new.exceptions.yes ≡ old.exceptions.yes) × (new.room ≡ old.room)
  pub room : IfSome old.room (λ r. IsSomeAnd new.room (λ s. r ≤ s))

-- whether a discipline that refused makes an exception: one that isn't armed isn't asked
abbrev pub Excepts : Discipline → Discipline → Bool → Type 0
Excepts old new true = (old.exceptions.armed ≡ true) × Excepted old new true
Excepts old new false = (old.exceptions.armed ≡ false → new ≡ old) × (old.exceptions.armed ≡ true → Excepted old new false)

-- from entry to exit of a call the terms are the same, and it is armed as before; the counts have not fallen; an exception was made only where the faults rose, and was asked for only where it is armed
pub record Kept (old new : Discipline) : Type 0 where
  pub terms : new.terms ≡ old.terms
  pub armed : new.exceptions.armed ≡ old.exceptions.armed
  pub faults : old.faults ≤ new.faults
  pub told : old.exceptions.told ≤ new.exceptions.told
  pub yes : old.exceptions.yes ≤ new.exceptions.yes
  pub counted : old.exceptions.yes < new.exceptions.yes → Rose old.faults new.faults
  pub unarmed : old.exceptions.armed ≡ false → new.exceptions ≡ old.exceptions

-- an armed discipline made an exception behind a refusal
pub record Excused (old new : Discipline) : Type 0 where
  pub armed : old.exceptions.armed ≡ true
  pub yes : Rose old.exceptions.yes new.exceptions.yes

-- all that was asked for was granted, at once or as an exception
pub record NoneRefused (old new : Discipline) : Type 0 where
  pub kept : Kept old new
  pub faults : (new.faults ≡ old.faults) ⊎ Excused old new

-- a segment was lent, at once or as an exception: its pair is the last that is out, and at once the room held it where it is told
pub record Lent (old new : Discipline) (number size : ℕ) : Type 0 where
  pub kept : Kept old new
  pub out : new.out ≡ old.out ++ (number, size) ∷ []
  pub faults : (new.faults ≡ old.faults) ⊎ Excused old new
  pub room : IfSome old.room (λ room. size ≤ room) ⊎ Excused old new

-- nothing was lent for want of memory, which may come behind an exception
pub record LentNothing (old new : Discipline) : Type 0 where
  pub kept : Kept old new
  pub out : new.out ≡ old.out
  pub same : (new ≡ old) ⊎ Excused old new

-- a segment of that size was refused: the faults rose, twice where an exception was made, which was asked for where the discipline is armed; and the room was below the size where it is told, and is below it; nothing went out
pub record Unserved (old new : Discipline) (size : ℕ) : Type 0 where
  pub kept : Kept old new
  pub rose : Rose old.faults new.faults
  pub told : old.exceptions.armed ≡ true → Rose old.exceptions.told new.exceptions.told
  pub twice : old.exceptions.armed ≡ true → old.exceptions.yes < new.exceptions.yes → RoseBy 2 old.faults new.faults
  pub room : IfSome old.room (λ room. room < size)
  pub room_after : IfSome new.room (λ room. room < size)
  pub same_room : (new.room ≡ old.room) ⊎ Excused old new
  pub out : new.out ≡ old.out

-- a call of a region was refused nothing. Where it left other segments than before, these stand in their place among those that are out, and the room held the size that was asked for, but for an exception; else the discipline is the same
pub record Served (old new : Discipline) (segments segments' : List (ℕ × ℕ)) (size : ℕ) : Type 0 where
  pub kept : Kept old new
  pub faults : (new.faults ≡ old.faults) ⊎ Excused old new
  pub out : (rest : List (ℕ × ℕ)) → old.out ≡ rest ++ segments → new.out ≡ rest ++ segments'
  pub room : segments' ≢ segments → IfSome old.room (λ room. size ≤ room) ⊎ Excused old new
  pub same : segments' ≡ segments → new ≡ old

-- the discipline took back those of a region's segments that are gone, and keeps all else that is out
pub record TookBack (old new : Discipline) (segments segments' : List (ℕ × ℕ)) : Type 0 where
  pub kept : Kept old new
  pub faults : new.faults ≡ old.faults
  pub exceptions : new.exceptions ≡ old.exceptions
  pub out : (rest : List (ℕ × ℕ)) → old.out ≡ rest ++ segments → new.out ≡ rest ++ segments'

-- the last segments that are out are those of a region
abbrev pub HasOut : Discipline → List (ℕ × ℕ) → Type 0
HasOut d segments = (rest : List (ℕ × ℕ)) × (d.out ≡ rest ++ segments)

abbrev pub same_pair : ℕ × ℕ → ℕ × ℕ → Bool
same_pair p q = (p.0 == q.0) && (p.1 == q.1)

-- a list without the last pair that is equal to this one
abbrev pub without_last : ℕ × ℕ → List (ℕ × ℕ) → List (ℕ × ℕ)
without_last p [] = []
without_last p (q ∷ qs) = if list_any (same_pair p) qs then q ∷ without_last p qs else (if same_pair p q then qs else q ∷ qs)

-- a list in which the last pair that is equal to this one has so many bytes more
abbrev pub extend_last : ℕ × ℕ → ℕ → List (ℕ × ℕ) → List (ℕ × ℕ)
extend_last p more [] = []
extend_last p more (q ∷ qs) = if list_any (same_pair p) qs then q ∷ extend_last p more qs else (if same_pair p q then (q.0, q.1 + more) ∷ qs else q ∷ qs)

-- a discipline may be asked for so many bytes more of a segment: it grows, the segment is out, the bytes are a multiple of the round and at least that, and the segment's size stays legal
pub record CanExtend (d : Discipline) (pair : ℕ × ℕ) (more : ℕ) : Type 0 where
  pub grows : d.terms.grows ≡ true
  pub out : Contains d.out pair
  pub some : 1 ≤ more
  pub multiple : more % d.terms.round ≡ 0
  pub size : IsSegmentSize (pair.1 + more)

-- one extension of a segment: its pair has the new size, and the room held the bytes where it is told, and is less by them
pub record ExtendedAtOnce (old new : Discipline) (pair : ℕ × ℕ) (more : ℕ) : Type 0 where
  pub out : new.out ≡ extend_last pair more old.out
  pub room : IfSome old.room (λ room. more ≤ room)
  pub spent : new.room ≡ option_map (λ room. room - more) old.room
  pub faults : new.faults ≡ old.faults
  pub terms : new.terms ≡ old.terms
  pub exceptions : new.exceptions ≡ old.exceptions

-- a segment was made longer, at once or as an exception: its pair has the new size, and at once the room held the bytes where it is told, and is less by them
pub record Extended (old new : Discipline) (pair : ℕ × ℕ) (more : ℕ) : Type 0 where
  pub kept : Kept old new
  pub out : new.out ≡ extend_last pair more old.out
  pub faults : (new.faults ≡ old.faults) ⊎ Excused old new
  pub room : IfSome old.room (λ room. more ≤ room) ⊎ Excused old new
  pub spent : (new.room ≡ option_map (λ room. room - more) old.room) ⊎ Excused old new
