-- Disciplines that a shelf has lent from its first places.
use Rattle.std.specs.Prelude.{◌≡◌, ℕ, List, [], ◌∷◌, ◌++◌, Option, Some, None, false, Result, Ok, Err, length}
use Rattle.vc_base.specs.declared.fault.OutOfMemory.{OutOfMemory}
use Rattle.vc_model.specs.Discipline.{Discipline, Kept}
use Rattle.vc_ways.specs.Answer.{Holding, KeepsWay}

-- a discipline, without a segment of it
abbrev pub unused : Discipline → Holding
unused d = record { disc = d; segments = [] }

-- a discipline is back: its terms are the same, its faults have not fallen, and the segments that are out are those of before
pub record IsBack (old new : Discipline) : Type 0 where
  pub kept : Kept old new
  pub out : new.out ≡ old.out

-- a place has its discipline back, or had none and has none
abbrev pub HasBack : Option Discipline → Option Discipline → Type 0
HasBack None None = Unit {0}
HasBack (Some d) (Some e) = IsBack d e
HasBack old new = ⊥

-- and so has each place of a shelf
abbrev pub HasAllBack : List (Option Discipline) → List (Option Discipline) → Type 0
HasAllBack [] [] = Unit {0}
HasAllBack (x ∷ old) (y ∷ new) = HasBack x y × HasAllBack old new
HasAllBack old new = ⊥

-- the disciplines of the first places are lent, and held as they were; all else of the shelf is the same
abbrev pub Opens : List Holding → List (Option Discipline) → List (Option Discipline) → Type 0
Opens [] old new = new ≡ old
Opens (h ∷ hs) (Some d ∷ old) (None ∷ new) = (h ≡ unused d) × Opens hs old new
Opens hs old new = ⊥

-- the disciplines of the first places are lent, and held with segments of theirs; each other place has its own
abbrev pub Lends : List Holding → List (Option Discipline) → List (Option Discipline) → Type 0
Lends [] old new = HasAllBack old new
Lends (h ∷ hs) (Some d ∷ old) (None ∷ new) = KeepsWay false (unused d) h × Lends hs old new
Lends hs old new = ⊥

-- the disciplines of so many places are lent
abbrev pub HasLent : ℕ → List (Option Discipline) → Type 0
HasLent count slots = (old : List (Option Discipline)) × ((hs : List Holding) × ((length hs ≡ count) × Lends hs old slots))

-- and are held as they were
abbrev pub HasOpened : ℕ → List (Option Discipline) → Type 0
HasOpened count slots = (old : List (Option Discipline)) × ((hs : List Holding) × ((length hs ≡ count) × Opens hs old slots))

-- behind those of so many places others are lent, by what was opened over them; where nothing was, they are back
abbrev pub OpensMore : {A : Type 0} → (A → List Holding) → ℕ → Result A OutOfMemory → List (Option Discipline) → List (Option Discipline) → Type 0
OpensMore held count (Ok a) before after =
    (old : List (Option Discipline)) (hs : List Holding) → length hs ≡ count → Opens hs old before → Opens (hs ++ held a) old after
OpensMore held count (Err fault) before after =
    (old : List (Option Discipline)) (hs : List Holding) → length hs ≡ count → Opens hs old before → Lends hs old after
