-- Disciplines that go back to their places.
use Rattle.std.specs.Prelude.{◌≡◌, ℕ, ◌+◌, ◌≤◌, List, [], ◌∷◌, ◌++◌, Option, Some, length, map, take, drop}
use Rattle.vc_model.specs.Discipline.{Discipline, TookBack}
use Rattle.vc_seg.specs.Boxed.{disc_in_box}
use Rattle.vc_seg.specs.Shelf.{place_at, slots_of}
use Rattle.vc_seg.specs.declared.shelf.Shelf.{Shelf}
use Rattle.vc_seg.specs.declared.shelf.ShelfPlace.TheVariants.{Taken}
use Rattle.vc_ways.specs.Answer.{Holding}

-- the disciplines of a shelf
abbrev pub slots_on : {I : Type 0} {V : I → Type 0} → ((x : I) × V x → Discipline) → Shelf I V → List (Option Discipline)
slots_on meaning shelf = slots_of (disc_in_box meaning) shelf.slots.items

-- the first places are taken, so many
abbrev pub AreTaken : ℕ → List (Option Discipline) → Type 0
AreTaken most slots = (n : ℕ) → 1 ≤ n → n ≤ most → place_at slots n ≡ Taken

-- each of these disciplines took the segments of its region back
abbrev pub AreSettled : List Holding → List Discipline → Type 0
AreSettled [] [] = Unit {0}
AreSettled (h ∷ rest) (d ∷ others) = TookBack h.disc d h.segments [] × AreSettled rest others
AreSettled holdings discs = ⊥

-- a shelf's slots with disciplines behind the first ones
abbrev pub with_discs : ℕ → List Discipline → List (Option Discipline) → List (Option Discipline)
with_discs first discs slots = take first slots ++ (map Some discs ++ drop (first + length discs) slots)

-- these disciplines took their segments back, and stand behind the first slots; the others stay
pub record AreBack (first : ℕ) (holdings : List Holding) (old new : List (Option Discipline)) : Type 0 where
  pub discs : List Discipline
  pub settled : AreSettled holdings discs
  pub slots : new ≡ with_discs first discs old
