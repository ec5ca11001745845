-- What asking for an image's segments leaves of a discipline. They stand as number and size, in order of lending.
use Rattle.std.specs.Prelude.{◌≡◌, ℕ, ◌<◌, List, [], ◌++◌, Some, option_map, slice_get, take, true}
use Rattle.vc_model.specs.Count.{Rose, RoseBy}
use Rattle.vc_model.specs.Discipline.{Discipline, Kept, TookBack, Unserved}
use Rattle.vc_image.specs.declared.lends.fault.ImageLendFault.{ImageLendFault}
use Rattle.vc_image.specs.declared.lends.fault.ImageLendFault.TheVariants.{Round, Grows, NoSegment, OutOfMemory}

-- these were lent, and are the last that are out
pub record AreLent (old new : Discipline) (pairs : List (ℕ × ℕ)) : Type 0 where
  pub kept : Kept old new
  pub out : new.out ≡ old.out ++ pairs

-- the one of that number was refused, which is at a place. Those before it were lent up to the asking, and went back after it. From before to after the faults rose; where it was armed it was asked for an exception, and the faults rose twice where it made one. Where it is the first nothing else happened
pub record IsRefused (old new : Discipline) (pairs : List (ℕ × ℕ)) (number : ℕ) : Type 0 where
  pub place : ℕ
  pub size : ℕ
  pub there : slice_get pairs place ≡ Some (number, size)
  pub asked : Discipline
  pub refused : Discipline
  pub lent : AreLent old asked (take place pairs)
  pub unserved : Unserved asked refused size
  pub back : TookBack refused new (take place pairs) []
  pub rose : Rose old.faults new.faults
  pub told : old.exceptions.armed ≡ true → Rose old.exceptions.told new.exceptions.told
  pub twice : old.exceptions.armed ≡ true → old.exceptions.yes < new.exceptions.yes → RoseBy 2 old.faults new.faults
  pub first : option_map (λ (p : ℕ × ℕ). p.0) (slice_get pairs 0) ≡ Some number → Unserved old new size

-- why not all were lent; want of memory may come at any time
abbrev pub IsLendFault : Discipline → Discipline → List (ℕ × ℕ) → ImageLendFault → Type 0
IsLendFault old new pairs (NoSegment number) = IsRefused old new pairs number
IsLendFault old new pairs OutOfMemory = Unit {0}
IsLendFault old new pairs (Round number) = ⊥
IsLendFault old new pairs Grows = ⊥
