-- What a call of a way answers, and what it leaves of the disciplines.
use Rattle.std.specs.Prelude.{◌≡◌, ℕ, List, [], ◌∷◌, ◌++◌, Bool, false, true, Result, Ok, Err}
use Rattle.vc_model.specs.Discipline.{Discipline, HasOut, Kept}
use Rattle.vc_model.specs.Outcome.{Outcome, Done}
use Rattle.vc_seg.specs.Answer.{IsRefusal}
use Rattle.vc_seg.specs.declared.fault.RegionFault.{RegionFault}

-- the answer, seen in the words of the definitions, and the way after the call. Whether a segment is refused is the one free choice
abbrev pub GivesOutcome : {A B W : Type 0} → (Bool → Outcome (A × W)) → (B → A) → Result B RegionFault → W → Type 0
GivesOutcome call view (Ok a) new = call false ≡ Done (view a, new)
GivesOutcome call view (Err why) new = IsRefusal call why

-- a discipline, and the segments that a region has of it
pub record Holding : Type 0 where
  pub disc : Discipline
  pub segments : List (ℕ × ℕ)

-- the segments are the last that it lent
abbrev pub HasOwnSegmentsOut : Holding → Type 0
HasOwnSegmentsOut h = HasOut h.disc h.segments

-- its terms are the same, its faults have not fallen, and what is out besides the region's segments is out. Where the region has no segment it had none, and where the call went the discipline is the same then
pub record KeepsWay (went : Bool) (old new : Holding) : Type 0 where
  pub kept : Kept old.disc new.disc
  pub out : (rest : List (ℕ × ℕ)) → old.disc.out ≡ rest ++ old.segments → new.disc.out ≡ rest ++ new.segments
  pub none : new.segments ≡ [] → old.segments ≡ []
  pub same : went ≡ true → new.segments ≡ [] → new.disc ≡ old.disc

-- of each of these
abbrev pub KeepsWays : Bool → List Holding → List Holding → Type 0
KeepsWays went [] [] = Unit {0}
KeepsWays went (a ∷ rest) (b ∷ others) = KeepsWay went a b × KeepsWays went rest others
KeepsWays went olds news = ⊥
