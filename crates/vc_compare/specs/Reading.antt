-- The lines of a source, one after another.
use Rattle.std.specs.Prelude.{◌≡◌, ℕ, ◌+◌, ◌<◌, ◌≤◌, List, [], ◌∷◌, ◌++◌, Bool, true, false, Option, Some, Result, Ok, Err, IsTrue, length, slice_range}
use Rattle.vc_base.specs.declared.fault.ReadFailed.{ReadFailed}
use Rattle.vc_script.specs.Cutting.{Cutting, IsCutting}
use Rattle.vc_script.specs.Judged.{judged_from}
use Rattle.vc_script.specs.Lines.{lines_after}
use Rattle.vc_script.specs.Pieces.{FoundLines}
use Rattle.vc_script.specs.declared.cutter.Cut.{Cut}
use Rattle.vc_script.specs.declared.cutter.Cut.TheVariants as cut
use Rattle.vc_compare.specs.declared.lines.LineReader.{LineReader}
use Rattle.vc_compare.specs.declared.lines.Next.{Next}
use Rattle.vc_compare.specs.declared.lines.Next.TheVariants.{Line, Last, Bad, End}

-- the bytes that were read, and that the cutter has still to take
abbrev pub unread_of : LineReader → List ℕ
unread_of r = slice_range r.piece.items r.from r.end

-- the lines that are found in bytes behind those that the cutter took
abbrev pub found_behind : Cutting → List ℕ → FoundLines
found_behind c bytes = judged_from (c.count + 1) (lines_after c.kept bytes)

-- the lines that are still to come where a source has these bytes left
abbrev pub lines_to_come : LineReader → List ℕ → FoundLines
lines_to_come r left = found_behind r.cutter (unread_of r ++ left)

-- more may be read
pub record CanRead (r : LineReader) : Type 0 where
  pub is_open : IsTrue r.cutter.is_open
  pub cutting : IsCutting r.cutter
  pub ordered : r.from ≤ r.end
  pub within : r.end ≤ 4096
  pub room : length r.piece.items ≡ 4096

-- a piece was read, by whether there was one: the bytes that were left are those of the piece and those that are left now
pub record FillsReader (some : Bool) (input : List ℕ) (new : LineReader) (left : Option (List ℕ)) : Type 0 where
  pub rest : List ℕ
  pub has : left ≡ Some rest
  pub split : input ≡ unread_of new ++ rest
  pub none : some ≡ false → input ≡ []

-- what is still to come is the same, by what is unread and what is left; where there is nothing, all is read
pub record Readied (some : Bool) (before : List ℕ) (new : LineReader) (left : Option (List ℕ)) : Type 0 where
  pub rest : List ℕ
  pub has : left ≡ Some rest
  pub split : before ≡ unread_of new ++ rest
  pub none : some ≡ false → (before ≡ []) × (rest ≡ [])

-- the same by an answer; a failed read loses nothing
abbrev pub Readies : Result Bool ReadFailed → LineReader → List ℕ → LineReader → Option (List ℕ) → Type 0
Readies (Ok some) old input new left = Readied some (unread_of old ++ input) new left
Readies (Err failed) old input new left = Readied true (unread_of old ++ input) new left

-- whether a line is whole
abbrev pub is_line : Cut → Bool
is_line cut.Whole = true
is_line other = false

-- the cutter took bytes of the piece, whatever is behind it
abbrev pub CutsLine : Cut → LineReader → LineReader → Type 0
CutsLine cut.Whole old new = (left : List ℕ) → lines_to_come old left ≡ (new.cutter.count, Ok new.cutter.line) ∷ lines_to_come new left
CutsLine cut.More old new = (left : List ℕ) → lines_to_come old left ≡ lines_to_come new left
CutsLine (cut.Bad fault) old new = (left : List ℕ) → lines_to_come old left ≡ (new.cutter.count + 1, Err fault) ∷ []

-- the cutter took all of the piece, and wants more
pub record IsUsedUp (old new : LineReader) : Type 0 where
  pub can : CanRead new
  pub all : new.from ≡ new.end
  pub count : new.cutter.count ≡ old.cutter.count
  pub more : length old.cutter.kept < length new.cutter.kept

-- one line more was cut, and more may be read
pub record IsOneMore (old new : LineReader) : Type 0 where
  pub can : CanRead new
  pub count : new.cutter.count ≡ old.cutter.count + 1

-- the line that the end of the source ends, where one has begun
abbrev pub IsLastLine : Next → LineReader → LineReader → Type 0
IsLastLine Last old new = found_behind old.cutter [] ≡ (new.cutter.count, Ok new.cutter.line) ∷ []
IsLastLine End old new = found_behind old.cutter [] ≡ []
IsLastLine other old new = ⊥

-- what a source has left, of which these lines come
pub record LeavesLines (new : LineReader) (left : Option (List ℕ)) (behind : FoundLines) : Type 0 where
  pub rest : List ℕ
  pub has : left ≡ Some rest
  pub lines : behind ≡ lines_to_come new rest

-- what is next of a source with these bytes left, and what it has left then; a failed read loses nothing
abbrev pub GivesNextLine : Result Next ReadFailed → LineReader → LineReader → List ℕ → Option (List ℕ) → Type 0
GivesNextLine (Ok Line) old new input left =
    (behind : FoundLines) × ((lines_to_come old input ≡ (new.cutter.count, Ok new.cutter.line) ∷ behind) × LeavesLines new left behind)
GivesNextLine (Ok Last) old new input left = (lines_to_come old input ≡ (new.cutter.count, Ok new.cutter.line) ∷ []) × (left ≡ Some [])
GivesNextLine (Ok (Bad fault)) old new input left = lines_to_come old input ≡ (new.cutter.count + 1, Err fault) ∷ []
GivesNextLine (Ok End) old new input left = (lines_to_come old input ≡ []) × (left ≡ Some [])
GivesNextLine (Err failed) old new input left = LeavesLines new left (lines_to_come old input)
