-- The segments of a region, as number and size in bytes, in order of lending.
use Rattle.std.specs.Prelude.{ℕ, ◌+◌, ◌-◌, ◌*◌, ◌/◌, zero, suc, List, [], ◌∷◌, ◌++◌, Bool, true, false, Option, Some, None, length, map, nat_le, nat_lt, ◌==◌, if◌then◌else◌}
use Rattle.std.specs.List.{last_or, list_any}
use Rattle.vc_model.specs.Discipline.{Terms}

-- n, rounded up to a multiple of the unit
abbrev pub round_up : ℕ → ℕ → ℕ
round_up n unit = unit * ((n + unit - 1) / unit)

-- the bytes that a block of this size takes with its head of 16 bytes, a multiple of 32
abbrev pub span : ℕ → ℕ
span size = round_up (size + 16) 32

-- a region has at most so many segments
abbrev pub segment_limit : ℕ
segment_limit = 1023

abbrev pub numbers : List (ℕ × ℕ) → List ℕ
numbers segments = map (λ s. s.0) segments

-- the first number from n on that isn't among the used ones, of which no more than `more` stand from n on
abbrev pub unused_from : ℕ → ℕ → List ℕ → ℕ
unused_from n zero used = n
unused_from n (suc more) used = if list_any (λ m. m == n) used then unused_from (n + 1) more used else n

-- the least number from 1 on that isn't used
abbrev pub lowest_unused : List ℕ → ℕ
lowest_unused used = unused_from 1 (length used) used

-- what is granted: a new segment under a number, or so many bytes more for the one lent latest, which has it
pub record Grant : Type 0 where
  pub number : ℕ
  pub bytes : ℕ
  pub fresh : Bool

-- the segments with so many bytes more in the last one
abbrev pub with_more : ℕ → List (ℕ × ℕ) → List (ℕ × ℕ)
with_more more [] = []
with_more more (s ∷ []) = (s.0, s.1 + more) ∷ []
with_more more (s ∷ t ∷ ss) = s ∷ with_more more (t ∷ ss)

-- the segments with what is granted
abbrev pub segments_with : Grant → List (ℕ × ℕ) → List (ℕ × ℕ)
segments_with g segments = if g.fresh then segments ++ (g.number, g.bytes) ∷ [] else with_more g.bytes segments

-- a new segment of that number and size
abbrev pub new_segment : ℕ → ℕ → Grant
new_segment number bytes = record { number = number; bytes = bytes; fresh = true }

-- what asking for bytes gives
pub data Asked : Type 0 where
  Granted : (grant : Grant) → Asked
  TooMany : Asked
  NotLent : Asked

-- asking for a new segment
abbrev pub ask_new : ℕ → List (ℕ × ℕ) → Bool → Asked
ask_new bytes segments refused =
    if nat_lt (length segments) segment_limit
    then (if refused then NotLent else Granted (new_segment (lowest_unused (numbers segments)) bytes))
    else TooMany

-- a segment has at most so many bytes
abbrev pub size_limit : ℕ
size_limit = 33554432

-- the segment that gets more bytes where they are asked for: the one lent latest, where the discipline grows
abbrev pub growing : Terms → List (ℕ × ℕ) → Option (ℕ × ℕ)
growing terms segments = if terms.grows then last_or None segments else None

-- asking for more bytes of a segment
abbrev pub ask_more : ℕ → ℕ × ℕ → Bool → Asked
ask_more bytes s refused =
    if nat_le (s.1 + bytes) size_limit
    then (if refused then NotLent else Granted (record { number = s.0; bytes = bytes; fresh = false }))
    else TooMany

-- asking for more of a segment, where there is one that may grow, or for a new one
abbrev pub ask_by : Option (ℕ × ℕ) → ℕ → List (ℕ × ℕ) → Bool → Asked
ask_by None bytes segments refused = ask_new bytes segments refused
ask_by (Some s) bytes segments refused = ask_more bytes s refused

-- asking a discipline of these terms for so many bytes, a multiple of the round; whether it refuses is the one free choice
abbrev pub ask : Terms → ℕ → List (ℕ × ℕ) → Bool → Asked
ask terms bytes segments refused = ask_by (growing terms segments) bytes segments refused
