-- Which segments are given back, by a test on their numbers.
use Rattle.std.specs.Prelude.{ℕ, List, Bool, false, nat_le, not, slice_index_or, ◌==◌, ◌||◌}
use Rattle.vc_seg.specs.Segment.{Bytes}

-- whether a segment has another number
abbrev pub has_other_number : ℕ → Bytes → Bool
has_other_number number b = not (b.number == number)

-- whether a number is marked
abbrev pub is_marked : List Bool → ℕ → Bool
is_marked marks n = slice_index_or marks n false

-- whether the segment of a number stays where that of another one goes unless it passes
abbrev pub is_kept : (ℕ → Bool) → ℕ → ℕ → Bool
is_kept keeps number n = keeps n || not (n == number)

-- whether the segment of a number stays where each one below another goes unless it passes
abbrev pub stays_from : (ℕ → Bool) → ℕ → ℕ → Bool
stays_from keeps number n = nat_le number n || keeps n
