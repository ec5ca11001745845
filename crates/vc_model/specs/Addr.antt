-- An address in a region: a segment's number and an offset in it, in one number.
use Rattle.std.specs.Prelude.{ℕ, ◌+◌, ◌*◌, ◌/◌, ◌%◌}

-- the address of an offset, a multiple of 32, in the segment of that number
abbrev pub address : ℕ × ℕ → ℕ
address at = at.0 * 1048576 + at.1 / 32

-- the segment and the offset of an address
abbrev pub place_of : ℕ → ℕ × ℕ
place_of a = (a / 1048576, a % 1048576 * 32)
