-- What a write into a segment leaves.
use Rattle.std.specs.Prelude.{◌≡◌, ℕ, length, take, drop}
use Rattle.vc_seg.specs.Segment.{Bytes}

-- the segment keeps its number, its length and the bytes outside of a range
pub record StaysOutside (from to : ℕ) (old new : Bytes) : Type 0 where
  pub number : new.number ≡ old.number
  pub len : length new.bytes ≡ length old.bytes
  pub below : take from new.bytes ≡ take from old.bytes
  pub above : drop to new.bytes ≡ drop to old.bytes

-- the segment keeps its number, its length and the bytes below a place
pub record StaysBelow (at : ℕ) (old new : Bytes) : Type 0 where
  pub number : new.number ≡ old.number
  pub len : length new.bytes ≡ length old.bytes
  pub below : take at new.bytes ≡ take at old.bytes
