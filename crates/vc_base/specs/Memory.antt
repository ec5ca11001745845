-- A source and a sink over memory, which serve pieces of one greatest size and fail at the calls of given numbers.
use Rattle.std.specs.Prelude.{ℕ, ◌-◌, List, ◌++◌, length, take, drop, min, Bool, ◌==◌, ◌||◌, if◌then◌else◌}
use Rattle.std.specs.List.{list_any}
use Rattle.vc_model.specs.Count.{next_count}

-- the bytes that are left, and the numbers of the calls that fail, from 1
pub record MemorySource : Type 0 where
  pub left : List ℕ
  pub piece : ℕ
  pub fails : List ℕ
  pub calls : ℕ
  pub faults : ℕ

-- the bytes that were written, and how many still fit
pub record MemorySink : Type 0 where
  pub written : List ℕ
  pub room : ℕ
  pub piece : ℕ
  pub fails : List ℕ
  pub calls : ℕ
  pub faults : ℕ

-- whether the call after that many is one of those that fail
abbrev pub fails_after : List ℕ → ℕ → Bool
fails_after fails calls = list_any (λ number. number == next_count calls) fails

-- how many bytes a read that doesn't fail gives into a buffer of that length
abbrev pub bytes_given : MemorySource → ℕ → ℕ
bytes_given s buffer = min (min s.piece buffer) (length s.left)

-- the source after a read into a buffer of that length
abbrev pub after_read : MemorySource → ℕ → MemorySource
after_read s buffer =
    if fails_after s.fails s.calls
    then record s { calls = next_count s.calls; faults = next_count s.faults }
    else record s { left = drop (bytes_given s buffer) s.left; calls = next_count s.calls }

-- whether the next write fails: at a number that is listed, or for want of room
abbrev pub refuses : MemorySink → Bool
refuses s = fails_after s.fails s.calls || (s.room == 0)

-- how many bytes a write that doesn't fail takes of a piece of that length
abbrev pub bytes_accepted : MemorySink → ℕ → ℕ
bytes_accepted s offered = min (min s.piece offered) s.room

-- the sink after a write of that piece
abbrev pub after_write : MemorySink → List ℕ → MemorySink
after_write s piece =
    if refuses s
    then record s { calls = next_count s.calls; faults = next_count s.faults }
    else record s {
      written = s.written ++ take (bytes_accepted s (length piece)) piece;
      room = s.room - bytes_accepted s (length piece);
      calls = next_count s.calls;
    }
