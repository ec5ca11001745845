-- What one read and one write do to the bytes that a source or a sink tells.
use Rattle.std.specs.Prelude.{◌≡◌, ℕ, ◌<◌, ◌≤◌, List, [], ◌++◌, Option, Some, IfSome, length, take, drop}

-- the first n bytes of these go into the first n of a buffer; none go into a buffer with room only at their end
pub record Takes (bytes : List ℕ) (after : Option (List ℕ)) (buffer : List ℕ) (n : ℕ) : Type 0 where
  pub within : n ≤ length bytes
  pub same : take n buffer ≡ take n bytes
  pub rest : after ≡ Some (drop n bytes)
  pub at_end : 0 < length buffer → n ≡ 0 → bytes ≡ []

-- a read of n bytes into a buffer, from what was left to what is left
pub record Reads (before after : Option (List ℕ)) (buffer : List ℕ) (n : ℕ) : Type 0 where
  pub fits : n ≤ length buffer
  pub told : IfSome before (λ bytes. Takes bytes after buffer n)

-- a write of the first n bytes of a piece: at least one, where there is one
pub record Writes (before after : Option (List ℕ)) (piece : List ℕ) (n : ℕ) : Type 0 where
  pub fits : n ≤ length piece
  pub some : 0 < length piece → 0 < n
  pub told : IfSome before (λ bytes. after ≡ Some (bytes ++ take n piece))
