-- A name's bytes in a buffer of 32, followed by zeros.
use Rattle.std.specs.Prelude.{◌≡◌, ℕ, ◌-◌, ◌≤◌, List, ◌++◌, length, take, replicate}

-- the bytes, and zeros up to 32
abbrev pub padded_name : List ℕ → List ℕ
padded_name bytes = bytes ++ replicate (32 - length bytes) 0

-- the first len of the buffer are a name, and the rest are zeros
pub record IsPadded (buf : List ℕ) (len : ℕ) : Type 0 where
  pub least : 1 ≤ len
  pub most : len ≤ 32
  pub full : length buf ≡ 32
  pub zeros : padded_name (take len buf) ≡ buf
