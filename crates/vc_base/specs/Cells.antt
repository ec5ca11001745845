-- The unlabelled blocks of a region, by their addresses, and the words in them.
use Rattle.std.specs.Prelude.{◌≡◌, ◌≢◌, ℕ, ◌*◌, ◌<◌, ◌≤◌, ◌^◌, List, [], length, take, drop, Option, Some, IsSome, is_some, unwrap_or, ◌==◌, if◌then◌else◌}
use Rattle.std.specs.Int.{w64, to_le_bytes, from_le_bytes}
use Rattle.vc_model.specs.Bytes.{with_bytes}

-- the bytes of the block at each address where one stands
abbrev pub Blocks : Type 0
Blocks = ℕ → Option (List ℕ)

-- an address is a u32 that isn't 0
pub record IsAddress (at : ℕ) : Type 0 where
  pub some : 1 ≤ at
  pub fits : at < 2 ^ 32

-- the bytes of the block there, or none
abbrev pub bytes_at : Blocks → ℕ → List ℕ
bytes_at blocks at = unwrap_or (blocks at) []

-- a block stands there, and has at least that many bytes
pub record HasBytes (blocks : Blocks) (at count : ℕ) : Type 0 where
  pub there : IsSome (blocks at)
  pub enough : count ≤ length (bytes_at blocks at)

-- a holder has four words and at least one byte behind them
abbrev pub IsHolder : Blocks → ℕ → Type 0
IsHolder blocks at = HasBytes blocks at 33

-- the blocks with these bytes in the one at that address
abbrev pub put : ℕ → List ℕ → Blocks → Blocks
put at bytes blocks = λ a. if a == at then Some bytes else blocks a

-- word k of a block: 8 bytes from 8 * k on, the lowest first
unfoldable pub word : ℕ → List ℕ → ℕ
word k bytes = from_le_bytes w64 (take 8 (drop (8 * k) bytes))

-- the bytes with that number in word k
unfoldable pub with_word : ℕ → ℕ → List ℕ → List ℕ
with_word k value bytes = with_bytes (8 * k) (to_le_bytes w64 value) bytes

-- the blocks with that number in word k of one
abbrev pub with_number : ℕ → ℕ → ℕ → Blocks → Blocks
with_number at k value blocks = put at (with_word k value (bytes_at blocks at)) blocks

-- the bytes behind the four words of a holder
abbrev pub body_of : List ℕ → List ℕ
body_of bytes = drop 32 bytes

-- the blocks with that body in one
abbrev pub with_body : ℕ → List ℕ → Blocks → Blocks
with_body at body blocks = put at (with_bytes 32 body (bytes_at blocks at)) blocks

-- word k of the block at an address
abbrev pub word_at : Blocks → ℕ → ℕ → ℕ
word_at blocks at k = word k (bytes_at blocks at)

-- only the words of one holder were written: the same blocks of the same sizes with the same bodies
pub record WordsWritten (old new : Blocks) (at : ℕ) : Type 0 where
  pub there : (a : ℕ) → is_some (new a) ≡ is_some (old a)
  pub sizes : (a : ℕ) → length (bytes_at new a) ≡ length (bytes_at old a)
  pub bodies : (a : ℕ) → body_of (bytes_at new a) ≡ body_of (bytes_at old a)
  pub others : (a : ℕ) → a ≢ at → new a ≡ old a

-- of these words only word k was written, where there is such a block
pub record WordWritten (old new : Blocks) (at k value : ℕ) : Type 0 where
  pub written : WordsWritten old new at
  pub read : IsSome (old at) → word_at new at k ≡ value
  pub other_words : (j : ℕ) → j ≢ k → word_at new at j ≡ word_at old at j
