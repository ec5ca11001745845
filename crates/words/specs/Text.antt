-- The words of a text.
use Rattle.std.specs.Prelude.{ℕ, List, Bool, filter, length, nat_le, nat_lt}
use Rattle.std.specs.List.{slice_split}

-- a byte up to 32 stands between words
abbrev pub is_space : ℕ → Bool
is_space byte = nat_le byte 32

-- parts that have a byte are words
abbrev pub as_words : List (List ℕ) → List (List ℕ)
as_words parts = filter (λ part. nat_lt 0 (length part)) parts

-- the words of a text: the longest runs of bytes above 32
abbrev pub words_in : List ℕ → List (List ℕ)
words_in text = as_words (slice_split is_space text)
