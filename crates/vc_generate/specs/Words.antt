-- The words of a seed: those of PCG32 (XSH RR 64/32) at stream 54.
use Rattle.std.specs.Prelude.{ℕ, List, ◌∷◌, take}
use Rattle.rand_core.specs.Steps.{first_words}
use Rattle.rand_pcg.specs.Lcg.{Lcg, increment_of, started}
use Rattle.rand_pcg.specs.Pcg.{multiplier_64, pcg32}

-- the generator that a seed starts
unfoldable pub source_of : ℕ → Lcg
source_of seed = started 64 multiplier_64 seed (increment_of 64 54)

-- the first words of a seed
unfoldable pub generated_words : ℕ → ℕ → List ℕ
generated_words seed count = first_words pcg32 count (source_of seed)

-- so many words, of which one was drawn already
unfoldable pub words_ahead : ℕ → ℕ → Lcg → List ℕ
words_ahead left word source = take left (word ∷ first_words pcg32 left source)
