-- The report on a text.
use Rattle.std.specs.Prelude.{◌≡◌, ℕ, List, [], ◌∷◌, ◌++◌, Bool, flat_map, decimal, nat_lt, count_by, bytes_eq, length}
use Rattle.std.specs.List.{list_any}
use Rattle.std.specs.declared.cmp.Ordering.TheVariants.{Less}
use Rattle.vc_dtdisc.specs.Shapes.{by_bytes}
use Rattle.words.specs.Text.{words_in}

-- how often a word stands among words, and whether it does
abbrev pub times_among : List ℕ → List (List ℕ) → ℕ
times_among word words = count_by (λ other. bytes_eq other word) words

abbrev pub is_among : List ℕ → List (List ℕ) → Bool
is_among word words = list_any (λ other. bytes_eq other word) words

-- words in ascending order of bytes: each stands before all that are behind it, so none stands twice
abbrev pub AreAbove : List ℕ → List (List ℕ) → Type 0
AreAbove word [] = Unit {0}
AreAbove word (next ∷ words) = (by_bytes word next ≡ Less) × AreAbove word words

abbrev pub AreInWordOrder : List (List ℕ) → Type 0
AreInWordOrder [] = Unit {0}
AreInWordOrder (word ∷ words) = AreAbove word words × AreInWordOrder words

-- each distinct word of a text once, in ascending order of bytes, behind the number of times that the text has it
pub record Reports (text lines : List ℕ) : Type 0 where
  pub distinct : List (List ℕ)
  pub ascending : AreInWordOrder distinct
  pub same : (word : List ℕ) → is_among word distinct ≡ is_among word (words_in text)
  pub told : lines
      ≡ flat_map (λ word. decimal (times_among word (words_in text)) ++ 32 ∷ word ++ 10 ∷ []) distinct

-- one of its words has more than 1,016 bytes
abbrev pub has_long : List ℕ → Bool
has_long text = list_any (λ word. nat_lt 1016 (length word)) (words_in text)
