-- What a written word keeps.
use Rattle.vc_base.proofs.Common.{◌≡◌, ℕ, ◌≢◌, [], IsSome, unwrap_or, sym, refl, ap, ◌∙◌, subst, inl, inr, eqb_tells, Blocks, HasBytes, WordWritten, WordsWritten, word, word_at}

-- a block that had so many bytes has them still
pub HasBytes-written : (old new : Blocks) (at a n : ℕ) → WordsWritten old new at → HasBytes old a n → HasBytes new a n
HasBytes-written old new at a n w has = record {
  there = w.there a ∙ has.there;
  enough = rw (w.sizes a) has.enough;
}

-- a word of another block stays
pub word-other_block : (old new : Blocks) (at a k : ℕ) → WordsWritten old new at → a ≢ at → word_at new a k ≡ word_at old a k
word-other_block old new at a k w ne = ap (λ o. word k (unwrap_or o [])) (w.others a ne)

-- two after one another at one block
pub WordsWritten-trans : (a b c : Blocks) (at : ℕ) → WordsWritten a b at → WordsWritten b c at → WordsWritten a c at
WordsWritten-trans a b c at v w = record {
  there = λ x. w.there x ∙ v.there x;
  sizes = λ x. w.sizes x ∙ v.sizes x;
  bodies = λ x. w.bodies x ∙ v.bodies x;
  others = λ x ne. w.others x ne ∙ v.others x ne;
}

-- nothing is written where no block is
pub WordWritten-none : (blocks : Blocks) (at k value : ℕ) → (IsSome (blocks at) → ⊥) → WordWritten blocks blocks at k value
WordWritten-none blocks at k value none = record {
  written = record { there = λ x. refl; sizes = λ x. refl; bodies = λ x. refl; others = λ x ne. refl };
  read = λ some. absurd (none some);
  other_words = λ j ne. refl;
}

-- a word but the one that was written stays, in each block
pub word-kept : (old new : Blocks) (at k value : ℕ) → WordWritten old new at k value → (a j : ℕ) → j ≢ k → word_at new a j ≡ word_at old a j
word-kept old new at k value w a j ne = elim (eqb_tells a at) as (λ _. word_at new a j ≡ word_at old a j) [
  | inl same ↦ subst (λ z. word_at new z j ≡ word_at old z j) (sym same.1) (w.other_words j ne)
  | inr apart ↦ word-other_block old new at a j w.written apart.1
]
