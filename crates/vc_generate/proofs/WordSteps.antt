-- Steps of the words to come.
use Rattle.vc_base.proofs.Common.{◌≡◌, ℕ, zero, suc, ◌-◌, ◌<◌, List, [], ◌∷◌, length, take, refl, ap, ◌∙◌, arith}
use Rattle.rand_core.specs.Steps.{first_words}
use Rattle.rand_pcg.specs.Lcg.{Lcg}
use Rattle.rand_pcg.specs.Pcg.{pcg32}
use Rattle.vc_generate.specs.Words.{words_ahead}

ahead : {S : Type 0} → (S → ℕ × S) → ℕ → ℕ → S → List ℕ
unfolding first_words
ahead step left word source = take left (word ∷ first_words step left source)

ahead_start : {S : Type 0} (step : S → ℕ × S) (n : ℕ) (s : S) → ahead step n (step s).0 (step s).1 ≡ first_words step n s
unfolding ahead first_words
ahead_start step zero s = refl
ahead_start step (suc n) s = ap (λ (rest : List ℕ). (step s).0 ∷ rest) (ahead_start step n (step s).1)

ahead_step : {S : Type 0} (step : S → ℕ × S) (n word : ℕ) (s : S) → ahead step (suc n) word s ≡ word ∷ ahead step n (step s).0 (step s).1
unfolding ahead first_words
ahead_step step n word s = refl

-- none are left
pub words_ahead-none : (left word : ℕ) (source : Lcg) → left ≡ 0 → words_ahead left word source ≡ []
unfolding words_ahead
words_ahead-none left word source none = rw none refl

-- the drawn word comes first, and the source gives the next
pub words_ahead-step : (left word : ℕ) (source : Lcg) → 0 < left →
    words_ahead left word source ≡ word ∷ words_ahead (left - 1) (pcg32 source).0 (pcg32 source).1
unfolding words_ahead ahead
words_ahead-step zero word source some = absurd (omega arith)
words_ahead-step (suc n) word source some =
    let less : suc n - 1 ≡ n = omega arith in
    ahead_step pcg32 n word source ∙ ap (λ (k : ℕ). word ∷ words_ahead k (pcg32 source).0 (pcg32 source).1) (let e : n ≡ suc n - 1 = omega arith in e)

-- a source whose first word was drawn gives the same words
pub words_ahead-start : (n : ℕ) (source : Lcg) → words_ahead n (pcg32 source).0 (pcg32 source).1 ≡ first_words pcg32 n source
unfolding words_ahead ahead
words_ahead-start n source = ahead_start pcg32 n source

-- as many words as are asked for
pub length-words : {S : Type 0} (step : S → ℕ × S) (n : ℕ) (s : S) → length (first_words step n s) ≡ n
unfolding first_words
length-words step zero s = refl
length-words step (suc n) s = ap suc (length-words step n (step s).1)
