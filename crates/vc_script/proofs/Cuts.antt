-- A final CR, and the steps of the cutter of words.
use Rattle.vc_base.proofs.Common.{◌≡◌, ℕ, ◌+◌, ◌<◌, ◌≤◌, true, false, cond, eqb, List, [], ◌∷◌, ◌++◌, length, get_or, take, drop, slice_range, sym, refl, ap, ◌∙◌, append_assoc, append-nil, arith, at_drop_more, map_push, take_all, take-append-le}
use Rattle.std.proofs.lemmas.List.{at_drop_all}
use Rattle.std.proofs.lemmas.List.Edits.{between_none, between_more, length-between}
use Rattle.vc_script.specs.Lines.{piece, without_cr}
use Rattle.vc_script.specs.Words.{is_blank, words_after, words}

-- a piece with a byte is one
pub piece-longer : (xs : List ℕ) → 0 < length xs → piece xs ≡ xs ∷ []
piece-longer [] some = absurd (omega arith)
piece-longer (x ∷ xs) some = refl

-- a last byte that is a CR is dropped
pub without_cr-cr : (xs : List ℕ) (b : ℕ) → eqb b 13 ≡ true → without_cr (xs ++ b ∷ []) ≡ xs
without_cr-cr [] b cr = ap (λ test. cond test [] (b ∷ [])) cr
without_cr-cr (x ∷ []) b cr = ap (λ bs. x ∷ bs) (without_cr-cr [] b cr)
without_cr-cr (x ∷ y ∷ ys) b cr = ap (λ bs. x ∷ bs) (without_cr-cr (y ∷ ys) b cr)

-- any other stays
pub without_cr-other : (xs : List ℕ) (b : ℕ) → eqb b 13 ≡ false → without_cr (xs ++ b ∷ []) ≡ xs ++ b ∷ []
without_cr-other [] b other = ap (λ test. cond test [] (b ∷ [])) other
without_cr-other (x ∷ []) b other = ap (λ bs. x ∷ bs) (without_cr-other [] b other)
without_cr-other (x ∷ y ∷ ys) b other = ap (λ bs. x ∷ bs) (without_cr-other (y ∷ ys) b other)

-- a word ends at a blank
pub words_after-blank : (begun xs : List ℕ) (i : ℕ) → i < length xs → is_blank (get_or xs i 0) ≡ true → words_after begun (drop i xs) ≡ piece begun ++ words (drop (i + 1) xs)
words_after-blank begun xs i within blank =
    at_drop_more (words_after begun) xs i 0 within
    ∙ ap (λ test. cond test (piece begun ++ words (drop (i + 1) xs)) (words_after (begun ++ get_or xs i 0 ∷ []) (drop (i + 1) xs))) blank

-- and goes on at any other byte
pub words_after-more : (begun xs : List ℕ) (i : ℕ) → i < length xs → is_blank (get_or xs i 0) ≡ false → words_after begun (drop i xs) ≡ words_after (begun ++ get_or xs i 0 ∷ []) (drop (i + 1) xs)
words_after-more begun xs i within other =
    at_drop_more (words_after begun) xs i 0 within
    ∙ ap (λ test. cond test (piece begun ++ words (drop (i + 1) xs)) (words_after (begun ++ get_or xs i 0 ∷ []) (drop (i + 1) xs))) other

-- the words of a line, of which those before i are done, with one begun at `start`
abbrev pub words_from : List (List ℕ) → List ℕ → ℕ → ℕ → List (List ℕ)
words_from done xs start i = done ++ words_after (slice_range xs start i) (drop i xs)

-- a blank ends a word that has begun
pub words_from-ends : (done : List (List ℕ)) (xs : List ℕ) (start i : ℕ) → start < i → i < length xs → is_blank (get_or xs i 0) ≡ true → words_from done xs start i ≡ words_from (done ++ slice_range xs start i ∷ []) xs (i + 1) (i + 1)
words_from-ends done xs start i begun within blank =
    ap (λ ws. done ++ ws) (words_after-blank (slice_range xs start i) xs i within blank)
    ∙ ap (λ ws. done ++ (ws ++ words (drop (i + 1) xs))) (piece-longer (slice_range xs start i) (omega (arith, length-between xs start i)))
    ∙ sym (append_assoc done (slice_range xs start i ∷ []) (words (drop (i + 1) xs)))
    ∙ ap (λ bs. (done ++ slice_range xs start i ∷ []) ++ words_after bs (drop (i + 1) xs)) (sym (between_none xs (i + 1)))

-- where none has, it is passed over
pub words_from-skips : (done : List (List ℕ)) (xs : List ℕ) (start i : ℕ) → start ≡ i → i < length xs → is_blank (get_or xs i 0) ≡ true → words_from done xs start i ≡ words_from done xs (i + 1) (i + 1)
words_from-skips done xs start i here within blank =
    ap (λ ws. done ++ ws) (words_after-blank (slice_range xs start i) xs i within blank)
    ∙ ap (λ k. done ++ (piece (slice_range xs k i) ++ words (drop (i + 1) xs))) here
    ∙ ap (λ bs. done ++ (piece bs ++ words (drop (i + 1) xs))) (between_none xs i)
    ∙ ap (λ bs. done ++ words_after bs (drop (i + 1) xs)) (sym (between_none xs (i + 1)))

-- any other byte stands in the word
pub words_from-more : (done : List (List ℕ)) (xs : List ℕ) (start i : ℕ) → start ≤ i → i < length xs → is_blank (get_or xs i 0) ≡ false → words_from done xs start i ≡ words_from done xs start (i + 1)
words_from-more done xs start i begun within other =
    ap (λ ws. done ++ ws) (words_after-more (slice_range xs start i) xs i within other)
    ∙ ap (λ bs. done ++ words_after bs (drop (i + 1) xs)) (sym (between_more xs start i 0 begun within))

-- at the line's end the word that has begun is the last
pub words_from-last : (done : List (List ℕ)) (xs : List ℕ) (start i : ℕ) → start < i → length xs ≡ i → words_from done xs start i ≡ done ++ slice_range xs start i ∷ []
words_from-last done xs start i begun end =
    ap (λ ws. done ++ ws) (at_drop_all (words_after (slice_range xs start i)) xs i (omega arith))
    ∙ ap (λ ws. done ++ ws) (piece-longer (slice_range xs start i) (omega (arith, length-between xs start i)))

-- and there is none where none has
pub words_from-none : (done : List (List ℕ)) (xs : List ℕ) (start i : ℕ) → start ≡ i → length xs ≡ i → words_from done xs start i ≡ done
words_from-none done xs start i here end =
    ap (λ ws. done ++ ws) (at_drop_all (words_after (slice_range xs start i)) xs i (omega arith))
    ∙ ap (λ k. done ++ piece (slice_range xs k i)) here
    ∙ ap (λ bs. done ++ piece bs) (between_none xs i)
    ∙ append-nil done

-- so many words that are done are the line's first
pub words_from-full : (done : List (List ℕ)) (xs : List ℕ) (start i n : ℕ) → length done ≡ n → take n (words_from done xs start i) ≡ done
words_from-full done xs start i n all =
    take-append-le n done (words_after (slice_range xs start i) (drop i xs)) (omega arith) ∙ take_all n done (omega arith)

pub ruleset cr_steps = (without_cr-cr, without_cr-other)

pub ruleset word_steps = (words_from-ends, words_from-skips, words_from-more, words_from-last, words_from-none, map_push)
