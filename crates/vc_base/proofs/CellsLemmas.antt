-- What words, and the blocks of cells, keep of one another.
use Rattle.vc_base.proofs.Common.{◌≡◌, ℕ, ◌+◌, ◌*◌, ◌^◌, ◌<◌, ◌≤◌, cond, ◌≢◌, List, [], ◌++◌, length, take, drop, is_some, IsSome, Some, unwrap_or, sym, refl, ap, ◌∙◌, subst, inl, inr, append_assoc, arith, length-append, length-take, length-take-le, take-take, w64, eq-eqb, ne_eqb, eqb_tells, cases_lt, drop-take, take-append-le, from_le_bytes, to_le_bytes, Blocks, HasBytes, WordWritten, WordsWritten, body_of, bytes_at, with_number, with_word, word, with_bytes}
use Rattle.std.proofs.lemmas.Slice.{drop-append-drop}
use Rattle.std.proofs.Math.Seq.{drop-append_seam, take-append_seam}
use Rattle.std.proofs.lemmas.Nat.{from_le_bytes-to_le_bytes_8}
use Rattle.vc_base.proofs.Overwrites.{length-with_bytes}
use Rattle.vc_base.specs.Cells.{put}

drop_front : (n : ℕ) (xs ys : List ℕ) → length xs ≡ n → drop n (xs ++ ys) ≡ ys
drop_front n xs ys e = rw (← e) (drop-append_seam xs ys)

-- bytes written over others are read back
pub window_same : (off : ℕ) (src bytes : List ℕ) → off ≤ length bytes → take (length src) (drop off (with_bytes off src bytes)) ≡ src
window_same off src bytes h =
    let behind = drop (off + length src) bytes in
    ap (λ z. take (length src) (drop off z)) (append_assoc (take off bytes) src behind)
    ∙ ap (take (length src)) (drop_front off (take off bytes) (src ++ behind) (length-take-le off bytes h))
    ∙ take-append_seam src behind

-- what stands before them stays
pub window_before : (off n at : ℕ) (src bytes : List ℕ) → at + n ≤ off → off ≤ length bytes → take n (drop at (with_bytes off src bytes)) ≡ take n (drop at bytes)
window_before off n at src bytes h in' =
    let behind = drop (off + length src) bytes in
    let long : at + n ≤ length (take off bytes) = rw (length-take-le off bytes in') h in
    let e : take (at + n) (with_bytes off src bytes) ≡ take (at + n) bytes =
    ap (take (at + n)) (append_assoc (take off bytes) src behind)
    ∙ take-append-le (at + n) (take off bytes) (src ++ behind) long ∙ take-take (at + n) off bytes h in
    sym (drop-take at n (with_bytes off src bytes)) ∙ ap (drop at) e ∙ drop-take at n bytes

-- and what stands behind them
pub drop_behind : (off at : ℕ) (src bytes : List ℕ) → off + length src ≤ at → off ≤ length bytes → drop at (with_bytes off src bytes) ≡ drop at bytes
drop_behind off at src bytes h in' =
    drop-append-drop (off + length src) bytes (take off bytes ++ src) at h (simp (length-append, length-take) (omega arith))

length_of_word : (value : ℕ) → length (to_le_bytes w64 value) ≡ 8
length_of_word value = refl

-- a word that was written is read back
pub word-with_word_same : (k value : ℕ) (bytes : List ℕ) → value < 2 ^ 64 → 8 * k + 8 ≤ length bytes → word k (with_word k value bytes) ≡ value
unfolding word with_word
word-with_word_same k value bytes fits h =
    ap (from_le_bytes w64) (window_same (8 * k) (to_le_bytes w64 value) bytes (omega arith)) ∙ from_le_bytes-to_le_bytes_8 value fits

-- and no other word changes
pub word-with_word_other : (j k value : ℕ) (bytes : List ℕ) → j ≢ k → 8 * k + 8 ≤ length bytes → word j (with_word k value bytes) ≡ word j bytes
unfolding word with_word
word-with_word_other j k value bytes ne h =
    let src = to_le_bytes w64 value in
    ap (from_le_bytes w64) (elim (cases_lt j k) as (λ _. take 8 (drop (8 * j) (with_bytes (8 * k) src bytes)) ≡ take 8 (drop (8 * j) bytes)) [
      | inl below ↦ window_before (8 * k) 8 (8 * j) src bytes (omega arith) (omega arith)
      | inr above ↦ ap (take 8) (drop_behind (8 * k) (8 * j) src bytes (omega (arith, ne)) (omega arith))
    ])

pub length-with_word : (k value : ℕ) (bytes : List ℕ) → 8 * k + 8 ≤ length bytes → length (with_word k value bytes) ≡ length bytes
unfolding with_word
length-with_word k value bytes h = length-with_bytes (8 * k) (to_le_bytes w64 value) bytes h

-- nor what stands behind the four words
pub body-with_word : (k value : ℕ) (bytes : List ℕ) → k < 4 → 8 * k + 8 ≤ length bytes → drop 32 (with_word k value bytes) ≡ drop 32 bytes
unfolding with_word
body-with_word k value bytes few h = drop_behind (8 * k) 32 (to_le_bytes w64 value) bytes (omega arith) (omega arith)

-- the block that was put, and every other
pub put_same : (at : ℕ) (bytes : List ℕ) (blocks : Blocks) → put at bytes blocks at ≡ Some bytes
put_same at bytes blocks = ap (λ t. cond t (Some bytes) (blocks at)) (eq-eqb at at refl)

pub put_other : (a at : ℕ) (bytes : List ℕ) (blocks : Blocks) → a ≢ at → put at bytes blocks a ≡ blocks a
put_other a at bytes blocks ne = ap (λ t. cond t (Some bytes) (blocks a)) (ne_eqb a at ne)

at_same : (at : ℕ) (bytes : List ℕ) (blocks : Blocks) → bytes_at (put at bytes blocks) at ≡ bytes
at_same at bytes blocks = ap (λ o. unwrap_or o []) (put_same at bytes blocks)

at_other : (a at : ℕ) (bytes : List ℕ) (blocks : Blocks) → a ≢ at → bytes_at (put at bytes blocks) a ≡ bytes_at blocks a
at_other a at bytes blocks ne = ap (λ o. unwrap_or o []) (put_other a at bytes blocks ne)

-- what holds at the block that was put and at every other holds at each
pub each : (P : ℕ → Type 0) (at : ℕ) → P at → ((a : ℕ) → a ≢ at → P a) → (a : ℕ) → P a
each P at here there a = elim (eqb_tells a at) as (λ _. P a) [
  | inl same ↦ subst P (sym same.1) here
  | inr apart ↦ there a apart.1
]

-- bytes of one length and with one body, put for a block, are words written
pub WordsWritten-put : (old : Blocks) (at : ℕ) (bytes : List ℕ) → IsSome (old at) → length bytes ≡ length (bytes_at old at) → body_of bytes ≡ body_of (bytes_at old at) → WordsWritten old (put at bytes old) at
WordsWritten-put old at bytes some long body = record {
  there = each (λ a. is_some (put at bytes old a) ≡ is_some (old a)) at (ap is_some (put_same at bytes old) ∙ sym some) (λ a ne. ap is_some (put_other a at bytes old ne));
  sizes = each (λ a. length (bytes_at (put at bytes old) a) ≡ length (bytes_at old a)) at (ap length (at_same at bytes old) ∙ long) (λ a ne. ap length (at_other a at bytes old ne));
  bodies = each (λ a. body_of (bytes_at (put at bytes old) a) ≡ body_of (bytes_at old a)) at (ap body_of (at_same at bytes old) ∙ body) (λ a ne. ap body_of (at_other a at bytes old ne));
  others = λ a ne. put_other a at bytes old ne;
}

-- a store writes one word
pub WordWritten-store : (old new : Blocks) (at k value : ℕ) → k < 4 → value < 2 ^ 64 → HasBytes old at (8 * k + 8) → new ≡ with_number at k value old → WordWritten old new at k value
WordWritten-store old new at k value few fits has e =
    let bytes = bytes_at old at in
    let after = put at (with_word k value bytes) old in
    let done : WordWritten old after at k value = record {
      written = WordsWritten-put old at (with_word k value bytes) has.there (length-with_word k value bytes has.enough) (body-with_word k value bytes few has.enough);
      read = λ _. ap (word k) (at_same at (with_word k value bytes) old) ∙ word-with_word_same k value bytes fits has.enough;
      other_words = λ j ne. ap (word j) (at_same at (with_word k value bytes) old) ∙ word-with_word_other j k value bytes ne has.enough;
    } in
    subst (λ z. WordWritten old z at k value) (sym e) done
