-- Words that were counted in an empty set: each of them stands there once, with how often it was counted.
use Rattle.vc_base.proofs.Common.{◌≡◌, ℕ, ◌+◌, ◌<◌, ◌≤◌, ◌^◌, ◌==◌, Bool, true, false, cond, not, suc, ◌||◌, List, [], ◌∷◌, ◌++◌, Some, None, Ok, length, map, take, flat_map, decimal, nat_lt, if◌then◌else◌, bytes_eq, is_eq, Ordering, Less, Equal, Greater, list_any, sym, refl, ap, ap₂, ◌∙◌, subst, none-some, same_Some, lt-ltb, le-ltb, leb-false, ne_eqb, arith, bytes_eq-Decides, length-filter, count_by-le-length, sum_by-cons}
use Rattle.std.specs.Int.{w64, from_be_bytes}
use Rattle.std.specs.List.{slice_split, onto_first, prefix_len}
use Rattle.std.proofs.lemmas.Cmp.{nat_list_cmp_total, tied_itself}
use Rattle.std.proofs.lemmas.List.Splits.{length-slice_split}
use Rattle.std.proofs.lemmas.Map.Text.{is_eq-slice_cmp}
use Rattle.std.proofs.lemmas.Nat.{from_be_bytes-to_be_bytes_8}
use Rattle.vc_model.specs.Count.{last_count, next_count}
use Rattle.vc_dtdisc.specs.ShapeLaws.{equal_lists}
use Rattle.vc_dtdisc.specs.Shapes.{before_zero, by_bytes}
use Rattle.vc_store.specs.Answers.{is_there}
use Rattle.vc_store.specs.Reading.{Contents, found}
use Rattle.vc_store.specs.declared.put.Put.{Put}
use Rattle.words.specs.Counting.{Counts, count_each, count_found, count_line, count_one, counted_word, stored_count, tally_rules, word_of}
use Rattle.words.specs.Report.{AreAbove, AreInWordOrder, Reports, is_among, times_among}
use Rattle.words.specs.Text.{as_words, is_space, words_in}
use Rattle.words.proofs.Counted.{counts-there, tally-length}
use Rattle.words.proofs.Rows.{Above, AreRows, key_of, none-above, placed, rows-placed, set-placed, told, told-other, told-own}

-- a word of a text has no zero byte, so it is the key of its object
abbrev AreClean : List (List ℕ) → Type 0
AreClean [] = Unit {0}
AreClean (w ∷ ws) = (before_zero w ≡ w) × AreClean ws

take-one : (x : ℕ) (w : List ℕ) (n : ℕ) → take (1 + n) (x ∷ w) ≡ x ∷ take n w
take-one x w n = let e : 1 + n ≡ suc n = omega arith in ap (λ k. take k (x ∷ w)) e

clean-cons : (x : ℕ) (w : List ℕ) → 32 < x → before_zero w ≡ w → before_zero (x ∷ w) ≡ x ∷ w
clean-cons x w least e =
    ap (λ b. take (cond (not b) (1 + prefix_len (λ byte. not (byte == 0)) w) 0) (x ∷ w)) (ne_eqb x 0 (λ z. omega (arith, least, z)))
    ∙ (take-one x w (prefix_len (λ byte. not (byte == 0)) w) ∙ ap (λ ys. x ∷ ys) e)

onto-clean : (x : ℕ) (ws : List (List ℕ)) → 32 < x → AreClean ws → AreClean (onto_first x ws)
onto-clean x [] least c = (clean-cons x [] least refl, tt)
onto-clean x (w ∷ ws) least c = (clean-cons x w least c.0, c.1)

split-clean : (text : List ℕ) → AreClean (slice_split is_space text)
split-clean [] = (refl, tt)
split-clean (x ∷ xs) = by (split-clean xs) (is_space x) refl
  where
    by : AreClean (slice_split is_space xs) → (b : Bool) → is_space x ≡ b → AreClean (cond b ([] ∷ slice_split is_space xs) (onto_first x (slice_split is_space xs)))
    by rest true e = (refl, rest)
    by rest false e = onto-clean x (slice_split is_space xs) (leb-false x 32 e) rest

words-clean : (ws : List (List ℕ)) → AreClean ws → AreClean (as_words ws)
words-clean [] c = tt
words-clean (w ∷ ws) c = by (words-clean ws c.1) (nat_lt 0 (length w))
  where
    by : AreClean (as_words ws) → (b : Bool) → AreClean (cond b (w ∷ as_words ws) (as_words ws))
    by rest true = (c.0, rest)
    by rest false = rest

-- what is kept of a word
tally-count : (n : ℕ) (w : List ℕ) → n < 2 ^ 64 → stored_count (counted_word n w) ≡ n
tally-count n w fits =
    ap (λ b. cond b 0 (from_be_bytes w64 (take 8 (counted_word n w)))) (le-ltb (length (counted_word n w)) 8 (omega (arith, tally-length n w)))
    ∙ from_be_bytes-to_be_bytes_8 n fits

next-one : (n : ℕ) → n < last_count → next_count n ≡ n + 1
next-one n lt = ap (λ b. cond b n (n + 1)) (ne_eqb n last_count (λ e. omega (arith, lt, e)))

times-cons : (x w : List ℕ) (ws : List (List ℕ)) → times_among x (w ∷ ws) ≡ cond (bytes_eq w x) 1 0 + times_among x ws
times-cons x w ws = sum_by-cons (λ other. cond (bytes_eq other x) 1 0) w ws

one-most : (b : Bool) → cond b 1 0 ≤ 1
one-most true = omega arith
one-most false = omega arith

module _ (w : List ℕ) (os : List (List ℕ)) (rows : AreRows os) (clean : before_zero w ≡ w) (room : told w os < last_count) where
  number : stored_count (counted_word (next_count (told w os)) w) ≡ told w os + 1
  number =
      tally-count (next_count (told w os)) w (let e = next-one (told w os) room in omega (arith, e, room)) ∙ next-one (told w os) room

  one-placed : count_one w os ≡ placed (counted_word (next_count (told w os)) w) w os
  one-placed = set-placed (counted_word (next_count (told w os)) w) w os clean rows

  one-rows : AreRows (count_one w os)
  one-rows =
      subst AreRows (sym one-placed)
      (rows-placed (counted_word (next_count (told w os)) w) w os (sym clean, let e = number in omega (arith, e)) clean rows)

  one-told : (x : List ℕ) → told x (count_one w os) ≡ cond (bytes_eq w x) 1 0 + told x os
  one-told x = ap (told x) one-placed ∙ by (bytes_eq w x) refl
    where
      by : (b : Bool) → bytes_eq w x ≡ b → told x (placed (counted_word (next_count (told w os)) w) w os) ≡ cond b 1 0 + told x os
      by true e =
          subst (λ y. told y (placed (counted_word (next_count (told w os)) w) w os) ≡ 1 + told y os) ((bytes_eq-Decides w x).0 e)
          (let own = told-own (counted_word (next_count (told w os)) w) w os clean in let n = number in omega (arith, own, n))
      by false e =
          let other = told-other (counted_word (next_count (told w os)) w) w x os clean e in omega (arith, other)

pub counted-each : (ws os last : List (List ℕ)) → AreRows os → AreClean ws → ((x : List ℕ) → told x os + length ws ≤ last_count) → count_each ws os ≡ Some last
    → AreRows last × ((x : List ℕ) → told x last ≡ times_among x ws + told x os)
counted-each [] os last rows clean room e =
    subst (λ l. AreRows l × ((x : List ℕ) → told x l ≡ times_among x [] + told x os)) (same_Some os last e) (rows, λ x. omega arith)
counted-each (w ∷ ws) os last rows clean room e =
    by (λ more. counted-each ws (count_one w os) last (one-rows w os rows clean.0 here) clean.1 left more) (nat_lt 1016 (length w)) e
  where
    here : told w os < last_count
    here = let most = room w in omega (arith, most)

    left : (x : List ℕ) → told x (count_one w os) + length ws ≤ last_count
    left x =
        let one = one-told w os rows clean.0 here x in
        let most = room x in
        let least = one-most (bytes_eq w x) in
        omega (arith, one, most, least)

    by : (count_each ws (count_one w os) ≡ Some last → AreRows last × ((x : List ℕ) → told x last ≡ times_among x ws + told x (count_one w os))) → (b : Bool)
        → (if b then None else count_each ws (count_one w os)) ≡ Some last → AreRows last × ((x : List ℕ) → told x last ≡ times_among x (w ∷ ws) + told x os)
    by more true e = absurd (none-some last e)
    by more false e =
        let rest = more e in (
          rest.0,
          λ x.
              let behind = rest.1 x in
              let one = one-told w os rows clean.0 here x in
              let all = times-cons x w ws in
              omega (arith, behind, one, all),
        )

-- the words of a set
above-words : (k w : List ℕ) (os : List (List ℕ)) → w ≡ k → AreRows os → Above k os → AreAbove w (map word_of os)
above-words k w [] e rows a = tt
above-words k w (o ∷ os) e rows a =
    (ap (by_bytes w) rows.0.0 ∙ (ap (λ z. by_bytes z (key_of o)) e ∙ a.0), above-words k w os e rows.2 a.1)

ascending-words : (os : List (List ℕ)) → AreRows os → AreInWordOrder (map word_of os)
ascending-words [] rows = tt
ascending-words (o ∷ os) rows =
    (above-words (key_of o) (word_of o) os rows.0.0 rows.2 rows.1, ascending-words os rows.2)

among-rows : (x : List ℕ) (os : List (List ℕ)) → AreRows os → is_among x (map word_of os) ≡ nat_lt 0 (told x os)
among-rows x [] rows = refl
among-rows x (o ∷ os) rows =
    ap (λ b. b || is_among x (map word_of os)) (ap (λ k. bytes_eq k x) rows.0.0 ∙ sym (is_eq-slice_cmp (key_of o) x))
    ∙ by (among-rows x os rows.2) (is_eq (by_bytes (key_of o) x))
  where
    by : is_among x (map word_of os) ≡ nat_lt 0 (told x os) → (b : Bool) → (b || is_among x (map word_of os)) ≡ nat_lt 0 (count_found (cond b (Some o) (found tally_rules x os)))
    by rest true = sym (lt-ltb 0 (stored_count o) rows.0.1)
    by rest false = rest

among-times : (x : List ℕ) (ws : List (List ℕ)) → is_among x ws ≡ nat_lt 0 (times_among x ws)
among-times x [] = refl
among-times x (w ∷ ws) = by (among-times x ws) (bytes_eq w x) ∙ ap (nat_lt 0) (sym (times-cons x w ws))
  where
    by : is_among x ws ≡ nat_lt 0 (times_among x ws) → (b : Bool) → (b || is_among x ws) ≡ nat_lt 0 (cond b 1 0 + times_among x ws)
    by rest true = sym (lt-ltb 0 (1 + times_among x ws) (omega arith))
    by rest false = rest ∙ ap (nat_lt 0) (let n : times_among x ws ≡ 0 + times_among x ws = omega arith in n)

-- its lines
later : (x o other : List ℕ) (os : List (List ℕ)) → Above (key_of o) os → found tally_rules x os ≡ Some other → found tally_rules x (o ∷ os) ≡ Some other
later x o other os a e = by (by_bytes (key_of o) x) refl
  where
    by : (c : Ordering) → by_bytes (key_of o) x ≡ c → cond (is_eq c) (Some o) (found tally_rules x os) ≡ Some other
    by Less is = e
    by Equal is =
        absurd (none-some other (sym (none-above x os (subst (λ k. Above k os) (equal_lists (key_of o) x is) a)) ∙ e))
    by Greater is = e

lines-of : (times_of : List ℕ → ℕ) (os : List (List ℕ)) → AreRows os → ((x o : List ℕ) → found tally_rules x os ≡ Some o → stored_count o ≡ times_of x)
    → flat_map count_line os ≡ flat_map (λ w. decimal (times_of w) ++ 32 ∷ w ++ 10 ∷ []) (map word_of os)
lines-of times_of [] rows counts = refl
lines-of times_of (o ∷ os) rows counts =
    ap₂ (λ (n : ℕ) (ys : List ℕ). (decimal n ++ 32 ∷ word_of o ++ 10 ∷ []) ++ ys)
    (counts (word_of o) o (ap (λ c. cond (is_eq c) (Some o) (found tally_rules (word_of o) os)) (ap (by_bytes (key_of o)) rows.0.0 ∙ tied_itself nat_list_cmp_total (key_of o))))
    (lines-of times_of os rows.2 (λ x other e. counts x other (later x o other os rows.1 e)))

-- a text has at most one word more than bytes
words-most : (text : List ℕ) → length (words_in text) ≤ length text + 1
words-most text =
    let parts = slice_split is_space text in
    let a = length-filter (λ part. nat_lt 0 (length part)) parts in
    let b = count_by-le-length (λ part. nat_lt 0 (length part)) parts in
    let c = length-slice_split is_space text in
    let d = count_by-le-length is_space text in
    omega (arith, a, b, c, d)

reported : (text : List ℕ) (last : List (List ℕ)) → length text < 2 ^ 63 → count_each (words_in text) [] ≡ Some last → Reports text (flat_map count_line last)
reported text last most is =
    let all =
    counted-each (words_in text) [] last tt (words-clean (slice_split is_space text) (split-clean text)) (λ x. let n = words-most text in omega (arith, n, most)) is in
    let sums : (x : List ℕ) → told x last ≡ times_among x (words_in text) = λ x. let n = all.1 x in omega (arith, n) in
    record {
      distinct = map word_of last;
      ascending = ascending-words last all.0;
      same = λ x. among-rows x last all.0 ∙ (ap (nat_lt 0) (sums x) ∙ sym (among-times x (words_in text)));
      told =
          lines-of (λ w. times_among w (words_in text)) last all.0 (λ x o f. sym (ap count_found f) ∙ sums x);
    }

pub reported-in : (answer : Put) (text none lines : List ℕ) (old new : Contents) → length text < 2 ^ 63 → old.objects ≡ [] → is_there answer ≡ true → Counts (Ok answer) (words_in text) old new → none ≡ []
    → lines ≡ none ++ flat_map count_line new.objects → Reports text lines
reported-in answer text none lines old new most empty is counts begun put =
    subst (Reports text) (sym (put ∙ ap (λ xs. xs ++ flat_map count_line new.objects) begun))
    (reported text new.objects most (ap (count_each (words_in text)) (sym empty) ∙ counts-there answer (words_in text) old new is counts))

-- where words are refused, one is too long
pub long-each : (ws os : List (List ℕ)) → count_each ws os ≡ None → list_any (λ word. nat_lt 1016 (length word)) ws ≡ true
long-each [] os e = absurd (none-some os (sym e))
long-each (w ∷ ws) os e = by (long-each ws (count_one w os)) (nat_lt 1016 (length w)) e
  where
    by : (count_each ws (count_one w os) ≡ None → list_any (λ word. nat_lt 1016 (length word)) ws ≡ true) → (b : Bool) → (if b then None else count_each ws (count_one w os)) ≡ None → (b || list_any (λ word. nat_lt 1016 (length word)) ws) ≡ true
    by more true e = refl
    by more false e = more e
