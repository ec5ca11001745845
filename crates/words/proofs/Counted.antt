-- Words that are counted one after another.
use Rattle.vc_base.proofs.Common.{◌≡◌, ℕ, ◌+◌, ◌-◌, ◌<◌, ◌≤◌, ◌==◌, suc, Bool, true, false, cond, List, [], ◌∷◌, ◌++◌, Option, Some, None, Result, Ok, Err, is_some, length, take, drop, get_or, nat_le, nat_lt, ◌&&◌, if◌then◌else◌, slice_range, All, sym, refl, ap, ap₂, ◌∙◌, subst, none-some, same_Some, length-append, length-drop, length-take, get_or-drop, arith, lt-ltb, le-ltb, leb-true, leb-false, and_parts, add-one, drop-cons, take_rest, true≢false, is_set}
use Rattle.std.specs.Int.{w64, to_be_bytes}
use Rattle.std.specs.List.{slice_split}
use Rattle.std.proofs.Math.Seq.{take-suc}
use Rattle.std.proofs.lemmas.List.Elements.{All-push}
use Rattle.std.proofs.lemmas.List.Folds.{drop_split}
use Rattle.std.proofs.lemmas.List.Splits.{slice_split_at, slice_split_none}
use Rattle.vc_base.specs.declared.fault.OutOfMemory.{OutOfMemory}
use Rattle.vc_base.specs.declared.dict_method.DictMethod.TheVariants.{DtOset}
use Rattle.vc_model.specs.Count.{next_count}
use Rattle.vc_dtdisc.specs.Rules.{Rules}
use Rattle.vc_store.specs.Answers.{is_there}
use Rattle.vc_store.specs.Reading.{AfterPut, Contents, found, has_same_key, is_object, put_by_method, without_key}
use Rattle.vc_store.specs.declared.put.Put.{Put}
use Rattle.vc_store.specs.declared.put.Put.TheVariants as put
use Rattle.words.specs.Counting.{Counts, count_each, count_found, count_one, counted_word, put_in_set, stored_count, tally_rules}
use Rattle.words.specs.Text.{as_words, is_space, words_in}

-- more words behind some
each-by : (t : Bool) (words more : List (List ℕ)) (o last : List (List ℕ)) → (count_each words o ≡ Some last → count_each (words ++ more) o ≡ count_each more last)
    → (if t then None else count_each words o) ≡ Some last → (if t then None else count_each (words ++ more) o) ≡ count_each more last
each-by true words more o last on e = absurd (none-some last e)
each-by false words more o last on e = on e

each-on : (words more : List (List ℕ)) (objects last : List (List ℕ)) → count_each words objects ≡ Some last → count_each (words ++ more) objects ≡ count_each more last
each-on [] more objects last e = ap (λ o. count_each more o) (same_Some objects last e)
each-on (word ∷ words) more objects last e =
    each-by (nat_lt 1016 (length word)) words more (count_one word objects) last (each-on words more (count_one word objects) last) e

none-by : (t : Bool) (words more : List (List ℕ)) (o : List (List ℕ)) → (count_each words o ≡ None → count_each (words ++ more) o ≡ None)
    → (if t then None else count_each words o) ≡ None → (if t then None else count_each (words ++ more) o) ≡ None
none-by true words more o on e = refl
none-by false words more o on e = on e

each-none : (words more : List (List ℕ)) (objects : List (List ℕ)) → count_each words objects ≡ None → count_each (words ++ more) objects ≡ None
each-none [] more objects e = absurd (none-some objects (sym e))
each-none (word ∷ words) more objects e =
    none-by (nat_lt 1016 (length word)) words more (count_one word objects) (each-none words more (count_one word objects)) e

-- one part and more are as words those of the one and those of the others
cons-by : (t : Bool) (part : List ℕ) (words : List (List ℕ)) → cond t (part ∷ words) words ≡ cond t (part ∷ []) [] ++ words
cons-by true part words = refl
cons-by false part words = refl

as_words-cons : (part : List ℕ) (parts : List (List ℕ)) → as_words (part ∷ parts) ≡ as_words (part ∷ []) ++ as_words parts
as_words-cons part parts = cons-by (nat_lt 0 (length part)) part (as_words parts)

-- what a call that counts says of an object that is there
pub counts-there : (answer : Put) (words : List (List ℕ)) (old new : Contents) → is_there answer ≡ true → Counts (Ok answer) words old new → count_each words old.objects ≡ Some new.objects
counts-there put.New words old new is c = c
counts-there put.Old words old new is c = c
counts-there put.NoSegment words old new is c = absurd (true≢false (sym is))
counts-there put.OutOfMemory words old new is c = absurd (true≢false (sym is))
counts-there put.WrongSize words old new is c = absurd (true≢false (sym is))

-- a part that is counted, in front of others
pub counts-on : (answer : Put) (part : List ℕ) (parts : List (List ℕ)) (old new : Contents) → is_there answer ≡ true → Counts (Ok answer) (as_words (part ∷ [])) old new
    → count_each (as_words (part ∷ parts)) old.objects ≡ count_each (as_words parts) new.objects
counts-on answer part parts old new is c =
    ap (λ ws. count_each ws old.objects) (as_words-cons part parts)
    ∙ each-on (as_words (part ∷ [])) (as_words parts) old.objects new.objects (counts-there answer (as_words (part ∷ [])) old new is c)

-- and one that is refused
pub counts-refused : (answer : Put) (part : List ℕ) (parts : List (List ℕ)) (old new : Contents) → is_there answer ≡ false → Counts (Ok answer) (as_words (part ∷ [])) old new
    → Counts (Ok answer) (as_words (part ∷ parts)) old new
counts-refused put.New part parts old new is c = absurd (true≢false is)
counts-refused put.Old part parts old new is c = absurd (true≢false is)
counts-refused put.WrongSize part parts old new is c =
    ap (λ ws. count_each ws old.objects) (as_words-cons part parts) ∙ each-none (as_words (part ∷ [])) (as_words parts) old.objects c
counts-refused put.NoSegment part parts old new is c = tt
counts-refused put.OutOfMemory part parts old new is c = tt

-- the same words from the same objects
pub counts-along : (answer : Result Put OutOfMemory) (words words' : List (List ℕ)) (first old new : Contents) → count_each words first.objects ≡ count_each words' old.objects
    → Counts answer words' old new → Counts answer words first new
counts-along (Ok put.New) words words' first old new e c = e ∙ c
counts-along (Ok put.Old) words words' first old new e c = e ∙ c
counts-along (Ok put.WrongSize) words words' first old new e c = e ∙ c
counts-along (Ok put.NoSegment) words words' first old new e c = tt
counts-along (Ok put.OutOfMemory) words words' first old new e c = tt
counts-along (Err why) words words' first old new e c = tt

-- an object has eight bytes more than its word
pub tally-length : (n : ℕ) (word : List ℕ) → length (counted_word n word) ≡ 8 + length word
tally-length n word = length-append (to_be_bytes w64 n) word

fits-false : (n : ℕ) (word : List ℕ) → is_object (counted_word n word) ≡ true → nat_lt 1016 (length word) ≡ false
fits-false n word e =
    let most = leb-true _ _ (and_parts (nat_le 1 (length (counted_word n word))) (nat_le (length (counted_word n word)) 1024) e).1 in
    le-ltb 1016 (length word) (omega (arith, most, tally-length n word))

over : (m : ℕ) → 8 ≤ m → (nat_le 1 m && nat_le m 1024) ≡ false → 1024 < m
over m least e = by (nat_le 1 m) (nat_le m 1024) refl refl e
  where
    by : (t u : Bool) → nat_le 1 m ≡ t → nat_le m 1024 ≡ u → (t && u) ≡ false → 1024 < m
    by true true first last e = absurd (true≢false e)
    by true false first last e = leb-false m 1024 last
    by false u first last e = let none = leb-false 1 m first in absurd (omega (arith, none, least))

fits-true : (n : ℕ) (word : List ℕ) → is_object (counted_word n word) ≡ false → nat_lt 1016 (length word) ≡ true
fits-true n word e =
    let most = over (length (counted_word n word)) (omega (arith, tally-length n word)) e in
    lt-ltb 1016 (length word) (omega (arith, most, tally-length n word))

-- what is put into an ordered set
put-by : (t u : Bool) (a b : List (List ℕ)) → u ≡ t → cond u a b ≡ cond t a b
put-by t u a b e = ap (λ v. cond v a b) e

module _ (object : List ℕ) (mid : Contents) (objects : List (List ℕ)) (ordered : mid.method ≡ DtOset) where
  match-is : (t : Bool) → has_same_key tally_rules object mid ≡ t → is_some (found tally_rules (tally_rules.key object) mid.objects) ≡ t
  match-is t e =
      sym (ap (λ m. is_set m && is_some (found tally_rules (tally_rules.key object) mid.objects)) ordered) ∙ e

  set-new : has_same_key tally_rules object mid ≡ false → objects ≡ put_by_method mid.method tally_rules mid.place object mid.objects → put_in_set object mid.objects ≡ objects
  set-new none e =
      put-by false (is_some (found tally_rules (tally_rules.key object) mid.objects)) mid.objects (put_by_method DtOset tally_rules None object mid.objects) (match-is false none)
      ∙ sym (e ∙ ap (λ m. put_by_method m tally_rules mid.place object mid.objects) ordered)

  set-old : has_same_key tally_rules object mid ≡ true → objects ≡ mid.objects → put_in_set object mid.objects ≡ objects
  set-old some e =
      put-by true (is_some (found tally_rules (tally_rules.key object) mid.objects)) mid.objects (put_by_method DtOset tally_rules None object mid.objects) (match-is true some)
      ∙ sym e

one-counted : (t : Bool) (o p : List (List ℕ)) → t ≡ false → o ≡ p → cond t None (Some o) ≡ Some p
one-counted true o p is e = absurd (true≢false is)
one-counted false o p is e = ap Some e

one-long : (t : Bool) (o : List (List ℕ)) → t ≡ true → cond t None (Some o) ≡ None
one-long true o is = refl
one-long false o is = absurd (true≢false (sym is))

module _ (n : ℕ) (word : List ℕ) (old mid new : Contents) (ordered : mid.method ≡ DtOset) (count : n ≡ count_found (found tally_rules word old.objects)) (lacks : mid.objects ≡ without_key tally_rules word old.objects) where
  one-is : count_one word old.objects ≡ put_in_set (counted_word (next_count n) word) mid.objects
  one-is = ap₂ (λ m o. put_in_set (counted_word (next_count m) word) o) (sym count) (sym lacks)

  tallied : (answer : Put) → AfterPut answer tally_rules (counted_word (next_count n) word) mid new.objects → Counts (Ok answer) (word ∷ []) old new
  tallied put.New after =
      one-counted (nat_lt 1016 (length word)) (count_one word old.objects) new.objects (fits-false (next_count n) word after.0)
      (one-is ∙ set-new (counted_word (next_count n) word) mid new.objects ordered after.1 after.2)
  tallied put.Old after =
      one-counted (nat_lt 1016 (length word)) (count_one word old.objects) new.objects (fits-false (next_count n) word after.0)
      (one-is ∙ set-old (counted_word (next_count n) word) mid new.objects ordered after.1 after.2)
  tallied put.WrongSize after = one-long (nat_lt 1016 (length word)) (count_one word old.objects) (fits-true (next_count n) word after.0)
  tallied put.NoSegment after = tt
  tallied put.OutOfMemory after = tt

-- a word that is counted once more
pub counts-one : (answer : Put) (r r' : Rules) (n : ℕ) (word object : List ℕ) (old mid new : Contents) → r ≡ tally_rules → r' ≡ tally_rules → mid.method ≡ DtOset
    → n ≡ count_found (found r word old.objects) → mid.objects ≡ without_key r word old.objects → object ≡ counted_word (next_count n) word
    → AfterPut answer r' object mid new.objects → Counts (Ok answer) (word ∷ []) old new
counts-one answer r r' n word object old mid new is is' ordered count lacks same after =
    tallied n word old mid new ordered (count ∙ ap (λ q. count_found (found q word old.objects)) is) (lacks ∙ ap (λ q. without_key q word old.objects) is) answer
    (subst (λ q. AfterPut answer q (counted_word (next_count n) word) mid new.objects) is' (subst (λ o. AfterPut answer r' o mid new.objects) same after))

-- where the word has a byte
pub counts-part : (answer : Put) (part : List ℕ) (old new : Contents) → (length part == 0) ≡ false → Counts (Ok answer) (part ∷ []) old new → Counts (Ok answer) (as_words (part ∷ [])) old new
counts-part answer [] old new some c = absurd (true≢false some)
counts-part answer (byte ∷ part) old new some c =
    subst (λ (t : Bool). Counts (Ok answer) (cond t ((byte ∷ part) ∷ []) []) old new) (sym (lt-ltb 0 (length (byte ∷ part)) (omega arith))) c

pub count-then : (t : Bool) (bytes : List ℕ) (o : Option (List ℕ)) (n : ℕ) → t ≡ true → cond t (Some bytes) None ≡ o → n ≡ stored_count bytes → n ≡ count_found o
count-then true bytes o n is e c = c ∙ ap count_found e
count-then false bytes o n is e c = absurd (true≢false (sym is))

pub count-else : (t : Bool) (bytes : List ℕ) (o : Option (List ℕ)) (n : ℕ) → t ≡ false → cond t (Some bytes) None ≡ o → n ≡ 0 → n ≡ count_found o
count-else true bytes o n is e c = absurd (true≢false is)
count-else false bytes o n is e c = c ∙ ap count_found e

-- a part ends at a byte between words
pub split-here : (text : List ℕ) (start i : ℕ) → start ≤ i → i < length text → All (λ byte. is_space byte ≡ false) (slice_range text start i) → is_space (get_or text i 0) ≡ true
    → words_in (drop start text) ≡ as_words (slice_range text start i ∷ slice_split is_space (drop (i + 1) text))
split-here text start i begun lt part ends =
    ap as_words
    (ap (slice_split is_space) (drop_split text start i begun ∙ ap (λ ys. slice_range text start i ++ ys) (drop-cons text i 0 lt ∙ ap (λ k. get_or text i 0 ∷ drop k text) (sym (add-one i))))
    ∙ slice_split_at is_space (slice_range text start i) (get_or text i 0) (drop (i + 1) text) part ends)

-- and the last one with the text
pub split-last : (text : List ℕ) (start : ℕ) → All (λ byte. is_space byte ≡ false) (slice_range text start (length text)) → words_in (drop start text) ≡ as_words (slice_range text start (length text) ∷ [])
split-last text start part =
    ap as_words
    (slice_split_none is_space (drop start text) (subst (All (λ byte. is_space byte ≡ false)) (take_rest text start) part)
    ∙ ap (λ word. word ∷ []) (sym (take_rest text start)))

-- a part with one more byte, and one that begins
pub part-more : (text : List ℕ) (start i : ℕ) → start ≤ i → i < length text → All (λ byte. is_space byte ≡ false) (slice_range text start i) → is_space (get_or text i 0) ≡ false
    → All (λ byte. is_space byte ≡ false) (slice_range text start (i + 1))
part-more text start i begun lt part here =
    subst (All (λ byte. is_space byte ≡ false)) (sym more) (All-push (λ byte. is_space byte ≡ false) (slice_range text start i) (get_or text i 0) part here)
  where
    more : slice_range text start (i + 1) ≡ slice_range text start i ++ get_or text i 0 ∷ []
    more =
        let one : i + 1 - start ≡ suc (i - start) = omega (arith, begun) in
        let within : i - start < length (drop start text) = omega (arith, length-drop start text, begun, lt) in
        let at : start + (i - start) ≡ i = omega (arith, begun) in
        ap (λ n. take n (drop start text)) one
        ∙ (take-suc (drop start text) (i - start) 0 within
        ∙ ap (λ byte. take (i - start) (drop start text) ++ byte ∷ []) (get_or-drop start text (i - start) 0 ∙ ap (λ n. get_or text n 0) at))

pub part-none : (text : List ℕ) (i : ℕ) → All (λ byte. is_space byte ≡ false) (slice_range text i i)
part-none text i = λ k d lt.
    let lt' : k < length (take (i - i) (drop i text)) = lt in
    absurd (omega (arith, lt', length-take (i - i) (drop i text)))
