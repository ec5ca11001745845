-- Keys that are put among others and go.
use Rattle.vc_base.proofs.Common.{◌≡◌, ℕ, ◌+◌, ◌<◌, ◌==◌, zero, suc, Bool, true, false, cond, List, [], ◌∷◌, ◌++◌, Option, Some, None, is_some, length, map, take, drop, get_or, flat_map, codes, if◌then◌else◌, is_eq, sym, refl, ap, ap₂, ◌∙◌, subst, none-some, same_Some, true≢false, ne_eqb, add-one, arith, and_right, append_assoc, append-nil, map-append, is_set, slice_get, slice_get-map, option_map}
use Rattle.std.specs.Cmp.{tied_itself}
use Rattle.std.proofs.Math.Seq.{take-suc}
use Rattle.std.proofs.lemmas.Grind.{flat_map-append}
use Rattle.std.proofs.lemmas.List.Sums.{fold-append}
use Rattle.vc_base.specs.declared.dict_method.DictMethod.{DictMethod}
use Rattle.vc_dtdisc.specs.Objects.{has_key}
use Rattle.vc_dtdisc.specs.Rules.{Rules}
use Rattle.vc_dtdisc.specs.ShapeLaws.{order-total}
use Rattle.vc_dtdisc.specs.declared.shape.Shape.TheVariants.{Whole}
use Rattle.vc_store.specs.Answers.{is_there}
use Rattle.vc_store.specs.Reading.{AfterPut, Contents, first_place, found, has_same_key, object_at_index, put_by_method, without_key}
use Rattle.vc_store.specs.declared.put.Put.{Put}
use Rattle.vc_store.specs.declared.put.Put.TheVariants as put
use Rattle.cache.specs.Blaming.{Blames, put_fault_of}
use Rattle.cache.specs.Asking.{Admits, AsksKey, Drops, IsSized, KeyTable, PutsKey, Replies, after_asking, asked_each, key_line, key_rules, new_table}

-- a key has itself
pub own-key : (key : List ℕ) → has_key key_rules key key ≡ true
own-key key = ap is_eq (tied_itself (order-total Whole) key)

first-by : (t : Bool) (key : List ℕ) (keys : List (List ℕ)) → t ≡ true → cond t keys (key ∷ without_key key_rules key keys) ≡ keys
first-by true key keys e = refl
first-by false key keys e = absurd (true≢false (sym e))

-- the first of them is found, and taken out, by itself
pub first-gone : (key : List ℕ) (keys : List (List ℕ)) → without_key key_rules key (key ∷ keys) ≡ keys
first-gone key keys = first-by (has_key key_rules key key) key keys (own-key key)

-- the first of them is current, and goes
zero-place : (t : Bool) (x : List ℕ) (xs : List (List ℕ)) (o : Option ℕ) → t ≡ false → object_at_index (if t then None else Some 0) (x ∷ xs) ≡ Some x
zero-place true x xs o e = absurd (true≢false e)
zero-place false x xs o e = refl

pub first-is : (key : List ℕ) (old new : List (List ℕ)) → Some key ≡ object_at_index (first_place (length old)) old → new ≡ without_key key_rules key old → old ≡ key ∷ new
first-is key [] new shown gone = absurd (none-some key (sym shown))
first-is key (x ∷ xs) new shown gone =
    let is : key ≡ x =
    same_Some key x (shown ∙ zero-place (length (x ∷ xs) == 0) x xs None (ne_eqb (length (x ∷ xs)) 0 (λ e. omega (arith, e)))) in
    let left : new ≡ xs = gone ∙ (ap (λ k. without_key key_rules k (x ∷ xs)) is ∙ first-gone x xs) in
    ap₂ (λ (k : List ℕ) (ks : List (List ℕ)). k ∷ ks) (sym is) (sym left)

-- none is found behind the first, where none is
later-by : (t : Bool) (x : List ℕ) (o : Option (List ℕ)) → cond t (Some x) o ≡ None → (t ≡ false) × (o ≡ None)
later-by true x o e = absurd (none-some x (sym e))
later-by false x o e = (refl, e)

pub none-later : (key x : List ℕ) (keys : List (List ℕ)) → found key_rules key (x ∷ keys) ≡ None → (has_key key_rules key x ≡ false) × (found key_rules key keys ≡ None)
none-later key x keys e = later-by (has_key key_rules key x) x (found key_rules key keys) e

-- a key that was put last goes again
kept-by : (t : Bool) (x : List ℕ) (all left keys : List (List ℕ)) → t ≡ false → left ≡ keys → cond t all (x ∷ left) ≡ x ∷ keys
kept-by true x all left keys e is = absurd (true≢false e)
kept-by false x all left keys e is = ap (λ ks. x ∷ ks) is

pub last-gone : (key : List ℕ) (keys : List (List ℕ)) → found key_rules key keys ≡ None → without_key key_rules key (keys ++ key ∷ []) ≡ keys
last-gone key [] e = first-gone key []
last-gone key (x ∷ keys) e =
    let apart = none-later key x keys e in
    kept-by (has_key key_rules key x) x (keys ++ key ∷ []) (without_key key_rules key (keys ++ key ∷ [])) keys apart.0 (last-gone key keys apart.1)

-- a key that none of them has, put by a method that puts it last
module _ (key : List ℕ) (d : Contents) (objects : List (List ℕ)) (none : found key_rules key d.objects ≡ None) where
  none-matches : has_same_key key_rules key d ≡ false
  none-matches = and_right (is_set d.method) (is_some (found key_rules key d.objects)) (ap is_some none)

  puts-last : put_by_method d.method key_rules d.place key d.objects ≡ d.objects ++ key ∷ [] → (answer : Put) → AfterPut answer key_rules key d objects → PutsKey answer key d.objects objects
  puts-last last put.New after = after.2 ∙ last
  puts-last last put.Old after = absurd (true≢false (sym after.1 ∙ none-matches))
  puts-last last put.NoSegment after = after.2
  puts-last last put.OutOfMemory after = after.2
  puts-last last put.WrongSize after = after.1

pub puts-in : (method : DictMethod) (answer : Put) (r : Rules) (key : List ℕ) (d : Contents) (objects : List (List ℕ)) → r ≡ key_rules → d.method ≡ method
    → put_by_method method key_rules d.place key d.objects ≡ d.objects ++ key ∷ [] → found key_rules key d.objects ≡ None → AfterPut answer r key d objects → PutsKey answer key d.objects objects
puts-in method answer r key d objects is by last none after =
    puts-last key d objects none (ap (λ m. put_by_method m key_rules d.place key d.objects) by ∙ last) answer (subst (λ q. AfterPut answer q key d objects) is after)

put-then : (t : Bool) (a b : List (List ℕ)) → t ≡ true → cond t a b ≡ a
put-then true a b e = refl
put-then false a b e = absurd (true≢false (sym e))

put-else : (t : Bool) (a b : List (List ℕ)) → t ≡ false → cond t a b ≡ b
put-else true a b e = absurd (true≢false e)
put-else false a b e = refl

-- what is put where it is there, and where not
pub puts-there : (answer : Put) (key : List ℕ) (old new : List (List ℕ)) → is_there answer ≡ true → PutsKey answer key old new → new ≡ old ++ key ∷ []
puts-there answer key old new is puts = puts ∙ put-then (is_there answer) (old ++ key ∷ []) old is

pub puts-not : (answer : Put) (key : List ℕ) (old new : List (List ℕ)) → is_there answer ≡ false → PutsKey answer key old new → new ≡ old
puts-not answer key old new is puts = puts ∙ put-else (is_there answer) (old ++ key ∷ []) old is

pub are-there : (answer : Put) (key : List ℕ) (old new : List (List ℕ)) → is_there answer ≡ true → new ≡ old ++ key ∷ [] → PutsKey answer key old new
are-there answer key old new is e = e ∙ sym (put-then (is_there answer) (old ++ key ∷ []) old is)

pub are-not : (answer : Put) (key : List ℕ) (old new : List (List ℕ)) → is_there answer ≡ false → new ≡ old → PutsKey answer key old new
are-not answer key old new is e = e ∙ sym (put-else (is_there answer) (old ++ key ∷ []) old is)

-- so many of the oldest went, and are told, while none of the others has a key
pub record Going (key : List ℕ) (old now : List (List ℕ)) (before after : List ℕ) : Type 0 where
  pub gone : ℕ
  pub keys : now ≡ drop gone old
  pub lines : after ≡ before ++ flat_map (key_line (codes "gone ")) (take gone old)
  pub none : found key_rules key now ≡ None

pub going-none : (key : List ℕ) (keys : List (List ℕ)) (lines : List ℕ) → found key_rules key keys ≡ None → Going key keys keys lines lines
going-none key keys lines none = record { gone = 0; keys = refl; lines = sym (append-nil lines); none = none }

-- one more of them
one-taken : (gone : ℕ) (old : List (List ℕ)) (x : List ℕ) (rest : List (List ℕ)) → drop gone old ≡ x ∷ rest → (take (suc gone) old ≡ take gone old ++ x ∷ []) × (drop (suc gone) old ≡ rest)
one-taken zero [] x rest e = cc
one-taken zero (y ∷ old) x rest e = (ap (λ (xs : List (List ℕ)). get_or xs 0 y ∷ []) e, ap (λ (xs : List (List ℕ)). drop 1 xs) e)
one-taken (suc gone) [] x rest e = cc
one-taken (suc gone) (y ∷ old) x rest e =
    let more = one-taken gone old x rest e in (ap (λ xs. y ∷ xs) more.0, more.1)

pub going-on : (key : List ℕ) (old now next : List (List ℕ)) (before after told : List ℕ) (x : List ℕ) → Going key old now before after → now ≡ x ∷ next → told ≡ after ++ key_line (codes "gone ") x → Going key old next before told
going-on key old now next before after told x g e l =
    let taken = one-taken g.gone old x next (sym g.keys ∙ e) in
    record {
      gone = suc g.gone;
      keys = sym taken.1;
      lines =
          l
          ∙ (ap (λ xs. xs ++ key_line (codes "gone ") x) g.lines
          ∙ (append_assoc before (flat_map (key_line (codes "gone ")) (take g.gone old)) (key_line (codes "gone ") x)
          ∙ ap (λ xs. before ++ xs)
          (ap (λ xs. flat_map (key_line (codes "gone ")) (take g.gone old) ++ xs) (sym (append-nil (key_line (codes "gone ") x)))
          ∙ (sym (flat_map-append (key_line (codes "gone ")) (take g.gone old) (x ∷ [])) ∙ ap (flat_map (key_line (codes "gone "))) (sym taken.0)))));
      none = (none-later key x next (ap (found key_rules key) (sym e) ∙ g.none)).1;
    }

pub drops-true : (t : Bool) (old new : List (List ℕ)) (before after : List ℕ) → t ≡ true → Drops t old new before after → Drops true old new before after
drops-true true old new before after e d = d
drops-true false old new before after e d = absurd (true≢false (sym e))

pub drops-false : (t : Bool) (old new : List (List ℕ)) (before after : List ℕ) → t ≡ false → Drops t old new before after → Drops false old new before after
drops-false true old new before after e d = absurd (true≢false e)
drops-false false old new before after e d = d

-- a key that was asked for
asked-hit : (t : Bool) (a b : KeyTable) → t ≡ true → cond t a b ≡ a
asked-hit true a b e = refl
asked-hit false a b e = absurd (true≢false (sym e))

asked-new : (t : Bool) (a b : KeyTable) → t ≡ false → cond t a b ≡ b
asked-new true a b e = absurd (true≢false e)
asked-new false a b e = refl

pub asks-hit : (key : List ℕ) (old new : List (List ℕ)) (before after : List ℕ) → is_some (found key_rules key old) ≡ true → new ≡ old → after ≡ before ++ key_line (codes "hit ") key → AsksKey put.Old key old new before after
asks-hit key old new before after is keys lines = λ _. (0, asked-hit (is_some (found key_rules key old)) _ _ is ∙ ap₂ (λ (k : List (List ℕ)) (l : List ℕ). record { keys = k; lines = l }) (sym keys) (sym lines))

pub asks-new : (answer : Put) (key : List ℕ) (old new : List (List ℕ)) (before mid after : List ℕ) → found key_rules key old ≡ None → is_there answer ≡ true → Admits answer key old new before mid → after ≡ mid ++ key_line (codes "new ") key
    → AsksKey answer key old new before after
asks-new answer key old new before mid after none is admits lines = λ _. (
  admits.0,
  asked-new (is_some (found key_rules key old)) _ _ (ap is_some none)
      ∙ ap₂ (λ (k : List (List ℕ)) (l : List ℕ). record { keys = k; lines = l }) (sym (puts-there answer key (drop admits.0 old) new is admits.1))
      (sym (lines ∙ ap (λ xs. xs ++ key_line (codes "new ") key) admits.2)),
)

pub asks-not : (answer : Put) (key : List ℕ) (old new : List (List ℕ)) (before after : List ℕ) → is_there answer ≡ false → AsksKey answer key old new before after
asks-not answer key old new before after is = λ there. absurd (true≢false (sym there ∙ is))

-- keys that were asked for, one after another
pub record AskedSo (asked_for : List (List ℕ)) (keys : List (List ℕ)) (lines : List ℕ) : Type 0 where
  pub runs : List (ℕ × List ℕ)
  pub each : map (λ (run : ℕ × List ℕ). run.1) runs ≡ asked_for
  pub table : record { keys = keys; lines = lines } ≡ asked_each runs new_table

pub asked-none : (keys : List (List ℕ)) (lines : List ℕ) → keys ≡ [] → lines ≡ [] → AskedSo [] keys lines
asked-none keys lines k l = record { runs = []; each = refl; table = ap₂ (λ (x : List (List ℕ)) (y : List ℕ). record { keys = x; lines = y }) k l }

pub asked-more : (asked_for : List (List ℕ)) (answer : Put) (key : List ℕ) (old new : List (List ℕ)) (before after : List ℕ) → is_there answer ≡ true → AskedSo asked_for old before
    → AsksKey answer key old new before after → AskedSo (asked_for ++ key ∷ []) new after
asked-more asked_for answer key old new before after is so asks =
    let run = asks is in
    record {
      runs = so.runs ++ (run.0, key) ∷ [];
      each = map-append (λ (run : ℕ × List ℕ). run.1) so.runs ((run.0, key) ∷ []) ∙ ap (λ xs. xs ++ key ∷ []) so.each;
      table =
          sym run.1
          ∙ (ap (after_asking run.0 key) so.table
          ∙ sym (fold-append (λ (t : KeyTable) (run : ℕ × List ℕ). after_asking run.0 run.1 t) new_table so.runs ((run.0, key) ∷ [])));
    }

pub map-more : {A : Type 0} (f : A → List ℕ) (xs : List A) (i : ℕ) (x : A) (key : List ℕ) → i < length xs → x ≡ get_or xs i x → key ≡ f x → map f (take i xs) ++ key ∷ [] ≡ map f (take (i + 1) xs)
map-more f xs i x key lt is e =
    ap (λ k. map f (take i xs) ++ k ∷ []) e
    ∙ (sym (map-append f (take i xs) (x ∷ []))
    ∙ ap (map f) (ap (λ y. take i xs ++ y ∷ []) is ∙ (sym (take-suc xs i x lt) ∙ ap (λ n. take n xs) (sym (add-one i)))))

pub asked-replies : (asked_for keys : List (List ℕ)) (lines : List ℕ) → AskedSo asked_for keys lines → Replies asked_for lines
asked-replies asked_for keys lines so = (so.runs, so.each, ap (λ (t : KeyTable). t.lines) so.table)

-- a key of a wrong size is one of those that were asked for
key-at : {A : Type 0} (xs : List A) (i : ℕ) (x : A) → i < length xs → x ≡ get_or xs i x → slice_get xs i ≡ Some x
key-at [] i x lt is = absurd (omega (arith, lt))
key-at (y ∷ ys) zero x lt is = ap Some (sym is)
key-at (y ∷ ys) (suc i) x lt is = key-at ys i x (omega (arith, lt)) is

pub blamed : {A : Type 0} (f : A → List ℕ) (xs : List A) (i : ℕ) (x : A) (answer : Put) (key : List ℕ) → i < length xs → x ≡ get_or xs i x → key ≡ f x → IsSized answer key → Blames (map f xs) (put_fault_of answer)
blamed f xs i x put.WrongSize key lt is e size = record {
  place = i;
  key = key;
  at = slice_get-map f xs i ∙ (ap (option_map f) (key-at xs i x lt is) ∙ ap Some (sym e));
  wrong = size;
}
blamed f xs i x put.New key lt is e size = tt
blamed f xs i x put.Old key lt is e size = tt
blamed f xs i x put.NoSegment key lt is e size = tt
blamed f xs i x put.OutOfMemory key lt is e size = tt
