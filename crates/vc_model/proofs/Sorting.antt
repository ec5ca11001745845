-- Lists by a key: the walk from an item to the one with the next key passes them all.
use Rattle.std.proofs.Common.{◌≡◌, ◌≢◌, ℕ, ◌≤◌, AllPairs, Bool, true, false, cond, List, [], ◌∷◌, Option, Some, None, filter, fold, ltb, refl, sym, ap, ◌∙◌, subst, ⊎_elim, arith}
use Rattle.std.specs.Prelude.{⊤, find, nat_lt}
use Rattle.std.specs.List.{AllByRecursion}
use Rattle.std.proofs.lemmas.Bool.{cases_Bool, lt-ltb, ltb-false}
use Rattle.std.proofs.lemmas.Bool.Decides.{nat_tests}
use Rattle.vc_model.specs.Order.{least_above, lesser_by, put_by, sorted_by}
use Rattle.vc_model.proofs.Pairs.{AllPairs-head, AllPairs-tail, all-recursion}
use Rattle.vc_model.proofs.Walking.{IsRow, filter-all, filter-next, filter-none}

pub above-on : (k a b : ℕ) → ltb k a ≡ true → ltb a b ≡ true → ltb k b ≡ true
above-on k a b p q = grind (arith, nat_tests)

pub above-self : (a : ℕ) → ltb a a ≡ false
above-self a = grind (arith, nat_tests)

pub above-back : (k a b : ℕ) → ltb k a ≡ false → ltb k b ≡ true → ltb b a ≡ false
above-back k a b p q = grind (arith, nat_tests)

less-not : (a b c : ℕ) → ltb a b ≡ false → ltb b c ≡ false → ltb a c ≡ false
less-not a b c p q = grind (arith, nat_tests)

less-back : (a b : ℕ) → ltb a b ≡ true → ltb b a ≡ false
less-back a b p = grind (arith, nat_tests)

less-other : (a b : ℕ) → ltb a b ≡ false → b ≢ a → ltb b a ≡ true
less-other a b p other = lt-ltb b a (let e = ltb-false a b p in omega (arith, e, other))

not-less-on : (k a b : ℕ) → ltb a b ≡ false → ltb k b ≡ true → ltb k a ≡ true
not-less-on k a b p q = grind (arith, nat_tests)

module _ {A : Type 0} (key : A → ℕ) where
  -- whether an item's key is above another
  abbrev pub is_above : ℕ → A → Bool
  is_above after x = nat_lt after (key x)

  -- no two items have one key
  abbrev pub AreDistinct : List A → Type 0
  AreDistinct [] = ⊤
  AreDistinct (x ∷ xs) = AllByRecursion (λ y. key x ≢ key y) xs × AreDistinct xs

  -- the lesser of an item and the least of others behind it
  abbrev join : A → Option A → Option A
  join x None = Some x
  join x (Some t) = lesser_by key (Some x) t

  join-lesser : (s x : A) (o : Option A) → ltb (key x) (key s) ≡ true → join x o ≡ join s (join x o)
  join-lesser s x None t = sym (ap (λ v. cond v (Some x) (Some s)) t)
  join-lesser s x (Some f) t =
      ⊎_elim
      (λ u. rw u (sym (ap (λ v. cond v (Some f) (Some s)) (above-on (key f) (key x) (key s) u t))))
      (λ u. rw u (sym (ap (λ v. cond v (Some x) (Some s)) t)))
      (cases_Bool (ltb (key f) (key x)))

  join-greater : (s x : A) (o : Option A) → ltb (key x) (key s) ≡ false → join s o ≡ join s (join x o)
  join-greater s x None t = sym (ap (λ v. cond v (Some x) (Some s)) t)
  join-greater s x (Some f) t =
      ⊎_elim
      (λ u. rw u refl)
      (λ u. rw u (ap (λ v. cond v (Some f) (Some s)) (less-not (key f) (key x) (key s) u t) ∙ sym (ap (λ v. cond v (Some x) (Some s)) t)))
      (cases_Bool (ltb (key f) (key x)))

  fold-lesser : (s : A) (xs : List A) → fold (lesser_by key) (Some s) xs ≡ join s (fold (lesser_by key) None xs)
  fold-lesser s [] = refl
  fold-lesser s (x ∷ xs) =
      let rest = fold (lesser_by key) None xs in
      ⊎_elim
      (λ t. ap (λ v. fold (lesser_by key) (cond v (Some x) (Some s)) xs) t ∙ (fold-lesser x xs ∙ (join-lesser s x rest t ∙ ap (join s) (sym (fold-lesser x xs)))))
      (λ t. ap (λ v. fold (lesser_by key) (cond v (Some x) (Some s)) xs) t ∙ (fold-lesser s xs ∙ (join-greater s x rest t ∙ ap (join s) (sym (fold-lesser x xs)))))
      (cases_Bool (ltb (key x) (key s)))

  pub all-put_by : (P : A → Type 0) (x : A) (ys : List A) → P x → AllByRecursion P ys → AllByRecursion P (put_by key x ys)
  all-put_by P x [] p all = (p, tt)
  all-put_by P x (y ∷ ys) p all =
      elim (ltb (key x) (key y)) as (λ v. AllByRecursion P (cond v (x ∷ y ∷ ys) (y ∷ put_by key x ys)))
      [ true ↦ (p, all) | false ↦ (all.0, all-put_by P x ys p all.1) ]

  pub all-sorted_by : (P : A → Type 0) (xs : List A) → AllByRecursion P xs → AllByRecursion P (sorted_by key xs)
  all-sorted_by P [] all = tt
  all-sorted_by P (x ∷ xs) all = all-put_by P x (sorted_by key xs) all.0 (all-sorted_by P xs all.1)

  all-above : (x y : A) (ys : List A) → ltb (key x) (key y) ≡ true → AllByRecursion (λ z. is_above (key y) z ≡ true) ys → AllByRecursion (λ z. is_above (key x) z ≡ true) ys
  all-above x y [] e all = tt
  all-above x y (z ∷ zs) e all = (above-on (key x) (key y) (key z) e all.0, all-above x y zs e all.1)

  row-put_by : (x : A) (ys : List A) → AllByRecursion (λ y. key x ≢ key y) ys → IsRow is_above key ys → IsRow is_above key (put_by key x ys)
  row-put_by x [] other row = (tt, tt)
  row-put_by x (y ∷ ys) other row =
      ⊎_elim
      (λ e. subst (λ v. IsRow is_above key (cond v (x ∷ y ∷ ys) (y ∷ put_by key x ys))) (sym e) ((e, all-above x y ys e row.0), row))
      (λ e. subst (λ v. IsRow is_above key (cond v (x ∷ y ∷ ys) (y ∷ put_by key x ys))) (sym e)
      (all-put_by (λ z. is_above (key y) z ≡ true) x ys (less-other (key x) (key y) e (λ same. other.0 (sym same))) row.0, row-put_by x ys other.1 row.1))
      (cases_Bool (ltb (key x) (key y)))

  pub row-sorted_by : (xs : List A) → AreDistinct xs → IsRow is_above key (sorted_by key xs)
  row-sorted_by [] distinct = tt
  row-sorted_by (x ∷ xs) distinct =
      row-put_by x (sorted_by key xs) (all-sorted_by (λ y. key x ≢ key y) xs distinct.0) (row-sorted_by xs distinct.1)

  -- what is found above a key with one more item
  abbrev found-with : ℕ → A → Option A → Option A
  found-with after x o = cond (ltb after (key x)) (join x o) o

  find-put_by : (after : ℕ) (x : A) (ys : List A) → AllByRecursion (λ y. key x ≢ key y) ys → find (is_above after) (put_by key x ys) ≡ found-with after x (find (is_above after) ys)
  find-put_by after x [] other = refl
  find-put_by after x (y ∷ ys) other =
      let rest = find (is_above after) ys in
      ⊎_elim
      (λ less.
      rw less
      (elim_above x y ys less))
      (λ not_less.
      rw not_less
      (⊎_elim
      (λ up.
      let up-x : ltb after (key x) ≡ true = not-less-on after (key x) (key y) not_less up in
      rw (up, up-x) (sym (ap (λ v. cond v (Some y) (Some x)) (less-other (key x) (key y) not_less (λ same. other.0 (sym same))))))
      (λ down. rw down (find-put_by after x ys other.1))
      (cases_Bool (ltb after (key y)))))
      (cases_Bool (ltb (key x) (key y)))
    where
      elim_above : (x y : A) (ys : List A) → ltb (key x) (key y) ≡ true → cond (ltb after (key x)) (Some x) (cond (ltb after (key y)) (Some y) (find (is_above after) ys)) ≡ found-with after x (cond (ltb after (key y)) (Some y) (find (is_above after) ys))
      elim_above x y ys less =
          ⊎_elim
          (λ up.
          let up-y : ltb after (key y) ≡ true = above-on after (key x) (key y) up less in
          rw (up, up-y) (sym (ap (λ v. cond v (Some y) (Some x)) (less-back (key x) (key y) less))))
          (λ down. rw down refl)
          (cases_Bool (ltb after (key x)))

  -- the least item above a key is the first one of the sorted list
  pub least-found : (after : ℕ) (xs : List A) → AreDistinct xs → least_above key after xs ≡ find (is_above after) (sorted_by key xs)
  least-found after [] distinct = refl
  least-found after (x ∷ xs) distinct =
      let kept = filter (is_above after) xs in
      let found = find-put_by after x (sorted_by key xs) (all-sorted_by (λ y. key x ≢ key y) xs distinct.0) in
      ⊎_elim
      (λ up.
      ap (λ v. fold (lesser_by key) None (cond v (x ∷ kept) kept)) up
      ∙ (fold-lesser x kept
      ∙ (ap (join x) (least-found after xs distinct.1)
      ∙ sym (found ∙ ap (λ v. cond v (join x (find (is_above after) (sorted_by key xs))) (find (is_above after) (sorted_by key xs))) up))))
      (λ down.
      ap (λ v. fold (lesser_by key) None (cond v (x ∷ kept) kept)) down
      ∙ (least-found after xs distinct.1
      ∙ sym (found ∙ ap (λ v. cond v (join x (find (is_above after) (sorted_by key xs))) (find (is_above after) (sorted_by key xs))) down)))
      (cases_Bool (ltb after (key x)))

  -- the walk goes on with the next item, and ends where there is none
  pub next-above : (after : ℕ) (xs : List A) (x : A) → AreDistinct xs → least_above key after xs ≡ Some x → filter (is_above after) (sorted_by key xs) ≡ x ∷ filter (is_above (key x)) (sorted_by key xs)
  next-above after xs x distinct e =
      filter-next is_above key (λ k a b p q. above-on k (key a) (key b) p q) (λ a. above-self (key a)) (λ k a b p q. above-back k (key a) (key b) p q)
      after (sorted_by key xs) x (row-sorted_by xs distinct) (sym (least-found after xs distinct) ∙ e)

  pub none-above : (after : ℕ) (xs : List A) → AreDistinct xs → least_above key after xs ≡ None → filter (is_above after) (sorted_by key xs) ≡ []
  none-above after xs distinct e = filter-none (is_above after) (sorted_by key xs) (sym (least-found after xs distinct) ∙ e)

  -- a walk from 0 on passes every item with a greater key
  pub all-passed : (xs : List A) → AllByRecursion (λ x. 1 ≤ key x) xs → filter (is_above 0) (sorted_by key xs) ≡ sorted_by key xs
  all-passed xs all = filter-all (is_above 0) (sorted_by key xs) (all-sorted_by (λ x. is_above 0 x ≡ true) xs (first xs all))
    where
      first : (ys : List A) → AllByRecursion (λ x. 1 ≤ key x) ys → AllByRecursion (λ x. is_above 0 x ≡ true) ys
      first [] all = tt
      first (y ∷ ys) all = (lt-ltb 0 (key y) all.0, first ys all.1)

  pub distinct-pairs : (xs : List A) → AllPairs (λ a b. key a ≢ key b) xs → AreDistinct xs
  distinct-pairs [] pairs = tt
  distinct-pairs (x ∷ xs) pairs =
      let R : A → A → Type 0 = λ a b. key a ≢ key b in
      (all-recursion (R x) xs (AllPairs-head R x xs pairs), distinct-pairs xs (AllPairs-tail R x xs pairs))
