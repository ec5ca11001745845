-- Lists of names that ascend by a key.
use Rattle.vc_base.proofs.Common.{◌≡◌, ℕ, ◌+◌, ◌≤◌, Bool, true, false, cond, not, ◌&&◌, ◌||◌, eqb, ltb, ◌≢◌, List, [], ◌∷◌, nat_lt, ◌==◌, Some, None, find, nat_cmp, is_gt, sym, refl, ap, ◌∙◌, subst, ⊎_elim, true≢false, arith, ltb-false, ltb-true, le-ltb, lt-ltb, eq-eqb, ne_eqb, eqb-true, cases_Bool, eqb-false, ordering_index, AreDistinct, contains, without, put_by}
use Rattle.vc_gaps.proofs.Common.{AscendFrom}
use Rattle.vc_base.proofs.Members.{within-head, within-tail, within-cases}
use Rattle.vc_splay.specs.Guide.{RisesFrom, order_with_name}

module _ (key : ℕ → ℕ) where
  pub ascend-more : (low from : ℕ) (xs : List ℕ) → low ≤ from → AscendFrom key from xs → AscendFrom key low xs
  ascend-more low from [] le h = tt
  ascend-more low from (x ∷ xs) le h = (let k = h.0 in omega arith, h.1)

  -- none is below the least key
  pub ascend-least : (low : ℕ) (xs : List ℕ) (n : ℕ) → AscendFrom key low xs → contains xs n ≡ true → low ≤ key n
  ascend-least low [] n h w = absurd (true≢false (sym w))
  ascend-least low (x ∷ xs) n h w =
      ⊎_elim
      (λ (e : x ≡ n). subst (λ z. low ≤ key z) e h.0)
      (λ (k : contains xs n ≡ true). let j = ascend-least (key x + 1) xs n h.1 k in let l = h.0 in omega arith)
      (within-cases x xs n w)

  -- without one they ascend, and with one whose key none of them has
  pub ascend-without : (low a : ℕ) (xs : List ℕ) → AscendFrom key low xs → AscendFrom key low (without a xs)
  ascend-without low a [] h = tt
  ascend-without low a (x ∷ xs) h =
      ⊎_elim
      (λ (t : eqb x a ≡ true). rw t (ascend-more low (key x + 1) xs (let l = h.0 in omega arith) h.1))
      (λ (t : eqb x a ≡ false). rw t (h.0, ascend-without (key x + 1) a xs h.1))
      (cases_Bool (eqb x a))

  pub ascend-put : (low a : ℕ) (xs : List ℕ) → AscendFrom key low xs → low ≤ key a → ((n : ℕ) → contains xs n ≡ true → key n ≢ key a) → AscendFrom key low (put_by key a xs)
  ascend-put low a [] h l ne = (l, tt)
  ascend-put low a (x ∷ xs) h l ne =
      ⊎_elim
      (λ (t : nat_lt (key a) (key x) ≡ true). let lt = ltb-true (key a) (key x) t in rw t (l, (let k = lt in omega arith, h.1)))
      (λ (t : nat_lt (key a) (key x) ≡ false).
      let le = ltb-false (key a) (key x) t in
      let other = ne x (within-head x xs) in
      rw t (h.0, ascend-put (key x + 1) a xs h.1 (omega arith) (λ n w. ne n (within-tail x xs n w))))
      (cases_Bool (nat_lt (key a) (key x)))

  -- in the order of their keys, where they stand to one never falls
  index-rises : (k j o : ℕ) → k ≤ j → ordering_index (nat_cmp k o) ≤ ordering_index (nat_cmp j o)
  index-rises k j o h =
      ⊎_elim
      (λ (t : ltb j o ≡ true). let lt = ltb-true j o t in rw (t, lt-ltb k o (omega arith)) (omega arith))
      (λ (t : ltb j o ≡ false).
      let le = ltb-false j o t in
      ⊎_elim
      (λ (u : ltb k o ≡ true). rw u (omega arith))
      (λ (u : ltb k o ≡ false).
      let le' = ltb-false k o u in
      rw (t, u)
      (⊎_elim
      (λ (v : eqb k o ≡ true). rw v (elim (eqb j o) as (λ z. 1 ≤ ordering_index (cond z Rattle.std.specs.declared.cmp.Ordering.TheVariants.Equal Rattle.std.specs.declared.cmp.Ordering.TheVariants.Greater)) [ true ↦ omega arith | false ↦ omega arith ]))
      (λ (v : eqb k o ≡ false). let ne = eqb-false k o v in rw (v, ne_eqb j o (λ q. ne (omega arith))) (omega arith))
      (cases_Bool (eqb k o))))
      (cases_Bool (ltb k o)))
      (cases_Bool (ltb j o))

  pub ascend-rises : (o low from : ℕ) (xs : List ℕ) → low ≤ ordering_index (nat_cmp from o) → AscendFrom key from xs → RisesFrom low (λ n. nat_cmp (key n) o) xs
  ascend-rises o low from [] l h = tt
  ascend-rises o low from (x ∷ xs) l h = (
    let k = index-rises from (key x) o h.0 in omega arith,
    ascend-rises o (ordering_index (nat_cmp (key x) o)) (key x + 1) xs (index-rises (key x) (key x + 1) o (omega arith)) h.1,
  )

  -- one that is put behind the last one that isn't behind it is put by its key
  after-by : (k j : ℕ) → is_gt (nat_cmp j k) ≡ nat_lt k j
  after-by k j =
      ⊎_elim
      (λ (t : ltb j k ≡ true). let lt = ltb-true j k t in rw (t, le-ltb k j (omega arith)) refl)
      (λ (t : ltb j k ≡ false).
      let le = ltb-false j k t in
      ⊎_elim
      (λ (v : eqb j k ≡ true). let e = eqb-true j k v in rw (t, v, le-ltb k j (omega arith)) refl)
      (λ (v : eqb j k ≡ false). let ne = eqb-false j k v in rw (t, v, lt-ltb k j (omega arith)) refl)
      (cases_Bool (eqb j k)))
      (cases_Bool (ltb j k))

  pub linked-put : (a : ℕ) (xs : List ℕ) → order_with_name (λ n. nat_cmp (key n) (key a)) a xs ≡ put_by key a xs
  linked-put a [] = refl
  linked-put a (x ∷ xs) = ap (λ z. cond z (a ∷ x ∷ xs) (x ∷ order_with_name (λ n. nat_cmp (key n) (key a)) a xs)) (after-by (key a) (key x)) ∙ ap (λ ys. cond (nat_lt (key a) (key x)) (a ∷ x ∷ xs) (x ∷ ys)) (linked-put a xs)

  or-swap : (p q r : Bool) → p || (q || r) ≡ q || (p || r)
  or-swap true true r = refl
  or-swap true false r = refl
  or-swap false q r = refl

  pub contains-put : (a : ℕ) (xs : List ℕ) (n : ℕ) → contains (put_by key a xs) n ≡ (a == n) || contains xs n
  contains-put a [] n = refl
  contains-put a (x ∷ xs) n =
      ⊎_elim
      (λ (t : nat_lt (key a) (key x) ≡ true). rw t refl)
      (λ (t : nat_lt (key a) (key x) ≡ false). rw t (ap (λ z. (x == n) || z) (contains-put a xs n) ∙ or-swap (x == n) (a == n) (contains xs n)))
      (cases_Bool (nat_lt (key a) (key x)))

pub ascend-same : (old new : ℕ → ℕ) (low : ℕ) (xs : List ℕ) → ((n : ℕ) → contains xs n ≡ true → new n ≡ old n) → AscendFrom old low xs → AscendFrom new low xs
ascend-same old new low [] same h = tt
ascend-same old new low (x ∷ xs) same h =
    let e = same x (within-head x xs) in (
      subst (λ z. low ≤ z) (sym e) h.0,
      ascend-same old new (new x + 1) xs (λ n w. same n (within-tail x xs n w)) (subst (λ z. AscendFrom old (z + 1) xs) (sym e) h.1),
    )

-- what a list without one name has
pub contains-without : (a : ℕ) (xs : List ℕ) (n : ℕ) → AreDistinct xs → contains (without a xs) n ≡ contains xs n && not (a == n)
contains-without a [] n d = refl
contains-without a (x ∷ xs) n d =
    ⊎_elim
    (λ (t : eqb x a ≡ true).
    let same = eqb-true x a t in
    ⊎_elim
    (λ (u : eqb x n ≡ true). let e = eqb-true x n u in rw (t, u, eq-eqb a n (sym same ∙ e)) (subst (λ z. contains xs z ≡ false) e d.0))
    (λ (u : eqb x n ≡ false). let ne = eqb-false x n u in rw (t, u, ne_eqb a n (λ q. ne (same ∙ q))) (and-true (contains xs n)))
    (cases_Bool (eqb x n)))
    (λ (t : eqb x a ≡ false).
    let other = eqb-false x a t in
    ⊎_elim
    (λ (u : eqb x n ≡ true). let e = eqb-true x n u in rw (t, u, ne_eqb a n (λ q. other (e ∙ sym q))) refl)
    (λ (u : eqb x n ≡ false). rw (t, u) (contains-without a xs n d.1))
    (cases_Bool (eqb x n)))
    (cases_Bool (eqb x a))
  where
    and-true : (b : Bool) → b ≡ b && true
    and-true true = refl
    and-true false = refl

-- two tests that agree on a list find the same
pub find-same : (p q : ℕ → Bool) (xs : List ℕ) → ((n : ℕ) → contains xs n ≡ true → p n ≡ q n) → find p xs ≡ find q xs
find-same p q [] same = refl
find-same p q (x ∷ xs) same = ap (λ z. cond z (Some x) (find p xs)) (same x (within-head x xs)) ∙ ap (cond (q x) (Some x)) (find-same p q xs (λ n w. same n (within-tail x xs n w)))

-- what is found is in the list and passes, and each other one that passes has no lesser key
pub record IsLeast (key : ℕ → ℕ) (p : ℕ → Bool) (xs : List ℕ) (n : ℕ) : Type 0 where
  pub within : contains xs n ≡ true
  pub passes : p n ≡ true
  pub least : (m : ℕ) → contains xs m ≡ true → p m ≡ true → key n ≤ key m

pub find-least : (key : ℕ → ℕ) (p : ℕ → Bool) (low : ℕ) (xs : List ℕ) (n : ℕ) → AscendFrom key low xs → find p xs ≡ Some n → IsLeast key p xs n
find-least key p low [] n h e = absurd (cc)
find-least key p low (x ∷ xs) n h e =
    ⊎_elim
    (λ (t : p x ≡ true).
    let f : Some x ≡ Some n = rw t at e in
    let same : x ≡ n = cc in
    record {
      within = subst (λ z. contains (x ∷ xs) z ≡ true) same (within-head x xs);
      passes = subst (λ z. p z ≡ true) same t;
      least = λ m w q.
          ⊎_elim
          (λ (k : x ≡ m). let j : n ≡ m = sym same ∙ k in subst (λ z. key n ≤ key z) j (omega arith))
          (λ (k : contains xs m ≡ true). let j = ascend-least key (key x + 1) xs m h.1 k in subst (λ z. key z ≤ key m) same (omega arith))
          (within-cases x xs m w);
    })
    (λ (t : p x ≡ false).
    let r : IsLeast key p xs n = find-least key p (key x + 1) xs n h.1 (rw t at e) in
    record {
      within = within-tail x xs n r.within;
      passes = r.passes;
      least = λ m w q.
          ⊎_elim
          (λ (k : x ≡ m). absurd (true≢false (sym q ∙ ap p (sym k) ∙ t)))
          (λ (k : contains xs m ≡ true). r.least m k q)
          (within-cases x xs m w);
    })
    (cases_Bool (p x))

pub find-none : (p : ℕ → Bool) (xs : List ℕ) → find p xs ≡ None → (n : ℕ) → contains xs n ≡ true → p n ≡ false
find-none p [] e n w = absurd (true≢false (sym w))
find-none p (x ∷ xs) e n w =
    ⊎_elim
    (λ (t : p x ≡ true). let f : Some x ≡ None = rw t at e in absurd (cc))
    (λ (t : p x ≡ false).
    ⊎_elim
    (λ (k : x ≡ n). ap p (sym k) ∙ t)
    (λ (k : contains xs n ≡ true). find-none p xs (rw t at e) n k)
    (within-cases x xs n w))
    (cases_Bool (p x))
