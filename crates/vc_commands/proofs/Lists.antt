-- Lists of blocks, and the one at a place.
use Rattle.vc_base.proofs.Common.{◌≡◌, ℕ, suc, ◌+◌, ◌<◌, Bool, true, cond, ◌||◌, List, [], ◌∷◌, map, length, get_or, Some, Contains, count_by, remove, find, sym, refl, ap, ◌∙◌, ⊎_elim, arith, cases_Bool, false≢true, sum_by-append, none-some, AllByRecursion, list_any, Block, address_of, is_at, without_block, change_block, find_block}
use Rattle.vc_model.proofs.Places.{Among}
use Rattle.vc_base.proofs.Booleans.{or-swap}
use Rattle.vc_audit.proofs.ProfileLists.{first_at, later_at, without-here, without-later}

pub count-cons : {A : Type 0} (test : A → Bool) (x : A) (xs : List A) → count_by test (x ∷ xs) ≡ cond (test x) 1 0 + count_by test xs
count-cons test x xs =
    let first : 0 + cond (test x) 1 0 ≡ cond (test x) 1 0 = omega arith in
    sum_by-append (λ y. cond (test y) 1 0) (x ∷ []) xs ∙ ap (λ n. n + count_by test xs) first

pub any-alike : {A : Type 0} (test other : A → Bool) (xs : List A) → AllByRecursion (λ x. test x ≡ other x) xs → list_any test xs ≡ list_any other xs
any-alike test other [] same = refl
any-alike test other (x ∷ xs) same = ap (λ v. v || list_any test xs) same.0 ∙ ap (λ v. other x || v) (any-alike test other xs same.1)

-- an item that passes the test and is found
pub record Passes {A : Type 0} (test : A → Bool) (xs : List A) : Type 0 where
  pub item : A
  pub found : find test xs ≡ Some item
  pub passes : test item ≡ true

pub found-any : {A : Type 0} (test : A → Bool) (xs : List A) → list_any test xs ≡ true → Passes test xs
found-any test [] any = absurd (false≢true any)
found-any test (x ∷ xs) any =
    ⊎_elim
    (λ e. record { item = x; found = ap (λ b. cond b (Some x) (find test xs)) e; passes = e })
    (λ e.
    let rest = found-any test xs (sym (ap (λ b. b || list_any test xs) e) ∙ any) in
    record { item = rest.item; found = ap (λ b. cond b (Some x) (find test xs)) e ∙ rest.found; passes = rest.passes })
    (cases_Bool (test x))

-- the address of a block is among theirs
pub contains-among : (a : ℕ) (b : Block ℕ) (bs : List (Block ℕ)) → Among b bs → address_of b ≡ a → Contains (map address_of bs) a
contains-among a b [] m e = absurd m
contains-among a b (c ∷ cs) m e =
    ⊎_elim
    (λ same. (0, omega arith, ap (λ (d : Block ℕ). address_of d) same ∙ e))
    (λ rest. let r = contains-among a b cs rest e in (suc r.0, omega (arith, r.1), r.2))
    m

-- where a block stands in a list, which is without it elsewhere
pub record Index (p : ℕ × ℕ) (b : Block ℕ) (bs : List (Block ℕ)) : Type 0 where
  pub at : ℕ
  pub within : at < length bs
  pub is : (d : Block ℕ) → get_or bs at d ≡ b
  pub gone : remove bs at ≡ without_block p bs

module _ (p : ℕ × ℕ) (b : Block ℕ) where
  -- some block passes a test where the one at the place does, or one of the others
  pub any-split : (test : Block ℕ → Bool) (bs : List (Block ℕ)) → find_block p bs ≡ Some b → list_any test bs ≡ (test b || list_any test (without_block p bs))
  any-split test [] e = absurd (none-some b e)
  any-split test (c ∷ cs) e =
      ⊎_elim
      (λ here. ap (λ d. test d || list_any test cs) (first_at p b c cs e here) ∙ sym (ap (λ ds. test b || list_any test ds) (without-here p b c cs here)))
      (λ not_here.
      ap (λ v. test c || v) (any-split test cs (later_at p b c cs e not_here))
      ∙ (or-swap (test c) (test b) (list_any test (without_block p cs))
      ∙ sym (ap (λ ds. test b || list_any test ds) (without-later p b c cs not_here))))
      (cases_Bool (is_at p c))

  pub count-split : (test : Block ℕ → Bool) (bs : List (Block ℕ)) → find_block p bs ≡ Some b → count_by test bs ≡ cond (test b) 1 0 + count_by test (without_block p bs)
  count-split test [] e = absurd (none-some b e)
  count-split test (c ∷ cs) e =
      ⊎_elim
      (λ here. count-cons test c cs ∙ (ap (λ d. cond (test d) 1 0 + count_by test cs) (first_at p b c cs e here) ∙ sym (ap (λ ds. cond (test b) 1 0 + count_by test ds) (without-here p b c cs here))))
      (λ not_here.
      let rest = count-split test cs (later_at p b c cs e not_here) in
      let left = count-cons test c cs in
      let right : count_by test (without_block p (c ∷ cs)) ≡ cond (test c) 1 0 + count_by test (without_block p cs) = ap (count_by test) (without-later p b c cs not_here) ∙ count-cons test c (without_block p cs) in
      omega (arith, rest, left, right))
      (cases_Bool (is_at p c))

  pub index : (bs : List (Block ℕ)) → find_block p bs ≡ Some b → Index p b bs
  index [] e = absurd (none-some b e)
  index (c ∷ cs) e =
      ⊎_elim
      (λ t. record { at = 0; within = omega arith; is = λ d. first_at p b c cs e t; gone = sym (without-here p b c cs t) })
      (λ t.
      let rest = index cs (later_at p b c cs e t) in
      record { at = suc rest.at; within = omega (arith, rest.within); is = λ d. rest.is d; gone = ap (λ ds. c ∷ ds) rest.gone ∙ sym (without-later p b c cs t) })
      (cases_Bool (is_at p c))

-- a block that is changed where it stands
pub find-changed : (change : Block ℕ → Block ℕ) (same : (c : Block ℕ) (q : ℕ × ℕ) → is_at q (change c) ≡ is_at q c) (p : ℕ × ℕ) (b : Block ℕ) (bs : List (Block ℕ)) → find_block p bs ≡ Some b → find_block p (change_block change p bs) ≡ Some (change b)
find-changed change same p b [] e = absurd (none-some b e)
find-changed change same p b (c ∷ cs) e =
    ⊎_elim
    (λ t.
    ap (find_block p) (ap (λ v. cond v (change c ∷ cs) (c ∷ change_block change p cs)) t)
    ∙ (ap (λ v. cond v (Some (change c)) (find_block p cs)) (same c p ∙ t) ∙ ap (λ d. Some (change d)) (first_at p b c cs e t)))
    (λ t.
    ap (find_block p) (ap (λ v. cond v (change c ∷ cs) (c ∷ change_block change p cs)) t)
    ∙ (ap (λ v. cond v (Some c) (find_block p (change_block change p cs))) t ∙ find-changed change same p b cs (later_at p b c cs e t)))
    (cases_Bool (is_at p c))
