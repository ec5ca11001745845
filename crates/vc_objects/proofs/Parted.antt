-- Which holders a change of method keeps, and which it drops: each is one of them, no two are one, and none is both.
use Rattle.vc_base.proofs.Common.{◌≡◌, ℕ, ◌+◌, Bool, true, false, List, [], ◌∷◌, ◌++◌, length, if◌then◌else◌, sym, refl, ◌∙◌, subst, inl, inr, true≢false, append_assoc, arith, length-append, eqb_tells, Blocks, AreDistinct, contains, is_ordered, is_set}
use Rattle.vc_base.specs.declared.dict_method.DictMethod.{DictMethod}
use Rattle.vc_dtdisc.specs.Rules.{Rules}
use Rattle.vc_dtlist.proofs.HolderLemmas.{apart-append, distinct-remove}
use Rattle.vc_dtord.specs.Ordered.{is_less, order_with}
use Rattle.vc_base.proofs.Members.{apart-head, apart-tail, apart-cons, apart-front, apart-rest, apart-removed, within-head, within-tail, apart-either}
use Rattle.vc_dict.specs.Orders.{dropped_holders, dropped_by, has_match, kept_holders, kept_by, ordered_by, placed_each}
use Rattle.vc_dict.proofs.PassLemmas.{apart-placed, differs}
use Rattle.vc_dict.proofs.TurnedLemmas.{length-ordered, within_kept_by, within_ordered, within_dropped}

either_distinct : (t : Bool) (xs ys : List ℕ) → AreDistinct xs → AreDistinct ys → AreDistinct (if t then xs else ys)
either_distinct true xs ys h k = h
either_distinct false xs ys h k = k

-- in the order of a method no two are one
distinct_placed : (rules : Rules) (b : Blocks) (at : ℕ) (xs : List ℕ) → AreDistinct xs → contains xs at ≡ false → AreDistinct (order_with rules b at xs)
distinct_placed rules b at [] d h = (refl, tt)
distinct_placed rules b at (x ∷ xs) d h =
    either_distinct (is_less rules b at x) (at ∷ x ∷ xs) (x ∷ order_with rules b at xs) (h, d)
    (apart-placed rules b at xs x (λ e. apart-head x xs at h (sym e)) d.0, distinct_placed rules b at xs d.1 (apart-tail x xs at h))

distinct_each : (rules : Rules) (b : Blocks) (done xs : List ℕ) → AreDistinct done → AreDistinct xs → ((a : ℕ) → contains xs a ≡ true → contains done a ≡ false) → AreDistinct (placed_each rules b done xs)
distinct_each rules b done [] d e apart = d
distinct_each rules b done (x ∷ xs) d e apart =
    distinct_each rules b (order_with rules b x done) xs (distinct_placed rules b x done d (apart x (within-head x xs))) e.1
    (λ a h. apart-placed rules b x done a (differs xs a x h e.0) (apart a (within-tail x xs a h)))

distinct_ordered : (method : DictMethod) (rules : Rules) (b : Blocks) (xs : List ℕ) → AreDistinct xs → AreDistinct (ordered_by method rules b xs)
distinct_ordered method rules b xs d = either_distinct (is_ordered method) (placed_each rules b [] xs) xs (distinct_each rules b [] xs tt d (λ a h. refl)) d

distinct_dropped : (rules : Rules) (b : Blocks) (done xs : List ℕ) → AreDistinct xs → AreDistinct (dropped_holders rules b done xs)
distinct_dropped rules b done [] d = tt
distinct_dropped rules b done (x ∷ xs) d =
    either_distinct (has_match rules b done x) (x ∷ dropped_holders rules b done xs) (dropped_holders rules b (done ++ x ∷ []) xs)
    (within_dropped rules b done xs x d.0, distinct_dropped rules b done xs d.1) (distinct_dropped rules b (done ++ x ∷ []) xs d.1)

-- the kept ones
apart_kept : (rules : Rules) (b : Blocks) (done xs : List ℕ) (a : ℕ) → contains (done ++ xs) a ≡ false → contains (kept_holders rules b done xs) a ≡ false
apart_kept rules b done [] a h = apart-front done [] a h
apart_kept rules b done (x ∷ xs) a h =
    let front = apart-front done (x ∷ xs) a h in
    let rest = apart-rest done (x ∷ xs) a h in
    let one : contains (x ∷ []) a ≡ false = apart-cons x [] a (apart-head x xs a rest) refl in
    apart-either (has_match rules b done x) (kept_holders rules b done xs) (kept_holders rules b (done ++ x ∷ []) xs) a
    (apart_kept rules b done xs a (apart-append done xs a front (apart-tail x xs a rest)))
    (apart_kept rules b (done ++ x ∷ []) xs a (apart-append (done ++ x ∷ []) xs a (apart-append done (x ∷ []) a front one) (apart-tail x xs a rest)))

-- none is both
both_by : (ks gs ks' gs' : List ℕ) (x a : ℕ) (t : Bool) → contains ks x ≡ false
    → (contains gs a ≡ true → contains ks a ≡ false) → (contains gs' a ≡ true → contains ks' a ≡ false)
    → contains (if t then x ∷ gs else gs') a ≡ true → contains (if t then ks else ks') a ≡ false
both_by ks gs ks' gs' x a true here f g h = elim (eqb_tells x a) as (λ _. contains ks a ≡ false) [
  | inl same ↦ subst (λ z. contains ks z ≡ false) same.1 here
  | inr apart ↦ f (rw apart.0 at h)
]
both_by ks gs ks' gs' x a false here f g h = g h

none_both : (rules : Rules) (b : Blocks) (done xs : List ℕ) (a : ℕ) → AreDistinct (done ++ xs) → contains (dropped_holders rules b done xs) a ≡ true → contains (kept_holders rules b done xs) a ≡ false
none_both rules b done [] a d h = absurd (true≢false (sym h))
none_both rules b done (x ∷ xs) a d h =
    both_by (kept_holders rules b done xs) (dropped_holders rules b done xs) (kept_holders rules b (done ++ x ∷ []) xs) (dropped_holders rules b (done ++ x ∷ []) xs) x a (has_match rules b done x)
    (apart_kept rules b done xs x (apart-removed done xs x d))
    (none_both rules b done xs a (distinct-remove done xs x d))
    (none_both rules b (done ++ x ∷ []) xs a (subst AreDistinct (sym (append_assoc done (x ∷ []) xs)) d))
    h

-- together they are all
length_by : (t : Bool) (n x : ℕ) (ks gs ks' gs' : List ℕ) → length ks + length gs + 1 ≡ n → length ks' + length gs' ≡ n → length (if t then ks else ks') + length (if t then x ∷ gs else gs') ≡ n
length_by true n x ks gs ks' gs' e f = omega (arith, e)
length_by false n x ks gs ks' gs' e f = f

length_parted : (rules : Rules) (b : Blocks) (done xs : List ℕ) → length (kept_holders rules b done xs) + length (dropped_holders rules b done xs) ≡ length done + length xs
length_parted rules b done [] = refl
length_parted rules b done (x ∷ xs) =
    let one = length_parted rules b done xs in
    let two = length_parted rules b (done ++ x ∷ []) xs in
    let long : length (done ++ x ∷ []) ≡ length done + 1 = length-append done (x ∷ []) in
    length_by (has_match rules b done x) (length done + length (x ∷ xs)) x (kept_holders rules b done xs) (dropped_holders rules b done xs) (kept_holders rules b (done ++ x ∷ []) xs) (dropped_holders rules b (done ++ x ∷ []) xs)
    (omega (arith, one)) (omega (arith, two, long))

-- by the truth of a test on the method
set_apart : (t : Bool) (ks gs xs : List ℕ) (a : ℕ) → (contains gs a ≡ true → contains ks a ≡ false) → contains (if t then gs else []) a ≡ true → contains (if t then ks else xs) a ≡ false
set_apart true ks gs xs a f h = f h
set_apart false ks gs xs a f h = absurd (true≢false (sym h))

set_length : (t : Bool) (ks gs xs : List ℕ) → length ks + length gs ≡ length xs → length (if t then ks else xs) + length (if t then gs else []) ≡ length xs
set_length true ks gs xs e = e
set_length false ks gs xs e = omega arith

in_by : (p q : ℕ → Bool) (a : ℕ) (t : Bool) → q a ≡ t → (q a ≡ false → p a ≡ false) → p a ≡ true → q a ≡ true
in_by p q a true e w h = e
in_by p q a false e w h = absurd (true≢false (sym h ∙ w e))

out_by : (p q : ℕ → Bool) (a : ℕ) (t : Bool) → q a ≡ t → (q a ≡ true → p a ≡ false) → p a ≡ true → q a ≡ false
out_by p q a false e w h = e
out_by p q a true e w h = absurd (true≢false (sym h ∙ w e))

module _ (method : DictMethod) (rules : Rules) (b : Blocks) (xs : List ℕ) where
  -- some holders in the order of a method, those that it keeps, and those that it drops
  abbrev pub ordered : List ℕ
  ordered = ordered_by method rules b xs

  abbrev pub keeps : List ℕ
  keeps = kept_by method rules b ordered

  abbrev pub drops : List ℕ
  drops = dropped_by method rules b ordered

  pub apart-keeps : (a : ℕ) → contains xs a ≡ false → contains keeps a ≡ false
  apart-keeps a h = within_kept_by method rules b ordered a (within_ordered method rules b xs a h)

  pub apart-drops : (a : ℕ) → contains xs a ≡ false → contains drops a ≡ false
  apart-drops a h =
      apart-either (is_set method) (dropped_holders rules b [] ordered) [] a
      (within_dropped rules b [] ordered a (within_ordered method rules b xs a h)) refl

  pub within-keeps : (a : ℕ) → contains keeps a ≡ true → contains xs a ≡ true
  within-keeps a h = in_by (contains keeps) (contains xs) a (contains xs a) refl (apart-keeps a) h

  pub within-drops : (a : ℕ) → contains drops a ≡ true → contains xs a ≡ true
  within-drops a h = in_by (contains drops) (contains xs) a (contains xs a) refl (apart-drops a) h

  pub distinct-drops : AreDistinct xs → AreDistinct drops
  distinct-drops d =
      either_distinct (is_set method) (dropped_holders rules b [] ordered) []
      (distinct_dropped rules b [] ordered (distinct_ordered method rules b xs d)) tt

  pub keeps-apart : AreDistinct xs → (a : ℕ) → contains keeps a ≡ true → contains drops a ≡ false
  keeps-apart d a h =
      out_by (contains keeps) (contains drops) a (contains drops a) refl
      (set_apart (is_set method) (kept_holders rules b [] ordered) (dropped_holders rules b [] ordered) ordered a (none_both rules b [] ordered a (distinct_ordered method rules b xs d))) h

  pub length-parted : length keeps + length drops ≡ length xs
  length-parted =
      set_length (is_set method) (kept_holders rules b [] ordered) (dropped_holders rules b [] ordered) ordered (let e = length_parted rules b [] ordered in omega (arith, e)) ∙ length-ordered method rules b xs
