-- The least of some numbers above one.
use Rattle.vc_base.proofs.Common.{◌≡◌, ℕ, ◌<◌, ◌≤◌, true, false, cond, ltb, List, [], ◌∷◌, get_or, IfSome, Some, None, fold, All, Contains, filter, Option, sym, refl, ap, subst, ⊎_elim, arith, lt-ltb, ltb-false, ltb-true, cases_Bool, cases_lt, All-cons, All-nil, least_above, lesser_by}
use Rattle.vc_seg.proofs.LayoutWalks.{least_above-among}

-- it is above that, and no other is less
pub record IsLeast (after : ℕ) (ns : List ℕ) (n : ℕ) : Type 0 where
  pub above : after < n
  pub least : All (λ m. after < m → n ≤ m) ns

-- there is one, and it is at most a number
abbrev IsAtMost : Option ℕ → ℕ → Type 0
IsAtMost None m = ⊥
IsAtMost (Some n) m = n ≤ m

-- the lesser of two, the one so far and one that is above
lesser-low : (o : Option ℕ) (n m : ℕ) → IsAtMost o m → IsAtMost (lesser_by (λ a. a) o n) m
lesser-low None n m h = absurd h
lesser-low (Some l) n m h =
    ⊎_elim
    (λ (t : ltb n l ≡ true). let less = ltb-true n l t in rw t (omega (arith, less, h)))
    (λ (t : ltb n l ≡ false). rw t h)
    (cases_Bool (ltb n l))

lesser-own : (o : Option ℕ) (n : ℕ) → IsAtMost (lesser_by (λ a. a) o n) n
lesser-own None n = omega arith
lesser-own (Some l) n =
    ⊎_elim
    (λ (t : ltb n l ≡ true). rw t (omega arith))
    (λ (t : ltb n l ≡ false). rw t (ltb-false n l t))
    (cases_Bool (ltb n l))

lesser-above : (after : ℕ) (o : Option ℕ) (n : ℕ) → after < n → IfSome o (λ l. after < l) → IfSome (lesser_by (λ a. a) o n) (λ l. after < l)
lesser-above after None n up h = up
lesser-above after (Some l) n up h = elim (ltb n l) as (λ b. IfSome (cond b (Some n) (Some l)) (λ k. after < k)) [ true ↦ up | false ↦ h ]

-- the least so far, taken on over others
abbrev least_on : ℕ → Option ℕ → List ℕ → Option ℕ
least_on after o ns = fold (lesser_by (λ a. a)) o (filter (λ a. ltb after a) ns)

-- what each step keeps is kept by all
on-keeps : (after : ℕ) (P : Option ℕ → Type 0) → ((o : Option ℕ) (n : ℕ) → after < n → P o → P (lesser_by (λ a. a) o n)) → (o : Option ℕ) (ns : List ℕ) → P o → P (least_on after o ns)
on-keeps after P step o [] h = h
on-keeps after P step o (n ∷ ns) h =
    ⊎_elim
    (λ (t : ltb after n ≡ true). rw t (on-keeps after P step (lesser_by (λ a. a) o n) ns (step o n (ltb-true after n t) h)))
    (λ (t : ltb after n ≡ false). rw t (on-keeps after P step o ns h))
    (cases_Bool (ltb after n))

on-each : (after : ℕ) (o : Option ℕ) (ns : List ℕ) → All (λ m. after < m → IsAtMost (least_on after o ns) m) ns
on-each after o [] = All-nil (λ m. after < m → IsAtMost o m)
on-each after o (n ∷ ns) =
    All-cons (λ m. after < m → IsAtMost (least_on after o (n ∷ ns)) m) n ns
    (λ up. rw (lt-ltb after n up) (on-keeps after (λ p. IsAtMost p n) (λ p m _ low. lesser-low p m n low) (lesser_by (λ a. a) o n) ns (lesser-own o n)))
    (⊎_elim
    (λ (t : ltb after n ≡ true). rw t (on-each after (lesser_by (λ a. a) o n) ns))
    (λ (t : ltb after n ≡ false). rw t (on-each after o ns))
    (cases_Bool (ltb after n)))

-- what is told of the one that is found
pub least-found : (after : ℕ) (ns : List ℕ) (n : ℕ) → least_above (λ a. a) after ns ≡ Some n → IsLeast after ns n
least-found after ns n e = record { above = subst (λ (o : Option ℕ). IfSome o (λ x. after < x)) e (on-keeps after (λ o. IfSome o (λ x. after < x)) (lesser-above after) None ns tt); least = subst (λ o. All (λ m. after < m → IsAtMost o m) ns) e (on-each after None ns) }

pub least-none : (after : ℕ) (ns : List ℕ) → least_above (λ a. a) after ns ≡ None → All (λ m. m ≤ after) ns
least-none after ns e =
    λ k d lt.
    ⊎_elim
    (λ (up : after < get_or ns k d). absurd (subst (λ o. IsAtMost o (get_or ns k d)) e (on-each after None ns k d lt up)))
    (λ (low : get_or ns k d ≤ after). low)
    (cases_lt after (get_or ns k d))

-- what is the least is found
is-found : (after : ℕ) (ns : List ℕ) (n : ℕ) (o : Option ℕ) → IsLeast after ns n → Contains ns n → least_above (λ a. a) after ns ≡ o → o ≡ Some n
is-found after ns n None h among e =
    absurd (subst (λ x. IsAtMost None x) among.2 (subst (λ o. IsAtMost o (get_or ns among.0 n)) e (on-each after None ns among.0 n among.1 (subst (λ x. after < x) (sym among.2) h.above))))
is-found after ns n (Some m) h among e =
    let f = least-found after ns m e in
    let there = least_above-among after ns m e in
    let down : m ≤ n = subst (λ x. m ≤ x) among.2 (f.least among.0 n among.1 (subst (λ x. after < x) (sym among.2) h.above)) in
    let up : n ≤ m = subst (λ x. n ≤ x) there.2 (h.least there.0 m there.1 (subst (λ x. after < x) (sym there.2) f.above)) in
    let same : m ≡ n = omega (arith, down, up) in
    ap Some same

pub least-is : (after : ℕ) (ns : List ℕ) (n : ℕ) → IsLeast after ns n → Contains ns n → least_above (λ a. a) after ns ≡ Some n
least-is after ns n h among = is-found after ns n _ h among refl

no-found : (after : ℕ) (ns : List ℕ) (o : Option ℕ) → All (λ m. m ≤ after) ns → least_above (λ a. a) after ns ≡ o → o ≡ None
no-found after ns None h e = refl
no-found after ns (Some m) h e =
    let there = least_above-among after ns m e in
    let low : m ≤ after = subst (λ x. x ≤ after) there.2 (h there.0 m there.1) in
    absurd (omega (arith, low, (least-found after ns m e).above))

pub least-no : (after : ℕ) (ns : List ℕ) → All (λ m. m ≤ after) ns → least_above (λ a. a) after ns ≡ None
least-no after ns h = no-found after ns _ h refl
