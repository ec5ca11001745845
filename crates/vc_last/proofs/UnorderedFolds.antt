-- Folds that don't ask for an order.
use Rattle.vc_base.proofs.Common.{◌≡◌, ℕ, ◌+◌, min, max, Bool, true, false, ltb, List, [], ◌∷◌, ◌++◌, Some, None, fold, All, filter, Option, find, sym, refl, ap, ◌∙◌, subst, ⊎_elim, append-nil, arith, length-append, ltb-false, ltb-true, cases_Bool, All-head, All-tail, sum_by-append, lesser_by}
use Rattle.vc_seg.specs.declared.tally.Tally.{Tally}
use Rattle.std.proofs.lemmas.List.Sums.{fold-append}
use Rattle.vc_seg.specs.Tally.{HasRoom, tally_with, tallied_all}
use Rattle.vc_seg.proofs.Tallies.{tallied_all-bytes, tallied_all-count}

module _ {S A : Type 0} (f : S → A → S) (swap : (s : S) (x y : A) → f (f s x) y ≡ f (f s y) x) where
  -- the last item may come first
  pub fold-last : (s : S) (xs : List A) (x : A) → fold f s (xs ++ x ∷ []) ≡ fold f (f s x) xs
  fold-last s [] x = refl
  fold-last s (y ∷ ys) x = fold-last (f s y) ys x ∙ ap (λ t. fold f t ys) (swap s y x)

abbrev least : Option ℕ → ℕ → ℕ
least None x = x
least (Some l) x = min l x

lesser-is : (o : Option ℕ) (x : ℕ) → lesser_by (λ a. a) o x ≡ Some (least o x)
lesser-is None x = refl
lesser-is (Some l) x =
    ⊎_elim
    (λ (t : ltb x l ≡ true). let lt = ltb-true x l t in rw t (ap Some (omega (arith, lt))))
    (λ (t : ltb x l ≡ false). let le = ltb-false x l t in rw t (ap Some (omega (arith, le))))
    (cases_Bool (ltb x l))

least-swap : (o : Option ℕ) (x y : ℕ) → min (least o x) y ≡ min (least o y) x
least-swap None x y = omega arith
least-swap (Some l) x y = omega arith

pub lesser-swap : (o : Option ℕ) (x y : ℕ) → lesser_by (λ a. a) (lesser_by (λ a. a) o x) y ≡ lesser_by (λ a. a) (lesser_by (λ a. a) o y) x
lesser-swap o x y =
    ap (λ p. lesser_by (λ a. a) p y) (lesser-is o x) ∙ (lesser-is (Some (least o x)) y ∙ (ap Some (least-swap o x y) ∙ sym (ap (λ p. lesser_by (λ a. a) p x) (lesser-is o y) ∙ lesser-is (Some (least o y)) x)))

pub filter-push : {A : Type 0} (p : A → Bool) (xs : List A) (x : A) → filter p (xs ++ x ∷ []) ≡ filter p xs ++ filter p (x ∷ [])
filter-push p [] x = refl
filter-push p (y ∷ ys) x =
    ⊎_elim
    (λ (t : p y ≡ true). rw t (ap (λ zs. y ∷ zs) (filter-push p ys x)))
    (λ (t : p y ≡ false). rw t (filter-push p ys x))
    (cases_Bool (p y))

-- the least of numbers above one, with the last taken first
pub least-last : (after : ℕ) (o : Option ℕ) (xs : List ℕ) (x : ℕ) → fold (lesser_by (λ a. a)) o (filter (λ a. ltb after a) (xs ++ x ∷ [])) ≡ fold (lesser_by (λ a. a)) (fold (lesser_by (λ a. a)) o (filter (λ a. ltb after a) (x ∷ []))) (filter (λ a. ltb after a) xs)
least-last after o xs x =
    ap (fold (lesser_by (λ a. a)) o) (filter-push (λ a. ltb after a) xs x)
    ∙ ⊎_elim
    (λ (t : ltb after x ≡ true). rw t (fold-last (lesser_by (λ a. a)) lesser-swap o (filter (λ a. ltb after a) xs) x))
    (λ (t : ltb after x ≡ false). rw t (ap (fold (lesser_by (λ a. a)) o) (append-nil (filter (λ a. ltb after a) xs))))
    (cases_Bool (ltb after x))

tally-swap : (t : Tally) (x y : ℕ) → tally_with (tally_with t x) y ≡ tally_with (tally_with t y) x
tally-swap t x y =
    let bytes : t.bytes + x + y ≡ t.bytes + y + x = omega arith in
    let most : max (max t.most x) y ≡ max (max t.most y) x = omega arith in
    λ i. record { count = t.count + 1 + 1; bytes = bytes i; most = most i }

pub tally-last : (t : Tally) (xs : List ℕ) (x : ℕ) → tallied_all t (xs ++ x ∷ []) ≡ tallied_all (tally_with t x) xs
tally-last t xs x = fold-last tally_with tally-swap t xs x

-- the first that passes, where no other one does
pub find-last-none : {A : Type 0} (p : A → Bool) (xs : List A) (x : A) → p x ≡ false → find p (xs ++ x ∷ []) ≡ find p xs
find-last-none p [] x miss = rw miss refl
find-last-none p (y ∷ ys) x miss =
    ⊎_elim
    (λ (t : p y ≡ true). rw t refl)
    (λ (t : p y ≡ false). rw t (find-last-none p ys x miss))
    (cases_Bool (p y))

pub find-last-one : {A : Type 0} (p : A → Bool) (xs : List A) (x : A) → p x ≡ true → All (λ y. p y ≡ false) xs → find p (xs ++ x ∷ []) ≡ Some x
find-last-one p [] x hit h = rw hit refl
find-last-one {A = A} p (y ∷ ys) x hit h = let P : A → Type 0 = λ z. p z ≡ false in rw (All-head P y ys h) (find-last-one p ys x hit (All-tail P y ys h))

pub tally-swapped : (t : Tally) (xs ys : List ℕ) → tallied_all t (xs ++ ys) ≡ tallied_all (tallied_all t ys) xs
tally-swapped t xs [] = ap (tallied_all t) (append-nil xs)
tally-swapped t xs (y ∷ ys) =
    fold-append tally_with t xs (y ∷ ys) ∙ (ap (λ u. fold tally_with u ys) (sym (fold-append tally_with t xs (y ∷ [])) ∙ tally-last t xs y) ∙ (sym (fold-append tally_with (tally_with t y) xs ys) ∙ tally-swapped (tally_with t y) xs ys))

pub room-part : (t : Tally) (xs ys : List ℕ) → HasRoom t (xs ++ ys) → HasRoom t ys
room-part t xs ys h =
    record { count = omega (arith, h.count, length-append xs ys); bytes = omega (arith, h.bytes, sum_by-append (λ (m : ℕ). m) xs ys) }

pub room-swapped : (t : Tally) (xs ys : List ℕ) → HasRoom t (xs ++ ys) → HasRoom (tallied_all t ys) xs
room-swapped t xs ys h =
    record {
      count = omega (arith, h.count, length-append xs ys, tallied_all-count t ys);
      bytes = omega (arith, h.bytes, sum_by-append (λ (m : ℕ). m) xs ys, tallied_all-bytes t ys);
    }

-- one step back: what is left, and the tally with what was last
pub step-room : (t t' : Tally) (all xs ys : List ℕ) → all ≡ xs ++ ys → t' ≡ tallied_all t ys → HasRoom t all → HasRoom t' xs
step-room t t' all xs ys e is h = subst (λ (u : Tally). HasRoom u xs) (sym is) (room-swapped t xs ys (subst (HasRoom t) e h))

pub step-rest : (t t' : Tally) (all xs ys : List ℕ) → all ≡ xs ++ ys → t' ≡ tallied_all t ys → tallied_all t' xs ≡ tallied_all t all
step-rest t t' all xs ys e is = ap (λ (u : Tally). tallied_all u xs) is ∙ (sym (tally-swapped t xs ys) ∙ ap (tallied_all t) (sym e))

pub step-part : (t : Tally) (all xs ys : List ℕ) → all ≡ xs ++ ys → HasRoom t all → HasRoom t ys
step-part t all xs ys e h = room-part t xs ys (subst (HasRoom t) e h)
