-- The last pair of a list that is equal to a given one.
use Rattle.vc_base.proofs.Common.{◌≡◌, ℕ, zero, suc, ◌+◌, ◌-◌, ◌<◌, Bool, true, false, ◌||◌, ◌∙◌, eqb, eqb-true, and_parts, List, [], ◌∷◌, length, map, get_or, drop, remove, set, refl, sym, ap, arith, Option, Some, None, option_map, list_any, same_pair, without_last}
use Rattle.std.specs.List.{last_or, slice_get}
use Rattle.std.proofs.lemmas.List.Sums.{sum_by-remove, sum_by-set}
use Rattle.vc_model.specs.Discipline.{extend_last}
use Rattle.vc_seg.specs.Budget.{bytes_of}

-- an element that passes is found
pub list_any-at : {X : Type 0} (test : X → Bool) (xs : List X) (i : ℕ) (d : X) → i < length xs → test (get_or xs i d) ≡ true → list_any test xs ≡ true
list_any-at test [] i d within passes = absurd (omega arith)
list_any-at test (y ∷ ys) zero d within passes = let passes_here : test y ≡ true = passes in rw passes_here refl
list_any-at test (y ∷ ys) (suc i) d within passes =
    elim (test y) as (λ b. (b || list_any test ys) ≡ true) [ true ↦ refl | false ↦ list_any-at test ys i d (omega arith) passes ]

-- the last equal pair is removed by its place
pub remove-last_pair : (p : ℕ × ℕ) (xs : List (ℕ × ℕ)) (i : ℕ) (d : ℕ × ℕ) → i < length xs → same_pair p (get_or xs i d) ≡ true → list_any (same_pair p) (drop (suc i) xs) ≡ false → remove xs i ≡ without_last p xs
remove-last_pair p [] i d within here after = absurd (omega arith)
remove-last_pair p (q ∷ qs) zero d within here after =
    let none : list_any (same_pair p) qs ≡ false = after in
    let same : same_pair p q ≡ true = here in
    rw (none, same) refl
remove-last_pair p (q ∷ qs) (suc i) d within here after =
    let found = list_any-at (same_pair p) qs i d (omega arith) here in
    rw found (ap (λ rest. q ∷ rest) (remove-last_pair p qs i d (omega arith) here after))

-- without the pair at a place the bytes are fewer by its own
pub less_one_pair : (xs : List (ℕ × ℕ)) (i : ℕ) → i < length xs → bytes_of (remove xs i) + (get_or xs i (0, 0)).1 ≡ bytes_of xs
less_one_pair xs i within = sum_by-remove (λ s. s.1) xs i (0, 0) within

same_pair-equal : (p q : ℕ × ℕ) → same_pair p q ≡ true → p ≡ q
same_pair-equal p q h =
    let parts = and_parts (eqb p.0 q.0) (eqb p.1 q.1) h in
    ap (λ (n : ℕ). let r : ℕ × ℕ = (n, p.1) in r) (eqb-true p.0 q.0 parts.0) ∙ ap (λ (n : ℕ). let r : ℕ × ℕ = (q.0, n) in r) (eqb-true p.1 q.1 parts.1)

-- the last equal pair gets more bytes by its place
pub set-last_pair : (p : ℕ × ℕ) (more : ℕ) (xs : List (ℕ × ℕ)) (i : ℕ) (d : ℕ × ℕ) → i < length xs → same_pair p (get_or xs i d) ≡ true → list_any (same_pair p) (drop (suc i) xs) ≡ false → set xs i (p.0, p.1 + more) ≡ extend_last p more xs
set-last_pair p more [] i d within here after = absurd (omega arith)
set-last_pair p more (q ∷ qs) zero d within here after =
    let none : list_any (same_pair p) qs ≡ false = after in
    let same : same_pair p q ≡ true = here in
    rw (none, same) (ap (λ (r : ℕ × ℕ). (r.0, r.1 + more) ∷ qs) (same_pair-equal p q same))
set-last_pair p more (q ∷ qs) (suc i) d within here after =
    let found = list_any-at (same_pair p) qs i d (omega arith) here in
    rw found (ap (λ rest. q ∷ rest) (set-last_pair p more qs i d (omega arith) here after))

-- with more in the pair at a place the bytes are more by as many
pub more_in_pair : (xs : List (ℕ × ℕ)) (i n size more : ℕ) → i < length xs → (get_or xs i (0, 0)).1 ≡ size → bytes_of (set xs i (n, size + more)) ≡ bytes_of xs + more
more_in_pair xs i n size more within here = let sum = sum_by-set (λ s. s.1) xs i (n, size + more) (0, 0) within in omega arith

-- the last of a list's images is the last one's image
pub last_or-map : {A B : Type 0} (f : A → B) (o : Option A) (xs : List A) → last_or (option_map f o) (map f xs) ≡ option_map f (last_or o xs)
last_or-map f o [] = refl
last_or-map f o (x ∷ xs) = last_or-map f (Some x) xs

-- the last one is the one behind all others
last_or-get : {A : Type 0} (o : Option A) (xs : List A) (k : ℕ) → length xs ≡ suc k → last_or o xs ≡ slice_get xs k
last_or-get o [] k long = absurd (omega (arith, long))
last_or-get o (x ∷ []) zero long = refl
last_or-get o (x ∷ []) (suc k) long = absurd (omega (arith, long))
last_or-get o (x ∷ y ∷ ys) zero long = absurd (omega (arith, long))
last_or-get o (x ∷ y ∷ ys) (suc k) long = last_or-get (Some x) (y ∷ ys) k (omega (arith, long))

pub last_or-some : {A : Type 0} (xs : List A) (x : A) → Some x ≡ slice_get xs (length xs - 1) → last_or None xs ≡ Some x
last_or-some [] x is = absurd (cc)
last_or-some (y ∷ ys) x is = last_or-get None (y ∷ ys) (length (y ∷ ys) - 1) (omega arith) ∙ sym is
