-- Among fewer dictionaries than there are numbers some number is free.
use Rattle.vc_base.proofs.Common.{◌≡◌, ℕ, zero, suc, ◌<◌, ◌≤◌, true, false, cond, ◌||◌, ◌≢◌, List, [], ◌∷◌, map, length, ◌==◌, Some, None, find, sym, refl, ap, ◌∙◌, ⊎_elim, arith, ne_eqb, Decides-eqb, cases_Bool, false≢true, or_parts, contains}

-- without the first that is this one
abbrev pub without : ℕ → List ℕ → List ℕ
without x [] = []
without x (y ∷ ys) = cond (y == x) ys (y ∷ without x ys)

length-without : (x : ℕ) (xs : List ℕ) → contains xs x ≡ true → length (without x xs) < length xs
length-without x [] has = absurd (false≢true has)
length-without x (y ∷ ys) has =
    ⊎_elim
    (λ e. let is = ap (λ b. length (cond b ys (y ∷ without x ys))) e in omega (arith, is))
    (λ e.
    let is = ap (λ b. length (cond b ys (y ∷ without x ys))) e in
    omega (arith, is, length-without x ys (sym (ap (λ b. b || contains ys x) e) ∙ has)))
    (cases_Bool (y == x))

still-there : (x k : ℕ) (xs : List ℕ) → contains xs k ≡ true → (x ≢ k) → contains (without x xs) k ≡ true
still-there x k [] has differ = has
still-there x k (y ∷ ys) has differ =
    ⊎_elim
    (λ e.
    let other : (y == k) ≡ false = ne_eqb y k (λ same. differ (sym ((Decides-eqb y x).0 e) ∙ same)) in
    ap (λ b. contains (cond b ys (y ∷ without x ys)) k) e ∙ (sym (ap (λ b. b || contains ys k) other) ∙ has))
    (λ e.
    ap (λ b. contains (cond b ys (y ∷ without x ys)) k) e
    ∙ ⊎_elim
    (λ own. ap (λ b. b || contains (without x ys) k) own)
    (λ other. ap (λ b. b || contains (without x ys) k) other ∙ still-there x k ys (sym (ap (λ b. b || contains ys k) other) ∙ has) differ)
    (cases_Bool (y == k)))
    (cases_Bool (y == x))

-- a list that has each of so many numbers has no fewer items
pub no-fewer : (n : ℕ) (xs : List ℕ) → ((k : ℕ) → k < n → contains xs k ≡ true) → n ≤ length xs
no-fewer zero xs all = omega arith
no-fewer (suc n) xs all =
    omega (arith, length-without n xs (all n (omega arith)), no-fewer n (without n xs) (λ k lt. still-there n k xs (all k (omega (arith, lt))) (λ same. omega (arith, lt, same))))

-- what no item passes isn't found
pub find-nothing : {A : Type 0} (f : A → ℕ) (n : ℕ) (xs : List A) → contains (map f xs) n ≡ false → find (λ x. f x == n) xs ≡ None
find-nothing f n [] none = refl
find-nothing f n (x ∷ xs) none =
    let parts = or_parts (f x == n) (contains (map f xs) n) none in
    ap (λ b. cond b (Some x) (find (λ y. f y == n) xs)) parts.0 ∙ find-nothing f n xs parts.1
