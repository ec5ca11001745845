-- What is in a list, by recursion on it.
use Rattle.std.proofs.Common.{◌≡◌, ◌≢◌, ℕ, zero, suc, ◌<◌, ◌⊎◌, List, [], ◌∷◌, ◌++◌, length, get_or, map, All, AllPairs, Any, Contains, refl, sym, ap, ◌∙◌, subst, inl, inr, ⊎_elim, arith}
use Rattle.std.specs.List.{flat_map}
use Rattle.std.proofs.lemmas.List.Elements.{All-nil, All-cons, All-head, All-tail, All-contains, All-contains_itself, Contains-get_or}

abbrev pub Member : {X : Type 0} → X → List X → Type 0
Member x [] = ⊥
Member x (y ∷ ys) = (x ≡ y) ⊎ Member x ys

-- R holds of each element and each later one
abbrev pub Pairwise : {X : Type 0} → (X → X → Type 0) → List X → Type 0
Pairwise R [] = Unit {0}
Pairwise R (x ∷ xs) = ((y : _) → Member y xs → R x y) × Pairwise R xs

pub All-at_member : {X : Type 0} (P : X → Type 0) (xs : List X) (x : X) → All P xs → Member x xs → P x
All-at_member P [] x all m = absurd m
All-at_member P (y ∷ ys) x all (inl e) = subst P (sym e) (All-head P y ys all)
All-at_member P (y ∷ ys) x all (inr m) = All-at_member P ys x (All-tail P y ys all) m

pub All-from_members : {X : Type 0} (P : X → Type 0) (xs : List X) → ((x : X) → Member x xs → P x) → All P xs
All-from_members P [] each = All-nil P
All-from_members P (y ∷ ys) each = All-cons P y ys (each y (inl refl)) (All-from_members P ys (λ x m. each x (inr m)))

pub Member-from_Contains : {X : Type 0} (xs : List X) (x : X) → Contains xs x → Member x xs
Member-from_Contains xs x found = All-contains (λ y. Member y xs) xs x (All-from_members (λ y. Member y xs) xs (λ y m. m)) found

pub Contains-from_Member : {X : Type 0} (xs : List X) (x : X) → Member x xs → Contains xs x
Contains-from_Member xs x m = All-at_member (Contains xs) xs x (All-contains_itself xs) m

-- an element of which P holds
abbrev pub Some_of : {X : Type 0} → (X → Type 0) → List X → Type 0
Some_of {X} P xs = (x : X) × Member x xs × P x

pub Some_of-from_Any : {X : Type 0} (P : X → Type 0) (xs : List X) → Any P xs → Some_of P xs
Some_of-from_Any P xs (k, x, within, same, holds) = (x, Member-from_Contains xs x (k, within, same), holds)

pub Any-from_member : {X : Type 0} (P : X → Type 0) (xs : List X) (x : X) → Member x xs → P x → Any P xs
Any-from_member P xs x m holds = let at = Contains-from_Member xs x m in (at.0, x, at.1, at.2, holds)

pub Pairwise-from_AllPairs : {X : Type 0} (R : X → X → Type 0) (xs : List X) → AllPairs R xs → Pairwise R xs
Pairwise-from_AllPairs R [] all = tt
Pairwise-from_AllPairs R (x ∷ xs) all = (
  (λ y m. All-at_member (R x) xs y (λ k d within. all 0 (suc k) d (omega arith) (omega (arith, within))) m),
  Pairwise-from_AllPairs R xs (λ i j d before within. all (suc i) (suc j) d (omega (arith, before)) (omega (arith, within))),
)

-- two segments of one number are one
pub same_segment : (xs : List (ℕ × ℕ)) (s t : ℕ × ℕ) → Pairwise (λ a b. a.0 ≢ b.0) xs → Member s xs → Member t xs → s.0 ≡ t.0 → s ≡ t
same_segment [] s t own ms mt same = absurd ms
same_segment (x ∷ xs) s t own (inl es) (inl et) same = es ∙ sym et
same_segment (x ∷ xs) s t own (inl es) (inr mt) same = absurd (own.0 t mt (ap (λ r. r.0) (sym es) ∙ same))
same_segment (x ∷ xs) s t own (inr ms) (inl et) same = absurd (own.0 s ms (ap (λ r. r.0) (sym et) ∙ sym same))
same_segment (x ∷ xs) s t own (inr ms) (inr mt) same = same_segment xs s t own.1 ms mt same

pub Member-append_cases : {X : Type 0} (xs ys : List X) (x : X) → Member x (xs ++ ys) → Member x xs ⊎ Member x ys
Member-append_cases [] ys x m = inr m
Member-append_cases (y ∷ xs) ys x (inl e) = inl (inl e)
Member-append_cases (y ∷ xs) ys x (inr m) = ⊎_elim (λ u. inl (inr u)) (λ u. inr u) (Member-append_cases xs ys x m)

pub Member-append_left : {X : Type 0} (xs ys : List X) (x : X) → Member x xs → Member x (xs ++ ys)
Member-append_left [] ys x m = absurd m
Member-append_left (y ∷ xs) ys x (inl e) = inl e
Member-append_left (y ∷ xs) ys x (inr m) = inr (Member-append_left xs ys x m)

pub Member-append_right : {X : Type 0} (xs ys : List X) (x : X) → Member x ys → Member x (xs ++ ys)
Member-append_right [] ys x m = m
Member-append_right (y ∷ xs) ys x m = inr (Member-append_right xs ys x m)

pub Member-flat_map : {X A : Type 0} (f : X → List A) (xs : List X) (a : A) → Member a (flat_map f xs) → Some_of (λ x. Member a (f x)) xs
Member-flat_map f [] a m = absurd m
Member-flat_map f (x ∷ xs) a m =
    ⊎_elim
    (λ u. (x, inl refl, u))
    (λ u. let later = Member-flat_map f xs a u in (later.0, inr later.1, later.2))
    (Member-append_cases (f x) (flat_map f xs) a m)

pub flat_map-member : {X A : Type 0} (f : X → List A) (xs : List X) (a : A) (x : X) → Member x xs → Member a (f x) → Member a (flat_map f xs)
flat_map-member f [] a x m u = absurd m
flat_map-member f (y ∷ xs) a x (inl e) u = Member-append_left (f y) (flat_map f xs) a (subst (λ z. Member a (f z)) e u)
flat_map-member f (y ∷ xs) a x (inr m) u = Member-append_right (f y) (flat_map f xs) a (flat_map-member f xs a x m u)

Member-get_or : {X : Type 0} (xs : List X) (k : ℕ) (d : X) → k < length xs → Member (get_or xs k d) xs
Member-get_or xs k d within = Member-from_Contains xs (get_or xs k d) (Contains-get_or xs k d within)

pub AllPairs-from_Pairwise : {X : Type 0} (R : X → X → Type 0) (xs : List X) → Pairwise R xs → AllPairs R xs
AllPairs-from_Pairwise R [] each i j d before within = absurd (omega (arith, before, within))
AllPairs-from_Pairwise R (x ∷ xs) each zero zero d before within = absurd (omega (arith, before))
AllPairs-from_Pairwise R (x ∷ xs) each zero (suc j) d before within = each.0 (get_or xs j d) (Member-get_or xs j d (omega (arith, within)))
AllPairs-from_Pairwise R (x ∷ xs) each (suc i) zero d before within = absurd (omega (arith, before))
AllPairs-from_Pairwise R (x ∷ xs) each (suc i) (suc j) d before within = AllPairs-from_Pairwise R xs each.1 i j d (omega (arith, before)) (omega (arith, within))

pub Pairwise-append : {X : Type 0} (R : X → X → Type 0) (xs ys : List X) → Pairwise R xs → Pairwise R ys → ((x y : X) → Member x xs → Member y ys → R x y) → Pairwise R (xs ++ ys)
Pairwise-append R [] ys one two across = two
Pairwise-append R (x ∷ xs) ys one two across = (
  (λ y m. ⊎_elim (λ u. one.0 y u) (λ u. across x y (inl refl) u) (Member-append_cases xs ys y m)),
  Pairwise-append R xs ys one.1 two (λ a b ma mb. across a b (inr ma) mb),
)

Member-map : {X Y : Type 0} (f : X → Y) (xs : List X) (y : Y) → Member y (map f xs) → Some_of (λ x. f x ≡ y) xs
Member-map f [] y m = absurd m
Member-map f (x ∷ xs) y (inl e) = (x, inl refl, sym e)
Member-map f (x ∷ xs) y (inr m) = let later = Member-map f xs y m in (later.0, inr later.1, later.2)

pub Pairwise-map : {X Y : Type 0} (R : Y → Y → Type 0) (f : X → Y) (xs : List X) → Pairwise (λ a b. R (f a) (f b)) xs → Pairwise R (map f xs)
Pairwise-map R f [] each = tt
Pairwise-map R f (x ∷ xs) each = (
  (λ y m. let at = Member-map f xs y m in subst (R (f x)) at.2 (each.0 at.0 at.1)),
  Pairwise-map R f xs each.1,
)
