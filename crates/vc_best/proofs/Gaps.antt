-- What is true of each of some runs is true of the least.
use Rattle.vc_base.proofs.Common.{◌≡◌, List, [], ◌∷◌, Some, None, fold, All, Option, flat_map, refl, subst, ⊎_elim, cases_Bool, All-append, All-head, All-nil, All-tail, Run, least}
use Rattle.vc_model.specs.Gap.{comes_before}
use Rattle.vc_model.specs.Place.{lesser}

pub All-flat_map : {A B : Type 0} (P : B → Type 0) (f : A → List B) (xs : List A) → All (λ x. All P (f x)) xs → All P (flat_map f xs)
All-flat_map P f [] h = All-nil P
All-flat_map {A = A} P f (x ∷ xs) h =
    let Q : A → Type 0 = λ y. All P (f y) in
    All-append P (f x) (flat_map f xs) (All-head Q x xs h) (All-flat_map P f xs (All-tail Q x xs h))

lesser-keeps : (P : Run → Type 0) (best : Option Run) (x b : Run) → ((c : Run) → best ≡ Some c → P c) → P x → lesser best x ≡ Some b → P b
lesser-keeps P None x b h p e = let q : x ≡ b = cc in subst P q p
lesser-keeps P (Some l) x b h p e =
    ⊎_elim
    (λ t. let q : Some x ≡ Some b = rw t at e in let r : x ≡ b = cc in subst P r p)
    (λ t. let q : Some l ≡ Some b = rw t at e in h b q)
    (cases_Bool (comes_before x l))

-- what is true of each gap is true of the least
pub least-from : (P : Run → Type 0) (best : Option Run) (gs : List Run) (g : Run) → ((c : Run) → best ≡ Some c → P c) → All P gs → fold lesser best gs ≡ Some g → P g
least-from P best [] g h all e = h g e
least-from P best (x ∷ xs) g h all e =
    least-from P (lesser best x) xs g (λ b q. lesser-keeps P best x b h (All-head P x xs all) q) (All-tail P x xs all) e

fold-lesser-Some : (best : Run) (gs : List Run) → fold lesser (Some best) gs ≡ None → ⊥
fold-lesser-Some best [] e = cc
fold-lesser-Some best (x ∷ xs) e =
    ⊎_elim
    (λ t. fold-lesser-Some x xs (rw t at e))
    (λ t. fold-lesser-Some best xs (rw t at e))
    (cases_Bool (comes_before x best))

-- where there is no least, there is none
pub least-None : (gs : List Run) → least gs ≡ None → gs ≡ []
least-None [] e = refl
least-None (x ∷ xs) e = absurd (fold-lesser-Some x xs e)
