-- The lines of what is shown, one object after another.
use Rattle.vc_base.proofs.Common.{◌≡◌, ℕ, List, [], ◌∷◌, ◌++◌, sym, ap, ◌∙◌, append_assoc, append-nil}
use Rattle.vc_paths.specs.Visible.{Seen}
use Rattle.vc_algebra.proofs.LoopLemmas.{Shows}
use Rattle.ranges.specs.Showing.{object_lines}

-- with the line of the first, those of the rest are left
pub line-put : (done bytes : List ℕ) (xs ys : List (Seen ℕ)) → Shows xs ys bytes → (done ++ (bytes ++ 10 ∷ [])) ++ object_lines ys ≡ done ++ object_lines xs
line-put done bytes xs ys s =
    append_assoc done (bytes ++ 10 ∷ []) (object_lines ys)
    ∙ ap (λ z. done ++ ((z ++ 10 ∷ []) ++ object_lines ys)) (sym s.same)
    ∙ ap (λ zs. done ++ object_lines zs) (sym s.first)

-- and at the end none
pub lines-end : (done : List ℕ) (xs : List (Seen ℕ)) → xs ≡ [] → done ≡ done ++ object_lines xs
lines-end done xs none = sym (ap (λ zs. done ++ object_lines zs) none ∙ append-nil done)
