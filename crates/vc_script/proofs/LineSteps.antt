-- A line without its final CR.
use Rattle.vc_base.proofs.Common.{◌≡◌, ℕ, true, false, cond, eqb, List, [], ◌∷◌, length, take, refl, ap}
use Rattle.vc_script.specs.Lines.{without_cr}

-- what is left stands at the front
pub take-without_cr : (xs : List ℕ) → take (length (without_cr xs)) xs ≡ without_cr xs
take-without_cr [] = refl
take-without_cr (b ∷ []) =
    elim (eqb b 13) as (λ t. take (length (cond t [] (b ∷ []))) (b ∷ []) ≡ cond t [] (b ∷ [])) [ true ↦ refl | false ↦ refl ]
take-without_cr (b ∷ c ∷ cs) = ap (λ bs. b ∷ bs) (take-without_cr (c ∷ cs))

pub ruleset line_steps = (take-without_cr)
