-- What want of memory leaves of a discipline that was asked.
use Rattle.vc_base.proofs.Common.{◌≡◌, ℕ, List, ◌++◌, sym, ap, ◌∙◌, Discipline, NoneRefused}
use Rattle.std.proofs.Common.{⊎_elim, inl, inr}
use Rattle.vc_model.specs.Discipline.{LentNothing}

-- nothing was refused
pub nothing-refused : (old new : Discipline) → LentNothing old new → NoneRefused old new
nothing-refused old new h =
    record { kept = h.kept; faults = ⊎_elim (λ (e : new ≡ old). inl (ap (λ (d : Discipline). d.faults) e)) (λ x. inr x) h.same }

-- what is out stays, where the segments do
pub nothing-out : (old new : Discipline) (segments segments' : List (ℕ × ℕ)) → segments' ≡ segments → LentNothing old new → (rest : List (ℕ × ℕ)) → old.out ≡ rest ++ segments → new.out ≡ rest ++ segments'
nothing-out old new segments segments' same h = λ rest at. h.out ∙ (at ∙ ap (λ (x : List (ℕ × ℕ)). rest ++ x) (sym same))
