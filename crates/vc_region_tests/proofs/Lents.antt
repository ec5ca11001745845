-- What calls of a best region leave of its segments that are out.
use Rattle.vc_base.proofs.Common.{◌≡◌, ℕ, List, [], ◌++◌, sym, ap, ◌∙◌, subst, append-nil, Discipline, HasOut, Served, Layout}

-- a region with no segment has none out
pub lent-none : (out : List (ℕ × ℕ)) (r : Layout ℕ) → r.segments ≡ [] → (rest : List (ℕ × ℕ)) × (out ≡ rest ++ r.segments)
lent-none out r none = (out, subst (λ ss. out ≡ out ++ ss) (sym none) (sym (append-nil out)))

pub lent-served : (old new : Discipline) (s t : List (ℕ × ℕ)) (size : ℕ) → HasOut old s → Served old new s t size → HasOut new t
lent-served old new s t size h served = (h.0, served.out h.0 h.1)

-- the discipline and the segments stay
pub lent-same : (old new : Discipline) (s t : List (ℕ × ℕ)) → HasOut old s → new ≡ old → t ≡ s → HasOut new t
lent-same old new s t h d e = (h.0, ap (λ (x : Discipline). x.out) d ∙ (h.1 ∙ ap (λ ss. h.0 ++ ss) (sym e)))
