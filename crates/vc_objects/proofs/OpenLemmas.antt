-- A region that was opened has nothing out.
use Rattle.vc_base.proofs.Common.{◌≡◌, ℕ, List, [], ◌++◌, sym, subst, append-nil, Layout}

pub lent-none : (out : List (ℕ × ℕ)) (r : Layout ℕ) → r.segments ≡ [] → (rest : List (ℕ × ℕ)) × (out ≡ rest ++ r.segments)
lent-none out r none = (out, subst (λ ss. out ≡ out ++ ss) (sym none) (sym (append-nil out)))
