-- The first address of a list that passes a test.
use Rattle.vc_base.proofs.Common.{◌≡◌, ℕ, Bool, true, false, List, [], ◌∷◌, Some, find, refl, subst, contains}
use Rattle.vc_base.proofs.Members.{within-head, within-tail}
use Rattle.vc_base.proofs.Options.{some_same}

within_by : (test : ℕ → Bool) (x : ℕ) (xs : List ℕ) (m : ℕ) (t : Bool) → test x ≡ t → (find test xs ≡ Some m → contains xs m ≡ true) → find test (x ∷ xs) ≡ Some m → contains (x ∷ xs) m ≡ true
within_by test x xs m true t rest e = let h : Some x ≡ Some m = rw t at e in subst (λ z. contains (x ∷ xs) z ≡ true) (some_same h) (within-head x xs)
within_by test x xs m false t rest e = within-tail x xs m (rest (rw t at e))

-- it is in the list
pub found-within : (test : ℕ → Bool) (xs : List ℕ) (m : ℕ) → find test xs ≡ Some m → contains xs m ≡ true
found-within test [] m e = cc
found-within test (x ∷ xs) m e = within_by test x xs m (test x) refl (found-within test xs m) e
