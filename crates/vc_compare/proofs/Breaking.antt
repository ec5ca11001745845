-- A line that is broken off.
use Rattle.vc_base.proofs.Common.{◌≡◌, ℕ, List, ◌++◌, Option, Some, Ok, Err, IfSome, OnErr, Result, Rose, take, subst}
use Rattle.vc_base.specs.Told.{Broke}

pub broke-of : {T E : Type 0} (r : Result T E) (failures failures' : ℕ) (before after : Option (List ℕ)) (piece line : List ℕ) → piece ≡ line → OnErr r (Rose failures failures') → IfSome before (λ w. (k : ℕ) × (after ≡ Some (w ++ take k piece))) → OnErr r (Broke failures failures' before after line)
broke-of (Ok done) failures failures' before after piece line same cause front = tt
broke-of (Err failed) failures failures' before after piece line same cause front =
    (cause, subst (λ (bs : List ℕ). IfSome before (λ w. (k : ℕ) × (after ≡ Some (w ++ take k bs)))) same front)
