-- What a sink tells after a piece was written to it, or a front of the piece.
use Rattle.std.specs.Prelude.{◌≡◌, ℕ, List, ◌++◌, ◌⊎◌, Option, Some, IfSome, take}
use Rattle.vc_model.specs.Count.{Rose}

-- what a sink told, followed by a piece
abbrev pub Told : Option (List ℕ) → Option (List ℕ) → List ℕ → Type 0
Told before after piece = IfSome before (λ w. after ≡ Some (w ++ piece))

-- a front of a piece was written, and a write failed
abbrev pub Broke : ℕ → ℕ → Option (List ℕ) → Option (List ℕ) → List ℕ → Type 0
Broke failures failures' before after piece =
    Rose failures failures' × IfSome before (λ w. (k : ℕ) × (after ≡ Some (w ++ take k piece)))

-- a piece was written once: all of it, or a front of it and a write failed
abbrev pub Tried : ℕ → ℕ → Option (List ℕ) → Option (List ℕ) → List ℕ → Type 0
Tried failures failures' before after piece =
    Told before after piece ⊎ Broke failures failures' before after piece
