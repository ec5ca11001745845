-- An address that is 0 or names a busy extent, where it is not 0.
use Rattle.vc_base.proofs.Common.{◌≡◌, ℕ, ◌≤◌, Bool, true, false, ◌⊎◌, List, IfSome, IsTrue, Some, None, Option, option_map, sym, ◌∙◌, inl, inr, ⊎_elim, le_prop, ∥∥₁_elim, place_of, HasBlock}
use Rattle.vc_best.proofs.Common.{Addr, AreExtents, Bytes, IsBusy, layout_by, tiling}
use Rattle.vc_best.proofs.Found.{busy-of, has-of}
use Rattle.vc_best.proofs.Known.{cut-of}

pub busy-after : (segs : List Bytes) (a : ℕ) (r : Bool) → (a ≡ 0 → IsTrue r) → r ≡ false → (a ≡ 0) ⊎ IsBusy (tiling segs) a → IsBusy (tiling segs) a
busy-after segs a r shows none h = ⊎_elim (λ u. absurd (let yes : r ≡ true = shows u in let q : true ≡ false = sym yes ∙ none in cc)) (λ u. u) h

pub last-number : (segs : List Bytes) (index : List ℕ) (a : ℕ) → ∥ AreExtents segs index ∥₁ → IsBusy (tiling segs) a → (place_of a).0 ≤ 1023
last-number segs index a k busy = ∥∥₁_elim k (hlevel (le_prop)) (λ h. (cut-of segs index a h busy.named).last)

pub started : (segs : List Bytes) (index : List ℕ) (a : ℕ) → ∥ AreExtents segs index ∥₁ → (a ≡ 0) ⊎ HasBlock (layout_by segs).blocks a → (a ≡ 0) ⊎ IsBusy (tiling segs) a
started segs index a k h = ⊎_elim (λ u. inl u) (λ u. inr (busy-of segs index a k u)) h

-- what an optional address names
pub some-busy : (segs : List Bytes) (o : Option Addr) → IfSome o (λ r. IsBusy (tiling segs) r.0) → IfSome (option_map (λ r. r.0) o) (λ a. IsBusy (tiling segs) a)
some-busy segs None h = tt
some-busy segs (Some a) h = h

pub some-live : (segs : List Bytes) (index : List ℕ) → ∥ AreExtents segs index ∥₁ → (o : Option Addr) → IfSome o (λ r. IsBusy (tiling segs) r.0) → IfSome o (λ r. HasBlock (layout_by segs).blocks r.0)
some-live segs index k None h = tt
some-live segs index k (Some a) h = has-of segs index a.0 k h
