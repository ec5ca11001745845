-- The least number that no segment has.
use Rattle.vc_base.proofs.Common.{◌≡◌, ℕ, true, false, eqb, List, [], ◌∷◌, map, refl, ⊎_elim, cases_Bool, or_right, list_any, numbers}
use Rattle.vc_seg.specs.Segment.{Bytes, pair_of}
use Rattle.vc_extent.specs.Tiling.{IsThere}

pub there-among : (j : ℕ) (segs : List Bytes) → IsThere j segs → list_any (λ m. eqb m j) (numbers (map pair_of segs)) ≡ true
there-among j [] there = absurd (cc)
there-among j (s ∷ ss) there =
    ⊎_elim
    (λ (t : eqb s.number j ≡ true). rw t refl)
    (λ (t : eqb s.number j ≡ false). or_right (eqb s.number j) (list_any (λ m. eqb m j) (numbers (map pair_of ss))) (there-among j ss (rw t at there)))
    (cases_Bool (eqb s.number j))
