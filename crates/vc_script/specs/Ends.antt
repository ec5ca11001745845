-- Lists of bytes that stand in one, one behind another, by where each of them ends.
use Rattle.std.specs.Prelude.{◌≡◌, ℕ, ◌≤◌, List, [], ◌∷◌, slice_range}

-- those from a place of the bytes on, which end at these places
abbrev pub slices_by_ends : ℕ → List ℕ → List ℕ → List (List ℕ)
slices_by_ends begun bytes [] = []
slices_by_ends begun bytes (end ∷ ends) = slice_range bytes begun end ∷ slices_by_ends end bytes ends

-- none ends before it begins, and the last ends where the bytes do
abbrev pub AreEnds : ℕ → ℕ → List ℕ → Type 0
AreEnds begun total [] = begun ≡ total
AreEnds begun total (end ∷ ends) = (begun ≤ end) × AreEnds end total ends
