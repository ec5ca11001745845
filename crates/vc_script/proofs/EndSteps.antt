-- Lists of bytes that stand in one: one more of them, and the one at a place.
use Rattle.vc_base.proofs.Common.{◌≡◌, ℕ, zero, suc, ◌-◌, ◌<◌, ◌≤◌, List, [], ◌∷◌, ◌++◌, Some, length, get_or, take, drop, slice_get, slice_range, sym, refl, ap, ap₂, ◌∙◌, arith, length-append, le_trans, take-append-le, take_all, length-drop}
use Rattle.std.proofs.Math.Seq.{drop-append_seam}
use Rattle.std.proofs.lemmas.Grind.{get_or_default_zero}
use Rattle.std.proofs.lemmas.List.{drop-append-le}
use Rattle.vc_script.specs.Ends.{AreEnds, slices_by_ends}

-- none begins behind the end of the bytes
ends-within : (begun total : ℕ) (ends : List ℕ) → AreEnds begun total ends → begun ≤ total
ends-within begun total [] are = omega arith
ends-within begun total (end ∷ ends) are = let rest = ends-within end total ends are.1 in le_trans are.0 rest

pub length-objects : (begun : ℕ) (bytes ends : List ℕ) → length (slices_by_ends begun bytes ends) ≡ length ends
length-objects begun bytes [] = refl
length-objects begun bytes (end ∷ ends) = ap suc (length-objects end bytes ends)

-- what stands between where it begins and where it ends
pub object-at : (begun : ℕ) (bytes ends : List ℕ) (i : ℕ) → i < length ends
    → slice_get (slices_by_ends begun bytes ends) i ≡ Some (slice_range bytes (get_or (begun ∷ ends) i 0) (get_or ends i 0))
object-at begun bytes [] i within = absurd (omega arith)
object-at begun bytes (end ∷ ends) zero within = refl
object-at begun bytes (end ∷ ends) (suc i) within = object-at end bytes ends i (omega arith)

pub rises-at : (begun total : ℕ) (ends : List ℕ) (i : ℕ) → AreEnds begun total ends → i < length ends → get_or (begun ∷ ends) i 0 ≤ get_or ends i 0
rises-at begun total [] i are within = absurd (omega arith)
rises-at begun total (end ∷ ends) zero are within = are.0
rises-at begun total (end ∷ ends) (suc i) are within = rises-at end total ends i are.1 (omega arith)

pub ends-at : (begun total : ℕ) (ends : List ℕ) (i : ℕ) → AreEnds begun total ends → i < length ends → get_or ends i 0 ≤ total
ends-at begun total [] i are within = absurd (omega arith)
ends-at begun total (end ∷ ends) zero are within = ends-within end total ends are.1
ends-at begun total (end ∷ ends) (suc i) are within = ends-at end total ends i are.1 (omega arith)

-- one more ends where the bytes do
pub ends-pushed : (begun total more : ℕ) (ends : List ℕ) → AreEnds begun total ends → total ≤ more → AreEnds begun more (ends ++ more ∷ [])
ends-pushed begun total more [] are grown = (omega arith, refl)
ends-pushed begun total more (end ∷ ends) are grown = (are.0, ends-pushed end total more ends are.1 grown)

-- bytes behind change nothing in front of them
range-kept : (bytes more : List ℕ) (begun end : ℕ) → begun ≤ end → end ≤ length bytes → slice_range (bytes ++ more) begun end ≡ slice_range bytes begun end
range-kept bytes more begun end rises within =
    let front : begun ≤ length bytes = omega arith in
    let room : end - begun ≤ length (drop begun bytes) = omega (arith, length-drop begun bytes) in
    ap (take (end - begun)) (drop-append-le begun bytes more front) ∙ take-append-le (end - begun) (drop begun bytes) more room

range-pushed : (bytes more : List ℕ) (begun : ℕ) → begun ≡ length bytes → slice_range (bytes ++ more) begun (length (bytes ++ more)) ≡ more
range-pushed bytes more begun at =
    let all : length more ≤ length (bytes ++ more) - begun = omega (arith, length-append bytes more) in
    ap (λ n. take (length (bytes ++ more) - begun) (drop n (bytes ++ more))) at
    ∙ ap (take (length (bytes ++ more) - begun)) (drop-append_seam bytes more)
    ∙ take_all (length (bytes ++ more) - begun) more all

pub objects-pushed : (begun : ℕ) (bytes more ends : List ℕ) → AreEnds begun (length bytes) ends
    → slices_by_ends begun (bytes ++ more) (ends ++ length (bytes ++ more) ∷ []) ≡ slices_by_ends begun bytes ends ++ more ∷ []
objects-pushed begun bytes more [] are = ap (λ o. o ∷ []) (range-pushed bytes more begun are)
objects-pushed begun bytes more (end ∷ ends) are =
    ap₂ (λ o os. o ∷ os) (range-kept bytes more begun end are.0 (ends-within end (length bytes) ends are.1)) (objects-pushed end bytes more ends are.1)

-- an object that is read from the bytes, between two places that are read from the ends
pub record IsBetween (bytes : List ℕ) (objects : List (List ℕ)) (i begun end : ℕ) : Type 0 where
  pub rises : begun ≤ end
  pub ends : end ≤ length bytes
  pub object : slice_get objects i ≡ Some (slice_range bytes begun end)

pub ends-enough : (bytes ends : List ℕ) (objects : List (List ℕ)) (i : ℕ) → slices_by_ends 0 bytes ends ≡ objects → i < length objects → i < length ends
ends-enough bytes ends objects i view within = let more = ap length view in omega (arith, length-objects 0 bytes ends, more)

pub is-between : (bytes ends : List ℕ) (objects : List (List ℕ)) (i begun end : ℕ) → AreEnds 0 (length bytes) ends → slices_by_ends 0 bytes ends ≡ objects → i < length objects
    → begun ≡ get_or (0 ∷ ends) i 0 → end ≡ get_or ends i end → IsBetween bytes objects i begun end
is-between bytes ends objects i begun end are view within from to =
    let enough = ends-enough bytes ends objects i view within in
    let at : end ≡ get_or ends i 0 = to ∙ get_or_default_zero ends i end enough in
    let up = rises-at 0 (length bytes) ends i are enough in
    let most = ends-at 0 (length bytes) ends i are enough in
    record {
      rises = omega arith;
      ends = omega arith;
      object = ap (λ o. slice_get o i) (sym view) ∙ object-at 0 bytes ends i enough ∙ ap₂ (λ b e. Some (slice_range bytes b e)) (sym from) (sym at);
    }
