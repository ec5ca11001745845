-- What a block of zeros in a free extent does to the blocks and to what is free.
use Rattle.vc_base.proofs.Common.{◌≡◌, ℕ, ◌+◌, ◌≤◌, Bool, true, false, not, ◌&&◌, ltb, List, ◌∷◌, ◌++◌, replicate, refl, ap, ◌∙◌, ⊎_elim, arith, le-ltb, lt-ltb, and_from, and_parts, cases_Bool, zeros, span}
use Rattle.vc_best.proofs.Common.{Extent, IsFree, IsMerged, behind_of, busy_extent, busy_in, carve, change_extent, extent_of, free_part, is_busy, is_merged}
use Rattle.vc_best.proofs.Known.{IsCut}
use Rattle.vc_best.proofs.Merges.{merged-at, merged-weaker}

-- no block is in a free part
part-busy : (n from to : ℕ) (ys : List Extent) → busy_in (n, free_part from to ++ ys) ≡ busy_in (n, ys)
part-busy n from to ys =
    ⊎_elim
    (λ (t : ltb from to ≡ true). rw t refl)
    (λ (t : ltb from to ≡ false). rw t refl)
    (cases_Bool (ltb from to))

-- the block, and what is behind it
abbrev block : ℕ → ℕ → ℕ → Extent
block off size tag = busy_extent off (span size) size tag (replicate size 0)

abbrev behind : ℕ → ℕ → Extent → List Extent → List Extent
behind off size e ys = free_part (off + span size) (e.off + e.span) ++ ys

pub carve-busy : (n off size tag : ℕ) (e : Extent) (ys : List Extent) → 1 ≤ size → busy_in (n, carve off size tag e ys) ≡ zeros tag size (n, off) ∷ busy_in (n, ys)
carve-busy n off size tag e ys some =
    part-busy n e.off off (block off size tag ∷ behind off size e ys)
    ∙ (rw (lt-ltb 0 size (omega arith)) (ap (λ bs. zeros tag size (n, off) ∷ bs) (part-busy n (off + span size) (e.off + e.span) ys)))

-- a free part where the next is busy, or behind a busy one
part-front : (b : Bool) (from to : ℕ) (zs : List Extent) → not (b && true) ≡ true → ((v : Bool) → is_merged v zs ≡ true) → is_merged b (free_part from to ++ zs) ≡ true
part-front b from to zs first rest =
    ⊎_elim
    (λ (t : ltb from to ≡ true). rw t (and_from (not (b && true)) (is_merged true zs) first (rest true)))
    (λ (t : ltb from to ≡ false). rw t (rest b))
    (cases_Bool (ltb from to))

part-back : (from to : ℕ) (ys : List Extent) → is_merged true ys ≡ true → is_merged false (free_part from to ++ ys) ≡ true
part-back from to ys m =
    ⊎_elim
    (λ (t : ltb from to ≡ true). rw t m)
    (λ (t : ltb from to ≡ false). rw t (merged-weaker false ys m))
    (cases_Bool (ltb from to))

not-and_false : (v : Bool) → not (v && false) ≡ true
not-and_false true = refl
not-and_false false = refl

pub carve-merged : (b : Bool) (off size tag : ℕ) (e : Extent) (ys : List Extent) → e.size ≡ 0 → 1 ≤ size → is_merged b (e ∷ ys) ≡ true → is_merged b (carve off size tag e ys) ≡ true
carve-merged b off size tag e ys free some m =
    let no : is_busy e ≡ false = le-ltb 0 e.size (omega arith) in
    let both : (not (b && true) && is_merged true ys) ≡ true = rw no at m in
    let parts = and_parts (not (b && true)) (is_merged true ys) both in
    part-front b e.off off (block off size tag ∷ behind off size e ys) parts.0
    (λ v. rw (lt-ltb 0 size (omega arith)) (and_from (not (v && false)) (is_merged false (behind off size e ys)) (not-and_false v) (part-back (off + span size) (e.off + e.span) ys parts.1)))

-- no two free extents meet where a block is put into one
pub merged-carved : (t : List (ℕ × List Extent)) (a off size tag : ℕ) → IsCut t a → IsFree t a → 1 ≤ size → IsMerged t → IsMerged (change_extent a (carve off size tag) t)
merged-carved t a off size tag c free some m =
    merged-at t a (carve off size tag) c (λ b own. carve-merged b off size tag (extent_of t a) (behind_of t a) free.free some own) m
