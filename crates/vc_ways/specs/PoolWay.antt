-- The way of pools by size class.
use Rattle.std.specs.Prelude.{ℕ, List, [], ◌∷◌, Bool, false, count_by, nat_lt, replicate, slice_index, slice_index_or, slice_set, ◌==◌, if◌then◌else◌}
use Rattle.vc_model.specs.Discipline.{Terms}
use Rattle.vc_model.specs.Outcome.{Outcome, Done, done_as}
use Rattle.vc_model.specs.Pool.{Pool, empty_pool, pool_alloc, pool_free}

-- the bytes of each class, the powers of two from 32 to 16,777,216
abbrev pub classes : List ℕ
classes =
    32 ∷ 64 ∷ 128 ∷ 256 ∷ 512 ∷ 1024 ∷ 2048 ∷ 4096 ∷ 8192 ∷ 16384 ∷ 32768 ∷ 65536 ∷ 131072 ∷ 262144 ∷ 524288
    ∷ 1048576 ∷ 2097152 ∷ 4194304 ∷ 8388608 ∷ 16777216 ∷ []

-- the least class that holds a block, by how many classes are smaller than the block
abbrev pub class_of : ℕ → ℕ
class_of size = count_by (λ bytes. nat_lt bytes size) classes

abbrev pub class_bytes : ℕ → ℕ
class_bytes class = slice_index classes class

-- a pool for each class, without a block
abbrev pub new_pools : List (Pool ℕ)
new_pools = replicate 20 empty_pool

abbrev pub pool_at : List (Pool ℕ) → ℕ → Pool ℕ
pool_at pools class = slice_index_or pools class empty_pool

abbrev pub terms_at : List Terms → ℕ → Terms
terms_at terms class = slice_index_or terms class (record { round = 32; grows = false })

-- a block is put into a cell of its class
abbrev pub cell_put : List Terms → List (Pool ℕ) → ℕ → Bool → Outcome ((ℕ × ℕ) × List (Pool ℕ))
cell_put terms pools size refused =
    let class : ℕ = class_of size in
    done_as {B = (ℕ × ℕ) × List (Pool ℕ)} (λ p. (p.at, slice_set pools class p.region))
    (pool_alloc (terms_at terms class) (pool_at pools class) 0 (class_bytes class) refused)

-- the block of a size at a place goes
abbrev pub cell_free : List (Pool ℕ) → ℕ → ℕ × ℕ → List (Pool ℕ)
cell_free pools size at = slice_set pools (class_of size) (pool_free (pool_at pools (class_of size)) at)

-- a block of a size at a place gets another size: within its class no pool changes; into another class it is put first, and then its old cell is free
abbrev pub cell_sized : List Terms → List (Pool ℕ) → ℕ → ℕ × ℕ → ℕ → Bool → Outcome ((ℕ × ℕ) × List (Pool ℕ))
cell_sized terms pools old at size refused =
    if class_of size == class_of old then Done (at, pools)
    else done_as {B = (ℕ × ℕ) × List (Pool ℕ)} (λ p. (p.0, cell_free p.1 old at)) (cell_put terms pools size refused)
