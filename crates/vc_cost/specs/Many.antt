-- Holders that stand in one list, each at its place in it; what stands at place 0 is none. For tests alone.
use Rattle.std.proofs.Common.{◌≡◌, ℕ, ◌≤◌, ◌^◌, Bool, true, false, ◌&&◌, nat_lt, if◌then◌else◌, List, [], length, slice_index_or, Some, None, IsSome, is_some, refl, arith, ltb-true}
use Rattle.vc_base.specs.Cells.{Blocks, IsAddress}
use Rattle.vc_dtord.specs.NodeLaws.{and-left, and-right}

-- the bytes at each address that is a place behind the first
abbrev pub many : List (List ℕ) → Blocks
many xs = λ a. if nat_lt 0 a && nat_lt a (length xs) then Some (slice_index_or xs a []) else None

-- where a test gives a block, it passed
pub there-by : (t : Bool) (bytes : List ℕ) → is_some (if t then Some bytes else None) ≡ true → t ≡ true
there-by true bytes h = refl
there-by false bytes h = h

-- none stands anywhere else
pub many-address : (xs : List (List ℕ)) → length xs ≤ 2 ^ 32 → (a : ℕ) → IsSome (many xs a) → IsAddress a
many-address xs few a h =
    let t = there-by (nat_lt 0 a && nat_lt a (length xs)) (slice_index_or xs a []) h in
    let within = ltb-true a (length xs) (and-right (nat_lt 0 a) (nat_lt a (length xs)) t) in
    record { some = ltb-true 0 a (and-left (nat_lt 0 a) (nat_lt a (length xs)) t); fits = omega arith }
