-- Resizing by exact best fit.
use Rattle.std.specs.Prelude.{ℕ, ◌+◌, ◌-◌, List, ◌++◌, Option, Some, None, Bool, not, length, take, replicate, nat_le, nat_lt, ◌==◌, ◌&&◌, ◌||◌, if◌then◌else◌}
use Rattle.std.specs.List.{list_all, list_any}
use Rattle.vc_model.specs.Discipline.{Terms}
use Rattle.vc_model.specs.Gap.{Run}
use Rattle.vc_model.specs.Layout.{Block, Layout, footprint, is_at}
use Rattle.vc_model.specs.Outcome.{Outcome, Done, Refused, Put, Fixed}
use Rattle.vc_model.specs.Touch.{change_block, find_block, with_bytes_at}
use Rattle.vc_model.specs.Best.{best_alloc, without_block_at}

-- bytes that are cut, or followed by zeros, to a size
abbrev pub fitted_bytes : ℕ → List ℕ → List ℕ
fitted_bytes size bytes = take size bytes ++ replicate (size - length bytes) 0

-- a block with another size, where it is
abbrev pub sized_block : {L : Type 0} → ℕ → Block L → Block L
sized_block size b = record b { size = size; bytes = fitted_bytes size b.bytes }

-- whether a run lies in the usable part of one of these segments, all but its first and its last 16 bytes
abbrev pub is_usable : List (ℕ × ℕ) → Run → Bool
is_usable segments f = list_any (λ s. (f.seg == s.0) && (nat_le 16 f.from && nat_le (f.to + 16) s.1)) segments

-- whether two runs have a byte in common
abbrev pub meets : Run → Run → Bool
meets f g = (f.seg == g.seg) && (nat_lt f.from g.to && nat_lt g.from f.to)

-- whether a block can have a size where it is: what it would take is usable and meets what no other block takes
abbrev pub can_stay : {L : Type 0} → Layout L → ℕ → Block L → Bool
can_stay r size b =
    is_usable r.segments (footprint (sized_block size b))
    && list_all (λ c. is_at (b.seg, b.off) c || not (meets (footprint (sized_block size b)) (footprint c))) r.blocks

-- the layout with another size of the block at a place
abbrev pub resize_there : {L : Type 0} → Layout L → ℕ × ℕ → ℕ → Layout L
resize_there r at size = record { segments = r.segments; blocks = change_block (sized_block size) at r.blocks }

-- the block stays where it is
abbrev pub stays : {L : Type 0} → Layout L → ℕ → Block L → Outcome (Put (Layout L))
stays r size b =
    Done (record { at = (b.seg, b.off); region = resize_there r (b.seg, b.off) size; granted = None })

-- a block moves to where one of that size was put: the new one gets as many of its bytes as fit, and it goes
abbrev pub outcome_of_move : {L : Type 0} → ℕ → Block L → Outcome (Put (Layout L)) → Outcome (Put (Layout L))
outcome_of_move size b (Done p) =
    Done (record {
      at = p.at;
      region = without_block_at (with_bytes_at p.region p.at 0 (take size b.bytes)) (b.seg, b.off);
      granted = p.granted;
    })
outcome_of_move size b (Refused why) = Refused why

abbrev pub resize_block : {L : Type 0} → Terms → Layout L → ℕ → Bool → Bool → Block L → Outcome (Put (Layout L))
resize_block terms r size may_move refused b =
    if can_stay r size b then stays r size b
    else (if may_move then outcome_of_move size b (best_alloc terms r b.label size 32 refused) else Refused Fixed)

abbrev pub resize_found : {L : Type 0} → Terms → Layout L → ℕ → Bool → Bool → Option (Block L) → Outcome (Put (Layout L))
resize_found terms r size may_move refused None = Refused Fixed
resize_found terms r size may_move refused (Some b) = resize_block terms r size may_move refused b

-- the block at a place gets another size; it stays there if it can, and else moves if it may
abbrev pub best_resize : {L : Type 0} → Terms → Layout L → ℕ × ℕ → ℕ → Bool → Bool → Outcome (Put (Layout L))
best_resize terms r at size may_move refused = resize_found terms r size may_move refused (find_block at r.blocks)
