-- Debug regions of one segment of 4,096 bytes, for worked rows.
use Rattle.std.specs.Prelude.{ℕ, ℤ, List, [], Bool, false, map}
use Rattle.vc_model.specs.Layout.{place_of_block}
use Rattle.vc_model.specs.Outcome.{Outcome, Done, Put, Refused}
use Rattle.vc_model.specs.Rows.{over_one_segment, rounds_to}
use Rattle.vc_addrmap.specs.Map.{no_numbers}
use Rattle.vc_audit.specs.Debug.{Debug, damaged_blocks, debug_alloc, debug_resize}

-- the region that a call leaves
abbrev pub after_call : Debug ℕ → Outcome (Put (Debug ℕ)) → Debug ℕ
after_call d (Done p) = p.region
after_call d (Refused why) = d

abbrev pub with_alloc : Debug ℕ → ℕ → ℕ → Debug ℕ
with_alloc d label size = after_call d (debug_alloc (rounds_to 4096) d label size false)

abbrev pub with_resize : Debug ℕ → ℕ × ℕ → ℕ → Bool → Debug ℕ
with_resize d at size may_move = after_call d (debug_resize (rounds_to 4096) d at size may_move false)

-- one segment, and no block
abbrev pub one_empty_segment : Debug ℕ
one_empty_segment = record { best = over_one_segment []; marks = no_numbers }

-- a block of 100 bytes, at offset 64, and one of 8, at offset 256
abbrev pub two_put : Debug ℕ
two_put = with_alloc (with_alloc one_empty_segment 1 100) 2 8

-- where the damaged blocks are, and at which offsets
abbrev pub damages : Debug ℕ → List ((ℕ × ℕ) × ℤ)
damages d = map (λ f. (place_of_block f.0, f.1)) (damaged_blocks d)
