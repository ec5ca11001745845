-- Regions of one segment of 4,096 bytes, for worked rows.
use Rattle.std.specs.Prelude.{ℕ, List, [], ◌∷◌, Option, Some, None, false, true}
use Rattle.vc_model.specs.Discipline.{Discipline, Terms, no_exceptions}
use Rattle.vc_model.specs.Outcome.{Outcome, Done, Put, Refused}
use Rattle.vc_model.specs.Segments.{Grant}
use Rattle.vc_model.specs.Layout.{Block, Layout, with_block}
use Rattle.vc_model.specs.Best.{zeros, without_block_at}
use Rattle.vc_model.specs.Compact.{compacted_layout}

-- terms of that round
abbrev pub rounds_to : ℕ → Terms
rounds_to round = record { round = round; grows = false }

-- a discipline that grows and rounds up to 4,096 bytes, with these segments out and so many bytes left
abbrev pub growing_disc : List (ℕ × ℕ) → ℕ → Discipline
growing_disc out left = record { out = out; faults = 0; terms = record { round = 4096; grows = true }; room = Some left; exceptions = no_exceptions }

-- where a block was put, and what was granted for it
abbrev pub asked_place : Outcome (Put (Layout ℕ)) → Option ((ℕ × ℕ) × Option Grant)
asked_place (Done p) = Some (p.at, p.granted)
asked_place (Refused why) = None

abbrev pub over_one_segment : List (Block ℕ) → Layout ℕ
over_one_segment blocks = record { segments = (1, 4096) ∷ []; blocks = blocks }

-- of four blocks of 1 byte, side by side, the first is freed, the third, and then the second
abbrev pub three_freed : Layout ℕ
three_freed =
    let four = over_one_segment (zeros 1 1 (1, 32) ∷ zeros 2 1 (1, 64) ∷ zeros 3 1 (1, 96) ∷ zeros 4 1 (1, 128) ∷ []) in
    without_block_at (without_block_at (without_block_at four (1, 32)) (1, 96)) (1, 64)

-- of blocks of 100, 1, 100 and 1 bytes, side by side, the first is freed and then the third
abbrev pub two_gaps : Layout ℕ
two_gaps =
    let four = over_one_segment (zeros 1 100 (1, 32) ∷ zeros 2 1 (1, 160) ∷ zeros 3 100 (1, 192) ∷ zeros 4 1 (1, 320) ∷ []) in
    without_block_at (without_block_at four (1, 32)) (1, 192)

-- and a block of 100 bytes is put where the first stood
abbrev pub one_put : Layout ℕ
one_put = over_one_segment (with_block (zeros 5 100 (1, 32)) two_gaps.blocks)

-- of blocks of 100, 100 and 1 bytes, side by side, the second is freed
abbrev pub second_freed : Layout ℕ
second_freed =
    let three = over_one_segment (zeros 1 100 (1, 32) ∷ zeros 2 100 (1, 160) ∷ zeros 3 1 (1, 288) ∷ []) in
    without_block_at three (1, 160)

-- and the first has another size, where it is
abbrev pub first_resized : ℕ → Layout ℕ
first_resized size = over_one_segment (zeros 1 size (1, 32) ∷ zeros 3 1 (1, 288) ∷ [])

-- or behind the last block
abbrev pub first_moved : ℕ → Layout ℕ
first_moved size = over_one_segment (zeros 3 1 (1, 288) ∷ zeros 1 size (1, 320) ∷ [])

-- nine blocks in three segments of 4,096 bytes, and a segment of 8,192 bytes without one
abbrev pub nine_blocks : Layout ℕ
nine_blocks =
    record {
      segments = (1, 4096) ∷ (2, 4096) ∷ (3, 4096) ∷ (4, 8192) ∷ [];
      blocks =
          zeros 1 512 (1, 32) ∷ zeros 2 200 (1, 576) ∷ zeros 3 48 (1, 800) ∷ zeros 4 900 (1, 864) ∷ zeros 5 64 (1, 1792) ∷ zeros 6 200 (1, 1888)
          ∷ zeros 7 64 (2, 3072) ∷ zeros 8 64 (2, 3168) ∷ zeros 9 1024 (3, 1024) ∷ [];
    }

-- these without the last
abbrev pub eight_blocks : Layout ℕ
eight_blocks = without_block_at (compacted_layout nine_blocks) (3, 1024)
