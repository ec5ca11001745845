-- A worked pool of one segment with four cells of 32 bytes. Blocks of 2, 2 and 1 bytes were put into the first three, and the first was freed and then the third.
use Rattle.std.specs.Prelude.{List, [], ◌∷◌, replicate}
use Rattle.vc_pool.specs.Cells.Cells.{Cells, carved_with, with_zeros_in, with_free_cell, with_cell_bytes}

-- without a block
abbrev pub four_cells : Cells
four_cells = record { number = 1; bytes = replicate 160 0; carved = 0; pairs = replicate 4 (0, 0) }

-- blocks of the tags 7, 0 and 9, the second of which has the bytes 5 and 6
abbrev pub three_blocks : Cells
three_blocks = with_cell_bytes 32 1 0 (5 ∷ 6 ∷ []) (carved_with 32 1 9 (carved_with 32 2 0 (carved_with 32 2 7 four_cells)))

-- the first is freed, and then the third, whose link is the address of the first
abbrev pub two_cells_freed : List Cells
two_cells_freed = with_free_cell 32 2 1048577 (with_free_cell 32 0 0 three_blocks) ∷ []

-- a block of tag 4 is put again, into the cell that was freed last
abbrev pub one_cell_freed : List Cells
one_cell_freed = with_zeros_in 32 2 2 4 (with_free_cell 32 2 1048577 (with_free_cell 32 0 0 three_blocks)) ∷ []
