-- When a block asks for a segment in a pool, and what it is granted.
use Rattle.std.specs.Prelude.{◌≡◌, ◌≢◌, ℕ, ◌+◌, ◌≤◌, List, [], None, false, map}
use Rattle.vc_model.specs.Addr.{place_of}
use Rattle.vc_model.specs.Discipline.{Discipline, Served, Terms}
use Rattle.vc_model.specs.Pool.{Pool, carved_in, cell_for, cell_offset, element_with, pool_need, uncarved}
use Rattle.vc_model.specs.Segments.{Grant, Granted, TooMany, ask, round_up, segments_with}
use Rattle.vc_pool.specs.Cells.Blocks.{carved_by, pair_of}
use Rattle.vc_pool.specs.Cells.Carve.{CarvesIn}
use Rattle.vc_pool.specs.Cells.Cells.{Cells}

-- the block fits the element size, no cell is free for it, neither a freed one nor an uncarved one, and the region may be granted what it needs
pub record LacksCell {L : Type 0} (terms : Terms) (pool : Pool L) (size : ℕ) : Type 0 where
  pub fits : size ≤ element_with pool size
  pub freed : pool.freed ≡ []
  pub uncarved : uncarved (cell_for (element_with pool size)) pool.carved pool.layout.segments ≡ None
  pub may : ask terms (pool_need terms pool size) pool.layout.segments false ≢ TooMany

-- the bytes that a block asks for where each cell is carved: a segment of one cell at least, under these terms
abbrev pub cell_need : Terms → ℕ → ℕ
cell_need terms element = round_up (32 + cell_for element) terms.round

-- a discipline granted that many bytes, a segment of its own or more of the one lent latest, and a block of zeros is in the lowest uncarved cell of that segment, at an address
pub record IsGranted (element tag size bytes : ℕ) (old new : List Cells) (before after : Discipline) (a : ℕ) : Type 0 where
  pub grant : Grant
  pub granted : ask before.terms bytes (map pair_of old) false ≡ Granted grant
  pub place : place_of a ≡ (grant.number, cell_offset (cell_for element) (carved_in grant.number (carved_by old)))
  pub served : Served before after (map pair_of old) (segments_with grant (map pair_of old)) bytes
  pub carved : CarvesIn element tag size old new grant a
