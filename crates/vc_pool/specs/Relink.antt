-- A chain of freed cells of which some leave.
use Rattle.std.specs.Prelude.{◌≡◌, ℕ, ◌≤◌, List, [], ◌∷◌, ◌++◌, Bool, filter, set, get_or}
use Rattle.vc_model.specs.Addr.{place_of}
use Rattle.vc_pool.specs.Cells.Blocks.{carved_by, layout_by}
use Rattle.vc_pool.specs.Cells.Cells.{Cells, with_free_cell}
use Rattle.vc_pool.specs.Cells.Freed.{IsFreedChain, freed_link}
use Rattle.vc_pool.specs.Cells.Kept.{IsPoolOf}
use Rattle.vc_pool.specs.Cells.Place.{IsCellAt}

-- the cells at these places are linked, from one address on to another; `before` is the address before the first of them, and `last` that of the last, or `before` where there is none
abbrev pub IsChainRun : List Cells → ℕ → ℕ → List (ℕ × ℕ) → ℕ → ℕ → Type 0
IsChainRun segs a before [] last to = (before ≡ last) × (a ≡ to)
IsChainRun segs a before (p ∷ ps) last to = (1 ≤ a) × (place_of a ≡ p) × IsChainRun segs (freed_link segs a) a ps last to

-- the chain of freed cells, up to the last of those that stay and from an address on
pub record IsSplit (element : ℕ) (segs : List Cells) (freed last at : ℕ) (kept rest : List (ℕ × ℕ)) : Type 0 where
  pub pool : IsPoolOf element segs freed (kept ++ rest)
  pub run : IsChainRun segs freed 0 kept last at
  pub chain : IsFreedChain segs at rest

abbrev pub HasSplit : ℕ → List Cells → ℕ → ℕ → ℕ → Type 0
HasSplit element segs freed last at = (kept : List (ℕ × ℕ)) × (rest : List (ℕ × ℕ)) × IsSplit element segs freed last at kept rest

-- of these freed cells those up to an address that are in segments that stay, and all from there on
pub record IsSifted (element : ℕ) (stays : ℕ → Bool) (all : List (ℕ × ℕ)) (segs : List Cells) (freed last at : ℕ) : Type 0 where
  pub kept : List (ℕ × ℕ)
  pub rest : List (ℕ × ℕ)
  pub split : IsSplit element segs freed last at kept rest
  pub sifted : kept ++ filter (λ p. stays p.0) rest ≡ filter (λ p. stays p.0) all

-- the cell at an address has a link, and no block
pub record IsRelinked (cell : ℕ) (old new : List Cells) (a link : ℕ) : Type 0 where
  pub i : ℕ
  pub index : ℕ
  pub there : IsCellAt cell old (place_of a) i index
  pub segs : (d : Cells) → new ≡ set old i (with_free_cell cell index link (get_or old i d))

-- the segments with their blocks stay, and their counts of carved cells
pub record KeepsAll (cell : ℕ) (old new : List Cells) : Type 0 where
  pub layout : layout_by cell new ≡ layout_by cell old
  pub carved : carved_by new ≡ carved_by old
