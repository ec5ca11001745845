-- What a profile region keeps beside its blocks: a row of running sums for each site, and the index of each block's row.
use Rattle.std.specs.Prelude.{◌≡◌, ℕ, zero, suc, ◌≤◌, List, [], ◌∷◌, IsSome, Option, Some, map, option_and_then, slice_get, unwrap_or}
use Rattle.std.specs.List.{AllByRecursion, IsDistinct, position_or_len}
use Rattle.std.specs.Map.{keys_of, lookup, values_of}
use Rattle.std.specs.Str.{bytes_eq}
use Rattle.vc_addrmap.specs.Map.{Numbers}
use Rattle.vc_model.specs.Layout.{Block, Layout, address_of}
use Rattle.vc_audit.specs.Profile.{site_blocks, site_bytes}
use Rattle.vc_audit.specs.declared.profile.rows.Row.{Row}

-- the rows of a profile region by site
abbrev pub Rows : Type 0
Rows = List (List ℕ × Row)

-- a row for a site that has none yet
abbrev pub new_row : Row
new_row = record { blocks = 0; bytes = 0; peak = 0 }

-- the row of a site
abbrev pub row_for : List ℕ → Rows → Row
row_for site rows = unwrap_or (lookup (bytes_eq site) rows) new_row

-- the row of an index
abbrev pub IsRowAt : Rows → ℕ → Row → Type 0
IsRowAt rows i row = slice_get (values_of rows) i ≡ Some row

-- the index of the row of a site, which is the one behind the last where it has none
abbrev pub index_for : List ℕ → Rows → ℕ
index_for site rows = position_or_len (bytes_eq site) (keys_of rows)

-- a row without blocks
abbrev pub row_without_blocks : List ℕ × Row → List ℕ × Row
row_without_blocks e = (e.0, record { blocks = 0; bytes = 0; peak = e.1.peak })

-- the rows with the one of that index emptied, and with every one
abbrev pub clear_at : ℕ → Rows → Rows
clear_at i [] = []
clear_at zero (e ∷ es) = row_without_blocks e ∷ es
clear_at (suc i) (e ∷ es) = e ∷ clear_at i es

abbrev pub cleared_rows : Rows → Rows
cleared_rows rows = map row_without_blocks rows

-- the sites of blocks by address, as the index of each one's row tells them
abbrev pub Sites : Type 0
Sites = ℕ → Option (List ℕ)

abbrev pub sites_by : Numbers → Rows → Sites
sites_by indices rows a = option_and_then (slice_get (keys_of rows)) (indices a)

-- the site of the block at an address
abbrev pub site_at : ℕ → Sites → Option (List ℕ)
site_at a sites = sites a

-- the site that is kept for a block, and the block with it
abbrev pub site_of : Sites → Block ℕ → List ℕ
site_of sites b = unwrap_or (site_at (address_of b) sites) []

abbrev pub with_its_site : Sites → Block ℕ → Block (ℕ × List ℕ)
with_its_site sites b = record { label = (b.label, site_of sites b); seg = b.seg; off = b.off; size = b.size; bytes = b.bytes }

abbrev pub with_sites : Sites → Layout ℕ → Layout (ℕ × List ℕ)
with_sites sites r = record { segments = r.segments; blocks = map (with_its_site sites) r.blocks }

-- the sites of the rows in order, each with its peak
abbrev pub peaks_of : Rows → List (List ℕ × ℕ)
peaks_of rows = map (λ e. (e.0, e.1.peak)) rows

-- a block's site is kept, and has a row
pub record IsHeld (sites : Sites) (rows : Rows) (b : Block ℕ) : Type 0 where
  pub kept : IsSome (site_at (address_of b) sites)
  pub row : IsSome (lookup (bytes_eq (site_of sites b)) rows)
  pub most : b.size ≤ 16777216

-- a row has the sums of its site, and a peak that is no less
pub record IsRow (blocks : List (Block (ℕ × List ℕ))) (e : List ℕ × Row) : Type 0 where
  pub blocks_are : e.1.blocks ≡ site_blocks e.0 blocks
  pub bytes_are : e.1.bytes ≡ site_bytes e.0 blocks
  pub few : e.1.blocks ≤ 4294967295
  pub peak : e.1.bytes ≤ e.1.peak

-- the running sums are those of the lists, and each site has one row
pub record IsCounted (r : Layout ℕ) (sites : Sites) (rows : Rows) : Type 0 where
  pub held : AllByRecursion (IsHeld sites rows) r.blocks
  pub counted : AllByRecursion (IsRow (with_sites sites r).blocks) rows
  pub distinct : IsDistinct bytes_eq (keys_of rows)
