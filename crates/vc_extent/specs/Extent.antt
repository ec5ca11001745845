-- An extent as it lies in the bytes of its segment: a head of 16 bytes, and behind it three links where it is free, or the bytes of a block where it is busy.
use Rattle.std.specs.Prelude.{ℕ, ◌+◌, ◌-◌, zero, suc, List, [], ◌∷◌, length, take, drop, nat_lt, ◌==◌, if◌then◌else◌}
use Rattle.vc_seg.specs.Field.{field_at}

-- the three links of a free extent
pub record Links : Type 0 where
  pub first : ℕ
  pub second : ℕ
  pub third : ℕ

-- an extent with the offset that names it, 16 bytes behind its start; its bytes from its start on; its size and its tag, both 0 where it is free; its links, all 0 where it is busy; and the bytes of its block, none where it is free
pub record Extent : Type 0 where
  pub off : ℕ
  pub span : ℕ
  pub size : ℕ
  pub tag : ℕ
  pub links : Links
  pub body : List ℕ

abbrev pub no_links : Links
no_links = record { first = 0; second = 0; third = 0 }

-- the links that lie from a place on
abbrev pub links_at : ℕ → List ℕ → Links
links_at at bytes = record { first = field_at at bytes; second = field_at (at + 4) bytes; third = field_at (at + 8) bytes }

abbrev pub free_extent : ℕ → ℕ → Links → Extent
free_extent off span links = record { off = off; span = span; size = 0; tag = 0; links = links; body = [] }

abbrev pub busy_extent : ℕ → ℕ → ℕ → ℕ → List ℕ → Extent
busy_extent off span size tag body = record { off = off; span = span; size = size; tag = tag; links = no_links; body = body }

-- the extent whose head lies from a place on
unfoldable pub extent_at : ℕ → List ℕ → Extent
extent_at at bytes =
    record {
      off = at + 16;
      span = field_at at bytes;
      size = field_at (at + 4) bytes;
      tag = field_at (at + 8) bytes;
      links = if field_at (at + 4) bytes == 0 then links_at (at + 16) bytes else no_links;
      body = take (field_at (at + 4) bytes) (drop (at + 16) bytes);
    }

-- the extents from a place on, each behind the one before it, up to a place; as many at most as the first number
unfoldable pub walk : ℕ → ℕ → ℕ → List ℕ → List Extent
walk zero at stop bytes = []
walk (suc more) at stop bytes = if nat_lt at stop then extent_at at bytes ∷ walk more (at + field_at at bytes) stop bytes else []

-- the extents of a segment: those between its first and its last 16 bytes
unfoldable pub extents : List ℕ → List Extent
extents bytes = walk (length bytes) 16 (length bytes - 16) bytes
