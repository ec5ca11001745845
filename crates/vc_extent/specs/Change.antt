-- A list of extents and what becomes of it where one of them changes.
use Rattle.std.specs.Prelude.{◌≡◌, ℕ, ◌+◌, ◌-◌, ◌<◌, ◌≤◌, List, [], ◌∷◌, ◌++◌, Option, Some, None, length, take, ◌==◌, if◌then◌else◌}
use Rattle.vc_model.specs.Bytes.{with_bytes}
use Rattle.vc_model.specs.Segments.{span}
use Rattle.vc_seg.specs.Segment.{Bytes}
use Rattle.vc_extent.specs.Extent.{Extent, Links, no_links, free_extent, busy_extent, extents}
use Rattle.vc_extent.specs.Tiles.{IsTiled}

-- the extent that an offset names, of span 0 where there is none
abbrev pub extent_in : ℕ → List Extent → Extent
extent_in off [] = free_extent off 0 no_links
extent_in off (e ∷ es) = if e.off == off then e else extent_in off es

-- bytes are tiled, and an extent lies in them from a place on
pub record IsExtentAt (bytes : List ℕ) (at : ℕ) : Type 0 where
  pub tiled : IsTiled bytes
  pub named : 0 < (extent_in (at + 16) (extents bytes)).span

-- it is a busy one, a free one
pub record IsBusyAt (bytes : List ℕ) (at : ℕ) : Type 0 where
  pub there : IsExtentAt bytes at
  pub busy : 0 < (extent_in (at + 16) (extents bytes)).size

pub record IsFreeAt (bytes : List ℕ) (at : ℕ) : Type 0 where
  pub there : IsExtentAt bytes at
  pub free : (extent_in (at + 16) (extents bytes)).size ≡ 0

-- its span is that of a block of a size
pub record IsRoomFor (size : ℕ) (bytes : List ℕ) (at : ℕ) : Type 0 where
  pub there : IsExtentAt bytes at
  pub some : 1 ≤ size
  pub span : span size ≡ (extent_in (at + 16) (extents bytes)).span

-- the extents behind it
abbrev pub behind : ℕ → List Extent → List Extent
behind off [] = []
behind off (e ∷ es) = if e.off == off then es else behind off es

-- the first of these, where there is one
abbrev pub first_of : List Extent → Option Extent
first_of [] = None
first_of (e ∷ es) = Some e

-- the extent before it, where there is one; the first argument is the one before these
abbrev pub last_before : Option Extent → ℕ → List Extent → Option Extent
last_before last off [] = None
last_before last off (e ∷ es) = if e.off == off then last else last_before (Some e) off es

-- with the extent that an offset names and those behind it changed
abbrev pub change_at : ℕ → (Extent → List Extent → List Extent) → List Extent → List Extent
change_at off change [] = []
change_at off change (e ∷ es) = if e.off == off then change e es else e ∷ change_at off change es

-- a free extent becomes two, the first with that span
abbrev pub split : ℕ → Extent → List Extent → List Extent
split size e es = free_extent e.off size no_links ∷ free_extent (e.off + size) (e.span - size) no_links ∷ es

-- a free extent and the one behind it become one
abbrev pub join : Extent → List Extent → List Extent
join e [] = e ∷ []
join e (next ∷ es) = free_extent e.off (e.span + next.span) no_links ∷ es

-- a free extent becomes busy
abbrev pub mark_busy : ℕ → ℕ → List ℕ → Extent → List Extent → List Extent
mark_busy size tag body e es = busy_extent e.off e.span size tag body ∷ es

-- a busy extent becomes free
abbrev pub mark_free : Extent → List Extent → List Extent
mark_free e es = free_extent e.off e.span no_links ∷ es

-- a busy extent gets another size with the same span
abbrev pub set_size : ℕ → List ℕ → Extent → List Extent → List Extent
set_size size body e es = busy_extent e.off e.span size e.tag body ∷ es

-- a busy extent takes as much of the free one behind it as its new size wants
abbrev pub stretch : ℕ → List ℕ → Extent → List Extent → List Extent
stretch size body e [] = e ∷ []
stretch size body e (next ∷ es) =
    busy_extent e.off (span size) size e.tag body
    ∷ (if e.span + next.span == span size then es else free_extent (e.off + span size) (e.span + next.span - span size) no_links ∷ es)

-- a busy extent leaves what its new size doesn't want to a free one behind it
abbrev pub shrink : ℕ → Extent → List Extent → List Extent
shrink size e es = busy_extent e.off (span size) size e.tag (take size e.body) ∷ free_extent (e.off + span size) (e.span - span size) no_links ∷ es

-- links with one of them changed
abbrev pub with_link : ℕ → ℕ → Links → Links
with_link k v links =
    if k == 0
    then record links { first = v }
    else (if k == 1 then record links { second = v } else record links { third = v })

-- one of three links
abbrev pub link_in : ℕ → Links → ℕ
link_in k links = if k == 0 then links.first else (if k == 1 then links.second else links.third)

-- a free extent gets another link
abbrev pub set_link : ℕ → ℕ → Extent → List Extent → List Extent
set_link k v e es = free_extent e.off e.span (with_link k v e.links) ∷ es

-- a busy extent gets other bytes from an offset in its body on
abbrev pub write : ℕ → List ℕ → Extent → List Extent → List Extent
write off src e es = busy_extent e.off e.span e.size e.tag (with_bytes off src e.body) ∷ es

-- the bytes of extents
abbrev pub spans : List Extent → ℕ
spans [] = 0
spans (e ∷ es) = e.span + spans es

-- all of a segment's extents become one free one
abbrev pub one_free : List Extent → List Extent
one_free es = free_extent 32 (spans es) no_links ∷ []

-- there is one extent, and it is free
abbrev pub IsOneFree : List Extent → Type 0
IsOneFree [] = ⊥
IsOneFree (e ∷ es) = (e.size ≡ 0) × (es ≡ [])

-- the span of the last of these extents, or that of one before them where there is none
abbrev pub last_span : ℕ → List Extent → ℕ
last_span before [] = before
last_span before (e ∷ es) = last_span e.span es

-- a free extent of so many bytes behind the others, by the offset that names it
abbrev pub widen : ℕ → ℕ → List Extent → List Extent
widen off more es = es ++ free_extent off more no_links ∷ []

-- a segment that got so many bytes more: it keeps its number, and they are a free extent behind its extents, named by the size that it had
pub record IsWidened (more : ℕ) (old new : Bytes) : Type 0 where
  pub number : new.number ≡ old.number
  pub len : length new.bytes ≡ length old.bytes + more
  pub tiled : IsTiled new.bytes
  pub extents : extents new.bytes ≡ widen (length old.bytes) more (extents old.bytes)

-- a segment in which the extent that an offset names, and those behind it, changed: it keeps its number and its size, and extents tile it
pub record Changes (off : ℕ) (change : Extent → List Extent → List Extent) (old new : Bytes) : Type 0 where
  pub number : new.number ≡ old.number
  pub len : length new.bytes ≡ length old.bytes
  pub tiled : IsTiled new.bytes
  pub extents : extents new.bytes ≡ change_at off change (extents old.bytes)
