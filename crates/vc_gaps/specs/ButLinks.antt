-- All of a tiling but the links of its free extents.
use Rattle.std.specs.Prelude.{◌≡◌, ℕ, List, map, ◌==◌, if◌then◌else◌}
use Rattle.vc_seg.specs.Segment.{Bytes, pair_of}
use Rattle.vc_extent.specs.Extent.{Extent, free_extent, no_links}
use Rattle.vc_extent.specs.Tiling.{tiling}

-- segments in order of adding, each as its number and its extents
abbrev pub Tiling : Type 0
Tiling = List (ℕ × List Extent)

-- an extent without its links; a free one has no tag and no bytes
abbrev pub without_links : Extent → Extent
without_links e = if e.size == 0 then free_extent e.off e.span no_links else e

-- a tiling without the links of its free extents
abbrev pub plain : Tiling → Tiling
plain t = map (λ s. (s.0, map without_links s.1)) t

-- the numbers and sizes of segments stayed, and so did all that tiles them but links
pub record StaysButLinks (old new : List Bytes) : Type 0 where
  pub extents : plain (tiling new) ≡ plain (tiling old)
  pub pairs : map pair_of new ≡ map pair_of old
