-- What becomes of the extents of a segment where a block comes or goes.
use Rattle.std.specs.Prelude.{ℕ, ◌+◌, ◌-◌, List, [], ◌∷◌, ◌++◌, nat_lt, replicate, ◌==◌, if◌then◌else◌}
use Rattle.vc_model.specs.Segments.{span}
use Rattle.vc_extent.specs.Extent.{Extent, busy_extent, free_extent, no_links}
use Rattle.vc_extent.specs.Change.{split}
use Rattle.vc_best.specs.Free.{is_free}

-- what of a free extent lies before an offset is split from it, where anything does
abbrev pub cut_front : ℕ → Extent → List Extent → List Extent
cut_front off e es = if nat_lt e.off off then split (off - e.off) e es else e ∷ es

-- what is behind its first bytes is split from a free extent, where anything is
abbrev pub cut_back : ℕ → Extent → List Extent → List Extent
cut_back bytes e es = if nat_lt bytes e.span then split bytes e es else e ∷ es

-- a free extent becomes a block of zeros
abbrev pub lay_zeros : ℕ → ℕ → Extent → List Extent → List Extent
lay_zeros size tag e es = busy_extent e.off e.span size tag (replicate size 0) ∷ es

-- the free extent from an offset up to another, where it has a byte
abbrev pub free_part : ℕ → ℕ → List Extent
free_part from to =
    if nat_lt from to then free_extent from (to - from) no_links ∷ [] else []

-- a block of zeros at an offset in a free extent; what is before and behind it stays free
abbrev pub carve : ℕ → ℕ → ℕ → Extent → List Extent → List Extent
carve off size tag e es =
    free_part e.off off
    ++ (busy_extent off (span size) size tag (replicate size 0)
    ∷ (free_part (off + span size) (e.off + e.span) ++ es))

-- a free extent and the one behind it become one, where that is free
abbrev pub absorb : Extent → List Extent → List Extent
absorb e [] = e ∷ []
absorb e (next ∷ es) =
    if is_free next then free_extent e.off (e.span + next.span) no_links ∷ es
    else e ∷ next ∷ es

-- what a size that wants a larger span than an extent's leaves of the free one behind it
abbrev pub stretch_rest : ℕ → Extent → List Extent → List Extent
stretch_rest size e [] = []
stretch_rest size e (next ∷ es) =
    if e.span + next.span == span size then es
    else free_extent (e.off + span size) (e.span + next.span - span size) no_links ∷ es

-- a busy extent gets another size and these bytes; the border behind it moves to where its span ends
abbrev pub move_border : ℕ → List ℕ → Extent → List Extent → List Extent
move_border size body e es =
    busy_extent e.off (span size) size e.tag body
    ∷ (if span size == e.span then es
    else (if nat_lt (span size) e.span
    then absorb (free_extent (e.off + span size) (e.span - span size) no_links) es
    else stretch_rest size e es))

-- an extent is left out
abbrev pub leave_out : Extent → List Extent → List Extent
leave_out e es = es
