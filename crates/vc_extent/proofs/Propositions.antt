-- That a segment is tiled is a proposition.
use Rattle.vc_base.proofs.Common.{ℕ, ◌+◌, List, [], ◌∷◌, le_prop, ℕ_set}
use Rattle.vc_base.proofs.Sets.{bytes-set}
use mathlib.Core.List.{is_set}
use Rattle.vc_seg.specs.Segment.{Bytes}
use Rattle.vc_extent.specs.Extent.{Extent}
use Rattle.vc_extent.specs.Tiles.{IsHead, IsLegal, IsTiled, Tiles}

extent-set : IsSet Extent
extent-set = hlevel (ℕ_set, bytes-set)

legal-prop : (e : Extent) → IsProp (IsLegal e)
legal-prop e = hlevel (ℕ_set, le_prop)

head-prop : (b : List ℕ) (p at : ℕ) (e : Extent) → IsProp (IsHead b p at e)
head-prop b p at e = hlevel (ℕ_set, le_prop, extent-set)

tiles-prop : (b : List ℕ) (stop p at : ℕ) (es : List Extent) → IsProp (Tiles b stop p at es)
tiles-prop b stop p at [] = hlevel (ℕ_set)
tiles-prop b stop p at (e ∷ es) = let rest = tiles-prop b stop e.span (at + e.span) es in hlevel (head-prop, rest)

pub tiled-prop : (b : List ℕ) → IsProp (IsTiled b)
tiled-prop b = hlevel (ℕ_set, le_prop, tiles-prop)

pub segments-set : IsSet (List Bytes)
segments-set = is_set (hlevel (ℕ_set, bytes-set))
