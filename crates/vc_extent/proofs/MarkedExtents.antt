-- The bytes of an extent that becomes busy.
use Rattle.vc_base.proofs.Common.{◌≡◌, ℕ, ◌+◌, ◌-◌, List, ◌∷◌, length, take, drop, sym, ap, ◌∙◌, subst, arith, span}
use Rattle.vc_base.proofs.Lists.{length-part}
use Rattle.vc_seg.specs.Field.{field_at}
use Rattle.vc_seg.specs.Frame.{StaysBelow}
use Rattle.vc_extent.specs.Change.{Changes, IsExtentAt, behind, extent_in}
use Rattle.vc_extent.proofs.Changed.{changed, own-tiles, renamed, rest-tiles, within}
use Rattle.vc_seg.specs.Segment.{Bytes}
use Rattle.vc_extent.specs.Extent.{Extent, busy_extent, extents, free_extent, no_links}
use Rattle.vc_extent.specs.Tiles.{Tiles}

-- a busy extent of the same span in the place of one, by what was written: what it is made by tells its size, its tag and its bytes
module _ (o n : Bytes) (at bytes size tag : ℕ) (make : List ℕ → Extent → List Extent → List Extent) (there : IsExtentAt o.bytes at) (is : bytes ≡ (extent_in (at + 16) (extents o.bytes)).span) (wide : span size ≡ bytes)
    (made : (b : List ℕ) → make b (extent_in (at + 16) (extents o.bytes)) (behind (at + 16) (extents o.bytes)) ≡ busy_extent (extent_in (at + 16) (extents o.bytes)).off (extent_in (at + 16) (extents o.bytes)).span size tag b ∷ behind (at + 16) (extents o.bytes))
    (rest : StaysBelow at o n) (tiles : (es : List Extent) → Tiles o.bytes (length o.bytes - 16) bytes (at + bytes) es → Tiles n.bytes (length n.bytes - 16) (field_at (at + 12) o.bytes) at (busy_extent (at + 16) bytes size tag (take size (drop (at + 16) o.bytes)) ∷ es)) where
  abbrev bytes-laid : List ℕ
  bytes-laid = take size (drop (at + 16) o.bytes)

  laid : Changes (at + 16) (make bytes-laid) o n
  laid =
      changed o n at (make bytes-laid) there rest
      (subst (Tiles n.bytes (length n.bytes - 16) (field_at (at + 12) o.bytes) at) (sym (made bytes-laid))
      (own-tiles there is n.bytes (length n.bytes - 16) (field_at (at + 12) o.bytes) (λ off k. busy_extent off k size tag bytes-laid ∷ behind (at + 16) (extents o.bytes)) (tiles (behind (at + 16) (extents o.bytes)) (rest-tiles there is))))

  pub laid-body : (extent_in (at + 16) (extents n.bytes)).body ≡ bytes-laid
  laid-body =
      let e : Extent = extent_in (at + 16) (extents o.bytes) in
      ap (λ (x : Extent). x.body) (renamed o n at (make bytes-laid) (busy_extent e.off e.span size tag bytes-laid) (behind (at + 16) (extents o.bytes)) there laid (made bytes-laid) (within there).off)

  pub laid-changes : Changes (at + 16) (make (extent_in (at + 16) (extents n.bytes)).body) o n
  laid-changes = subst (λ (b : List ℕ). Changes (at + 16) (make b) o n) (sym laid-body) laid

  pub laid-length : length (extent_in (at + 16) (extents n.bytes)).body ≡ size
  laid-length = ap length laid-body ∙ length-part o.bytes (at + 16) size (omega (arith, (within there).end, wide, is))

-- a busy extent before the free rest of a whole, by what was written
pub cut-tiles : (a n : Bytes) (p at bytes whole size tag : ℕ) (e : Extent) (body : List ℕ) (es : List Extent) → e.off ≡ at + 16 → whole ≡ e.span → bytes ≡ span size → tag ≡ e.tag → take size (drop (at + 16) a.bytes) ≡ body →
    Tiles n.bytes (length n.bytes - 16) p at (busy_extent (at + 16) bytes size tag (take size (drop (at + 16) a.bytes)) ∷ free_extent (at + 16 + bytes) (whole - bytes) no_links ∷ es) →
    Tiles n.bytes (length n.bytes - 16) p at (busy_extent e.off (span size) size e.tag body ∷ free_extent (e.off + span size) (e.span - span size) no_links ∷ es)
cut-tiles a n p at bytes whole size tag e body es off w s t b h =
    subst (Tiles n.bytes (length n.bytes - 16) p at)
    (λ i. busy_extent (sym off i) (s i) size (t i) (b i) ∷ free_extent (sym off i + s i) (w i - s i) no_links ∷ es)
    h
