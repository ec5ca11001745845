use Rattle.vc_base.proofs.Common.{◌≡◌, ◌+◌, ◌-◌, List, [], ◌∷◌, length, sym, ◌∙◌, subst, arith, IsSegmentSize}
use Rattle.vc_seg.specs.Segment.{Bytes}
use Rattle.vc_extent.specs.Extent.{Extent, free_extent, no_links}
use Rattle.vc_extent.specs.Tiles.{Tiles}
use Rattle.vc_extent.proofs.Tiled.{extents-are}
use Rattle.vc_extent.proofs.lay.format.Goals as goal
use Rattle.vc_extent.proofs.lay.format.Goals.{After-lay_free}

tiles : (c : After-lay_free) → Tiles c.lay_free.new.seg.bytes (length c.lay_free.new.seg.bytes - 16) 0 16 (free_extent 32 (length c.args.seg.now.bytes - 32) no_links ∷ [])
tiles c =
    let o : Bytes = c.args.seg.now in
    let a : Bytes = c.set_field.new.self in
    let n : Bytes = c.lay_free.new.seg in
    let size : IsSegmentSize (length o.bytes) = subst IsSegmentSize c.size-size.ensures.value c.size-size.ensures.legal in
    let least = size.least in
    let len : length a.bytes ≡ length o.bytes = c.set_field.ensures.rest.len in
    let value : c.size-size.result ≡ length o.bytes = c.size-size.ensures.value in
    let bytes : c.size-size.result - 32 ≡ length o.bytes - 32 = omega arith in
    let end : 16 + (c.size-size.result - 32) ≡ length a.bytes - 16 = omega arith in
    let laid = c.lay_free.ensures.tiles [] end in
    let first : Tiles n.bytes (length n.bytes - 16) 0 16 (free_extent 32 (c.size-size.result - 32) no_links ∷ []) =
    subst (λ p. Tiles n.bytes (length n.bytes - 16) p 16 (free_extent 32 (c.size-size.result - 32) no_links ∷ [])) c.set_field.ensures.value laid in
    subst (λ k. Tiles n.bytes (length n.bytes - 16) 0 16 (free_extent 32 k no_links ∷ [])) bytes first

pub returns-clause-extents : goal.returns-clause-extents
returns-clause-extents c = extents-are c.lay_free.new.seg.bytes (free_extent 32 (length c.args.seg.now.bytes - 32) no_links ∷ []) (tiles (goal.at.returns-clause-extents c).After-lay_free)

pub returns-clause-tiled : goal.returns-clause-tiled
returns-clause-tiled c =
    let t = tiles (goal.at.returns-clause-tiled c).After-lay_free in
    let n : Bytes = c.lay_free.new.seg in
    let made : List Extent = free_extent 32 (length c.args.seg.now.bytes - 32) no_links ∷ [] in
    let e = extents-are n.bytes made t in
    let len : length n.bytes ≡ length c.args.seg.now.bytes = c.lay_free.ensures.rest.len ∙ c.set_field.ensures.rest.len in
    record { size = subst IsSegmentSize (c.size-size.ensures.value ∙ sym len) c.size-size.ensures.legal; tiles = subst (Tiles n.bytes (length n.bytes - 16) 0 16) (sym e) t }
