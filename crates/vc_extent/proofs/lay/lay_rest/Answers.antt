use Rattle.vc_base.proofs.Common.{◌≡◌, ℕ, ◌+◌, ◌-◌, List, ◌∷◌, length, subst, arith}
use Rattle.vc_seg.specs.Segment.{Bytes}
use Rattle.vc_extent.specs.Extent.{Extent, free_extent, no_links}
use Rattle.vc_seg.specs.Field.{field_at}
use Rattle.vc_seg.specs.Frame.{StaysBelow}
use Rattle.vc_extent.specs.Tiles.{Tiles}
use Rattle.vc_seg.proofs.Frames.{lower, then-below}
use Rattle.vc_extent.proofs.lay.lay_rest.Goals as goal

pub returns-clause-tiles : goal.returns-clause-tiles
returns-clause-tiles c =
    λ p es h.
    let at = c.args.at in
    let less = c.requires.less in
    let a : Bytes = c.set_boundary.new.seg in
    let first = c.set_boundary.ensures.tiles p es h in
    let place : at + c.args.whole ≡ at + c.args.bytes + (c.args.whole - c.args.bytes) = omega arith in
    let name : at + c.args.bytes + 16 ≡ at + 16 + c.args.bytes = omega arith in
    let second = c.lay_free.ensures.tiles es (subst (λ k. Tiles a.bytes (length a.bytes - 16) (c.args.whole - c.args.bytes) k es) place first) in
    let n : Bytes = c.set_boundary-2.new.seg in
    let left : ℕ → List Extent = λ k. free_extent k (c.args.whole - c.args.bytes) no_links ∷ es in
    let third = c.set_boundary-2.ensures.tiles (field_at (at + c.args.bytes + 12) a.bytes) (left (at + c.args.bytes + 16)) second in
    subst (λ (k : ℕ). Tiles n.bytes (length n.bytes - 16) c.args.bytes (at + c.args.bytes) (left k)) name third

pub returns-clause-rest : goal.returns-clause-rest
returns-clause-rest c =
    let at = c.args.at in
    let less = c.requires.less in
    let o : Bytes = c.args.seg.now in
    let a : Bytes = c.set_boundary.new.seg in
    let b : Bytes = c.lay_free.new.seg in
    let n : Bytes = c.set_boundary-2.new.seg in
    let first : StaysBelow (at + c.args.bytes) o a = lower (at + c.args.whole + 12) (at + c.args.bytes) o a c.set_boundary.ensures.rest (omega arith) in
    let third : StaysBelow (at + c.args.bytes) b n = lower (at + c.args.bytes + 12) (at + c.args.bytes) b n c.set_boundary-2.ensures.rest (omega arith) in
    then-below (at + c.args.bytes) o a n first (then-below (at + c.args.bytes) a b n c.lay_free.ensures.rest third)
