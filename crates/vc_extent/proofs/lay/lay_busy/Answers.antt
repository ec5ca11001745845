use Rattle.vc_base.proofs.Common.{◌+◌, ◌-◌, length, take, drop, sym, subst, arith}
use Rattle.vc_seg.specs.Segment.{Bytes}
use Rattle.vc_extent.specs.Tiles.{Tiles}
use Rattle.vc_seg.proofs.Frames.{only-below, part-back, field-back}
use Rattle.vc_extent.proofs.Tiled.{busy-is, legal-busy, tiles-back}
use Rattle.vc_extent.proofs.lay.lay_busy.Goals as goal

pub returns-clause-tiles : goal.returns-clause-tiles
returns-clause-tiles c =
    λ es h.
    let at = c.args.at in
    let o : Bytes = c.args.seg.now in
    let n : Bytes = c.set_head.new.seg in
    let rest = c.set_head.ensures.rest in
    let heads = c.set_head.ensures in
    let some = c.requires.some in (
      record {
        extent = busy-is n.bytes (take c.args.size (drop (at + 16) o.bytes)) at c.args.bytes c.args.size c.args.tag heads.span heads.size heads.tag some (part-back o.bytes n.bytes (at + 12) rest.above (at + 16) c.args.size (omega arith));
        boundary = field-back o.bytes n.bytes (at + 12) rest.above (at + 12) (omega arith);
        legal = legal-busy (at + 16) c.args.bytes c.args.size c.args.tag (take c.args.size (drop (at + 16) o.bytes)) c.requires.span some;
      },
      subst (λ k. Tiles n.bytes (k - 16) c.args.bytes (at + c.args.bytes) es) (sym rest.len) (tiles-back o.bytes n.bytes (at + 12) rest.above (length o.bytes - 16) c.args.bytes (at + c.args.bytes) es (omega (arith, c.requires.span)) h),
    )

pub returns-clause-rest : goal.returns-clause-rest
returns-clause-rest c = only-below c.args.at (c.args.at + 12) c.args.at c.args.seg.now c.set_head.new.seg c.set_head.ensures.rest (omega arith)
