use Rattle.vc_base.proofs.Common.{◌++◌, flat_map, sym, ap, ◌∙◌, arith, take_all}
use Rattle.std.proofs.lemmas.List.Folds.{flat_map-map}
use Rattle.vc_image_check.specs.Bytes.Image.{pair_bytes}
use Rattle.vc_seg.specs.Segment.{pair_of}
use Rattle.vc_image.proofs.head.put_pairs.Goals as goal

pub returns : goal.returns
returns c =
    let end = c.loop-seg-test.false in
    c.loop-seg.invariant
    ∙ ap (λ z. c.args.head.now.items ++ flat_map (λ s. pair_bytes (pair_of s)) z) (take_all c.loop-seg.seg-index c.args.segs.now (omega (arith, end)))
    ∙ ap (λ z. c.args.head.now.items ++ z) (sym (flat_map-map pair_bytes pair_of c.args.segs.now))
