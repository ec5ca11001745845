use Rattle.vc_base.proofs.Common.{◌++◌, ap, ◌∙◌}
use Rattle.vc_image_check.specs.Bytes.Image.{magic}
use Rattle.vc_image.proofs.Heads.{head-is}
use Rattle.vc_image.proofs.head.head_bytes.Goals as goal

pub returns : goal.returns
returns c =
    head-is c.args.root c.args.segs.now c.args.dicts.now _ _ _ _
    (c.in_ok-extend_from_slice.ensures.items ∙ ap (λ z. z ++ magic) c.new-head.ensures.items)
    c.in_ok-put_numbers.ensures c.in_ok-put_pairs.ensures c.in_ok-put_rows.ensures
