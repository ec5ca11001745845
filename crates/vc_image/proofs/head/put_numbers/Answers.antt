use Rattle.vc_base.proofs.Common.{◌++◌, ap, ◌∙◌}
use Rattle.vc_image_check.specs.Bytes.Image.{number_bytes}
use Rattle.vc_image.proofs.Heads.{one-more}
use Rattle.vc_image.proofs.head.put_numbers.Goals as goal

pub loop-number-preserved : goal.loop-number-preserved
unfolding number_bytes
loop-number-preserved c =
    one-more number_bytes c.args.head.now.items c.args.numbers.now c.loop-number.number-index _ c.loop-number-test.true c.loop-number.invariant
    (c.in_ok-extend_from_slice.ensures.items ∙ ap (λ z. c.loop-number.head.items ++ z) c.to_le_bytes.ensures)
