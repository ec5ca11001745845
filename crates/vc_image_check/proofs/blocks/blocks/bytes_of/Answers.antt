use Rattle.vc_base.proofs.Common.{◌≡◌, ◌+◌, ◌-◌, take, drop, sym, ap, ◌∙◌, arith, length-take}
use Rattle.vc_seg.specs.Field.{field_at}
use Rattle.vc_image_check.specs.Laws.BlockLaws.{marked-none}
use Rattle.vc_image_check.proofs.blocks.blocks.bytes_of.Goals as goal

pub returns-then-get-lt3-clause-bytes : goal.returns-then-get-lt3-clause-bytes
returns-then-get-lt3-clause-bytes c = sym (marked-none _ _ _ c.args.a c.args.blocks.now.known (omega (arith, c.get.ensures, c.if-get-lt3.true)))

pub returns-clause-bytes : goal.returns-clause-bytes
returns-clause-bytes c =
    let same : c.start-at.result + c.word-size.result - c.start-at.result ≡ field_at (c.start-at.result - 12) c.args.blocks.now.image.now = omega arith ∙ c.word-size.ensures in
    ap (λ z. take z (drop c.start-at.result c.args.blocks.now.image.now)) same ∙ c.start-at.ensures.bytes

pub returns-clause-most : goal.returns-clause-most
returns-clause-most c =
    let long = length-take (c.start-at.result + c.word-size.result - c.start-at.result) (drop c.start-at.result c.args.blocks.now.image.now) in
    omega (arith, long, c.word-size.ensures, c.start-at.ensures.most)
