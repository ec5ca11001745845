use Rattle.vc_base.proofs.Common.{◌≡◌, length, decimal, ap, ◌∙◌, arith}
use Rattle.std.proofs.lemmas.Fmt.{decimal_nonempty}
use Rattle.vc_image_run.proofs.text.blocks.label_of.Goals as goal

pub new-requires-clause-least : goal.new-requires-clause-least
new-requires-clause-least c =
    let some = decimal_nonempty c.args.tag (omega (arith, c.ranges.tag)) in
    let same : c.as_bytes.result.now ≡ decimal c.args.tag = c.as_bytes.ensures.value ∙ c.format.ensures.text in
    let long = ap length same in
    omega (arith, some, long)
