use Rattle.vc_base.proofs.Common.{◌+◌, length, take, drop, sym, ap, ◌∙◌, arith}
use Rattle.vc_base.proofs.Lists.{length-part}
use Rattle.vc_extent.proofs.Changed.{within}
use Rattle.vc_extent.proofs.body.body_in.Goals as goal

pub returns-clause-bytes : goal.returns-clause-bytes
returns-clause-bytes c =
    let w = within c.requires.there in
    c.bytes.ensures ∙ (ap (λ k. take k (drop (c.args.at + 16) c.args.seg.now.bytes)) c.size_in-size.ensures.value ∙ sym w.body)

pub returns-clause-len : goal.returns-clause-len
returns-clause-len c = ap length c.bytes.ensures ∙ (length-part c.args.seg.now.bytes (c.args.at + 16) c.size_in-size.result (omega (arith, c.size_in-size.ensures.within)) ∙ c.size_in-size.ensures.value)
