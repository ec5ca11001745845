use Rattle.vc_base.proofs.Common.{◌≡◌, min, length, sym, ◌∙◌, arith}
use Rattle.vc_dtdisc.specs.Shapes.{lower_case}
use Rattle.vc_dtdisc.proofs.FoldedOrder.{ends_compare}
use Rattle.vc_dtdisc.proofs.bytes.compare_folded.Goals as goal

pub returns : goal.returns
returns c =
    let a = c.args.a.now in
    let b = c.args.b.now in
    let at : c.loop-i.i ≡ min (length a) (length b) = omega arith in
    c.cmp.ensures ∙ sym (c.loop-i.invariant ∙ (rw at (ends_compare lower_case a b)))
