use Rattle.vc_base.proofs.Common.{ℕ, ◌+◌, ◌-◌, ◌<◌, length, sym, subst, arith}
use Rattle.vc_extent.specs.Extent.{extents}
use Rattle.vc_extent.specs.Change.{behind, extent_in}
use Rattle.vc_extent.proofs.Changed.{rest-tiles}
use Rattle.vc_extent.proofs.Neighbours.{next-off, next-none, behind-named}
use Rattle.vc_extent.proofs.next.next_in.Goals as goal

pub returns-then-end-size-clause-value : goal.returns-then-end-size-clause-value
returns-then-end-size-clause-value c = next-off c.args.seg.now.bytes (length c.args.seg.now.bytes - 16) c.span_in.result (c.args.at + c.span_in.result) (behind (c.args.at + 16) (extents c.args.seg.now.bytes)) (rest-tiles c.requires.there c.span_in.ensures.value) (omega (arith, c.size.ensures.value, c.if-end-size.true))

pub returns-else-end-size-clause-value : goal.returns-else-end-size-clause-value
returns-else-end-size-clause-value c = next-none c.args.seg.now.bytes (length c.args.seg.now.bytes - 16) c.span_in.result (c.args.at + c.span_in.result) (behind (c.args.at + 16) (extents c.args.seg.now.bytes)) (rest-tiles c.requires.there c.span_in.ensures.value) (omega (arith, c.size.ensures.value, c.if-end-size.false))

pub returns-then-end-size-clause-named : goal.returns-then-end-size-clause-named
returns-then-end-size-clause-named c =
    let b = c.args.seg.now.bytes in
    let at = c.args.at in
    let span = c.span_in.ensures.value in
    let less : at + (extent_in (at + 16) (extents b)).span < length b - 16 = omega (arith, c.size.ensures.value, c.if-end-size.true) in
    subst (λ (k : ℕ). 0 < (extent_in (at + k + 16) (extents b)).span) (sym span) (behind-named c.requires.there less)
