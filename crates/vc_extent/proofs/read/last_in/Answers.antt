use Rattle.vc_base.proofs.Common.{◌+◌, ◌-◌, ℕ, length, sym, ap, ◌∙◌, subst, arith}
use Rattle.vc_extent.specs.Change.{behind, last_span}
use Rattle.vc_extent.specs.Extent.{extents}
use Rattle.vc_extent.specs.Tiles.{Tiles}
use Rattle.vc_extent.proofs.Changed.{rest-tiles}
use Rattle.vc_extent.proofs.Widens.{IsOn, last-from, walk-ends, walk-on}
use Rattle.vc_extent.proofs.read.last_in.Goals as goal
use Rattle.vc_extent.proofs.read.last_in.Goals.{After-field-span}

pub loop-at-init : goal.loop-at-init
loop-at-init c =
    let from = c.args.from + 16 in
    let es = extents c.args.seg.now.bytes in
    let is = c.span_in-span.ensures.value in
    record {
      end = ap (λ k. k - 16) c.size-end.ensures.value;
      left = (behind from es, (rest-tiles c.requires is, ap (λ (k : ℕ). last_span k (behind from es)) is ∙ last-from from 0 es c.requires.named));
    }

-- the step from the place that was read
on : (c : After-field-span) → IsOn c.args.seg.now.bytes (length c.args.seg.now.bytes - 16) c.loop-at.span c.loop-at.at c.loop-at.invariant.left.0
on c = walk-on c.args.seg.now.bytes (length c.args.seg.now.bytes - 16) c.loop-at.span c.loop-at.at c.loop-at.invariant.left.0 c.loop-at.invariant.left.1.0 (omega (arith, c.loop-at.invariant.end))

pub overflow_add-at-in-loop-at : goal.overflow_add-at-in-loop-at
overflow_add-at-in-loop-at c =
    let s = on (goal.at.overflow_add-at-in-loop-at c).After-field-span in
    omega (arith, s.end, c.field-span.ensures, c.loop-at.invariant.end)

pub loop-at-smaller : goal.loop-at-smaller
loop-at-smaller c =
    let s = on (goal.at.loop-at-smaller c).After-field-span in
    omega (arith, s.end, s.least, c.field-span.ensures, c.loop-at.invariant.end)

pub loop-at-preserved : goal.loop-at-preserved
loop-at-preserved c =
    let s = on (goal.at.loop-at-preserved c).After-field-span in
    let b = c.args.seg.now.bytes in
    record {
      end = c.loop-at.invariant.end;
      left = (
        s.rest,
        (
          subst (λ (k : ℕ). Tiles b (length b - 16) k (c.loop-at.at + k) s.rest) (sym c.field-span.ensures) s.tiles,
          ap (λ (k : ℕ). last_span k s.rest) c.field-span.ensures ∙ (s.last ∙ c.loop-at.invariant.left.1.1),
        ),
      );
    }

pub returns : goal.returns
returns c =
    let b = c.args.seg.now.bytes in
    walk-ends b (length b - 16) c.loop-at.span c.loop-at.at c.loop-at.invariant.left.0 c.loop-at.invariant.left.1.0 (omega (arith, c.loop-at.invariant.end)) ∙ c.loop-at.invariant.left.1.1
