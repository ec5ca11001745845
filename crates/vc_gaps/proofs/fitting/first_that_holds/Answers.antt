use Rattle.vc_base.proofs.Common.{sym, ◌∙◌, arith}
use Rattle.vc_gaps.proofs.Common.{IsAmongGaps, gap_fits, holds_at, key_of, tiling}
use Rattle.vc_gaps.proofs.Searching.{above-less, at-gap, gap-free, gap-within, key-small, next-gap, no-zero, on-gap}
use Rattle.vc_gaps.proofs.Walking.{next-above, walk-end, walk-found, walk-none, walk-steps}
use Rattle.vc_gaps.proofs.fitting.first_that_holds.Goals as goal

pub holds-requires-clause-free : goal.holds-requires-clause-free
holds-requires-clause-free g c =
    gap-free _ _ (at-gap _ _ c.args.gaps.now.extents.now.kept (holds_at (tiling c.args.gaps.now.extents.now.segs.items) c.args.span c.args.align) c.args.first c.loop-at.at c.args.steps.now c.loop-at.steps c.loop-at-test.true c.loop-at.invariant.0 c.loop-at.invariant.2 c.requires.within)

pub returns-then-holds-clause-found : goal.returns-then-holds-clause-found
returns-then-holds-clause-found g c = λ root xs h w.
    walk-found (holds_at (tiling c.args.gaps.now.extents.now.segs.items) c.args.span c.args.align) xs c.args.first c.loop-at.at c.args.steps.now c.loop-at.steps c.loop-at-test.true (sym c.holds.ensures.value ∙ c.if-holds.true) (c.loop-at.invariant.0 root xs h w)

pub returns-then-holds-clause-most_steps : goal.returns-then-holds-clause-most_steps
returns-then-holds-clause-most_steps g c = λ root xs h w.
    let k = walk-steps (holds_at (tiling c.args.gaps.now.extents.now.segs.items) c.args.span c.args.align) xs c.args.first c.loop-at.at c.args.steps.now c.loop-at.steps c.loop-at-test.true (c.loop-at.invariant.0 root xs h w) in
    rw c.holds.ensures.step k

pub next-at-requires : goal.next-at-requires
next-at-requires g c =
    gap-within _ _ (at-gap _ _ c.args.gaps.now.extents.now.kept (holds_at (tiling c.args.gaps.now.extents.now.segs.items) c.args.span c.args.align) c.args.first c.loop-at.at c.args.steps.now c.loop-at.steps c.loop-at-test.true c.loop-at.invariant.0 c.loop-at.invariant.2 c.requires.within)

pub loop-at-smaller : goal.loop-at-smaller
loop-at-smaller g c =
    let t = tiling c.args.gaps.now.extents.now.segs.items in
    let a = c.loop-at.at in
    let r : IsAmongGaps t a = at-gap _ _ c.args.gaps.now.extents.now.kept (holds_at t c.args.span c.args.align) c.args.first a c.args.steps.now c.loop-at.steps c.loop-at-test.true c.loop-at.invariant.0 c.loop-at.invariant.2 c.requires.within in
    above-less (key_of t a) (key_of t c.next-at.result) a c.next-at.result c.loop-at-test.true
    (key-small t a c.holds.ensures.small (gap_fits _ _ c.args.gaps.now.extents.now.kept a (gap-free t a r)))
    (λ some. next-above (key_of t) r.is_in.names a c.next-at.result r.is_in.tree.ascending (next-gap _ _ c.args.gaps.now.extents.now.kept r.root r.is_in.names r.is_in.tree a c.next-at.result r.is_in.within c.next-at.ensures) some)

pub loop-at-preserved : goal.loop-at-preserved
loop-at-preserved g c =
    let forward = c.loop-at.invariant.1 in
    let step = c.holds.ensures.step in (
      on-gap _ _ c.args.gaps.now.extents.now.kept (holds_at (tiling c.args.gaps.now.extents.now.segs.items) c.args.span c.args.align) c.args.first c.loop-at.at c.args.steps.now c.loop-at.steps c.loop-at-test.true c.loop-at.invariant.0 c.loop-at.invariant.2 c.requires.within
          c.next-at.result c.holds.new.steps c.holds.ensures.step (sym c.holds.ensures.value ∙ c.if-holds.false) c.next-at.ensures,
      omega arith,
      λ z. absurd (c.loop-at-test.true (c.loop-at.invariant.2 z)),
    )

pub returns-clause-found : goal.returns-clause-found
returns-clause-found g c = λ root xs h w.
    walk-none (holds_at (tiling c.args.gaps.now.extents.now.segs.items) c.args.span c.args.align) xs c.args.first c.loop-at.at c.args.steps.now c.loop-at.steps (no-zero _ _ c.args.gaps.now.extents.now.kept root xs h) c.loop-at-test.false (c.loop-at.invariant.0 root xs h w)

pub returns-clause-most_steps : goal.returns-clause-most_steps
returns-clause-most_steps g c = λ root xs h w.
    walk-end (holds_at (tiling c.args.gaps.now.extents.now.segs.items) c.args.span c.args.align) xs c.args.first c.loop-at.at c.args.steps.now c.loop-at.steps (c.loop-at.invariant.0 root xs h w)
