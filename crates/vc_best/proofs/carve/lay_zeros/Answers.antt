use Rattle.vc_base.proofs.Common.{◌≡◌, replicate, ap, ◌∙◌, arith, ∥∥₁_elim, ℕ_set}
use Rattle.vc_best.proofs.Common.{Extent, IsBusy, extent_of, tiling}
use Rattle.vc_best.proofs.Carves.{laid, marked}
use Rattle.vc_best.proofs.Known.{cut-of}
use Rattle.vc_best.proofs.Outs.{gaps-laid}
use Rattle.vc_best.proofs.Sets.{tiling-set}
use Rattle.vc_best.proofs.carve.lay_zeros.Goals as goal
use Rattle.vc_best.proofs.carve.lay_zeros.Goals.{After-mark_busy}

-- what is marked has the span that it had, and the size that was asked for
span : (c : After-mark_busy) → (extent_of (tiling c.mark_busy.new.self.segs.items) c.args.a.0).span ≡ (extent_of (tiling c.args.extents.now.segs.items) c.args.a.0).span
span c = ∥∥₁_elim c.args.extents.now.kept (hlevel (ℕ_set)) (λ k. ap (λ (x : Extent). x.span) (marked _ _ c.args.a.0 c.args.size c.args.tag (extent_of (tiling c.mark_busy.new.self.segs.items) c.args.a.0).body (cut-of _ _ c.args.a.0 k c.requires.free.named) c.mark_busy.ensures.changed.tiling))

size : (c : After-mark_busy) → (extent_of (tiling c.mark_busy.new.self.segs.items) c.args.a.0).size ≡ c.args.size
size c = ∥∥₁_elim c.args.extents.now.kept (hlevel (ℕ_set)) (λ k. ap (λ (x : Extent). x.size) (marked _ _ c.args.a.0 c.args.size c.args.tag (extent_of (tiling c.mark_busy.new.self.segs.items) c.args.a.0).body (cut-of _ _ c.args.a.0 k c.requires.free.named) c.mark_busy.ensures.changed.tiling))

busy : (c : After-mark_busy) → IsBusy (tiling c.mark_busy.new.self.segs.items) c.args.a.0
busy c = record { named = rw (span c) c.requires.free.named; busy = rw (size c) (omega arith) }

pub fill-requires-clause-busy : goal.fill-requires-clause-busy
fill-requires-clause-busy c = busy (goal.at.fill-requires-clause-busy c).After-mark_busy

pub fill-requires-clause-within : goal.fill-requires-clause-within
fill-requires-clause-within c = rw (size (goal.at.fill-requires-clause-within c).After-mark_busy) (omega arith)

pub returns-clause-changed : goal.returns-clause-changed
returns-clause-changed c =
    let t1 = tiling c.mark_busy.new.self.segs.items in
    record {
      tiling =
          ∥∥₁_elim c.args.extents.now.kept (hlevel (tiling-set))
          (λ k.
          laid (tiling c.args.extents.now.segs.items) t1 c.args.a.0 c.args.size c.args.tag (extent_of t1 c.args.a.0).body (cut-of _ _ c.args.a.0 k c.requires.free.named) c.mark_busy.ensures.changed.tiling
          (tiling c.fill.new.self.segs.items) c.mark_busy.ensures.len c.fill.ensures.tiling);
      pairs = c.fill.ensures.pairs ∙ c.mark_busy.ensures.changed.pairs;
    }

pub returns-clause-gaps : goal.returns-clause-gaps
returns-clause-gaps c =
    let t1 = tiling c.mark_busy.new.self.segs.items in
    gaps-laid (tiling c.args.extents.now.segs.items) t1 (tiling c.fill.new.self.segs.items) c.args.a.0 c.args.size c.args.tag (extent_of t1 c.args.a.0).body (replicate c.args.size 0) c.mark_busy.ensures.changed.tiling c.requires.some c.requires.free.named
    (busy (goal.at.returns-clause-gaps c).After-mark_busy) c.fill.ensures.tiling
