use Rattle.vc_base.proofs.Common.{refl, ◌∙◌, arith, ∥∥₁_elim}
use Rattle.vc_best.proofs.Common.{tiling}
use Rattle.vc_best.proofs.Carves.{back-none, back-some}
use Rattle.vc_best.proofs.Known.{cut-of}
use Rattle.vc_best.proofs.Outs.{gaps-back}
use Rattle.vc_best.proofs.Sets.{tiling-set}
use Rattle.vc_best.proofs.carve.cut_back.Goals as goal

pub returns-then-bytes-span_at-clause-changed : goal.returns-then-bytes-span_at-clause-changed
returns-then-bytes-span_at-clause-changed g c =
    record {
      tiling = ∥∥₁_elim c.args.extents.now.kept (hlevel (tiling-set)) (λ k. c.split.ensures.changed.tiling ∙ back-some (tiling c.args.extents.now.segs.items) c.args.a.0 c.args.bytes (cut-of _ _ c.args.a.0 k c.requires.free.named) (omega arith));
      pairs = c.split.ensures.changed.pairs;
    }

pub returns-else-bytes-span_at-clause-changed : goal.returns-else-bytes-span_at-clause-changed
returns-else-bytes-span_at-clause-changed g c =
    record {
      tiling = ∥∥₁_elim c.args.extents.now.kept (hlevel (tiling-set)) (λ k. back-none (tiling c.args.extents.now.segs.items) c.args.a.0 c.args.bytes (cut-of _ _ c.args.a.0 k c.requires.free.named) (omega arith));
      pairs = refl;
    }

pub returns-then-bytes-span_at-clause-gaps : goal.returns-then-bytes-span_at-clause-gaps
returns-then-bytes-span_at-clause-gaps g c =
    gaps-back _ _ c.args.extents.now.kept c.args.a.0 c.requires.free.named (tiling c.split.new.self.segs.items) c.args.bytes c.split.result.0 c.requires.least (omega arith) c.requires.multiple c.split.ensures.changed.tiling c.split.ensures.rest
