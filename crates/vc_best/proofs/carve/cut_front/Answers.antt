use Rattle.vc_base.proofs.Common.{ℕ, ◌-◌, refl, ap, ◌∙◌, arith, ∥∥₁_elim, address, place_of}
use Rattle.vc_best.proofs.Common.{change_extent, split, tiling}
use Rattle.vc_best.proofs.Carves.{front-none, front-some}
use Rattle.vc_best.proofs.Known.{cut-of}
use Rattle.vc_best.proofs.Outs.{gaps-front}
use Rattle.vc_best.proofs.Sets.{tiling-set}
use Rattle.vc_best.proofs.carve.cut_front.Goals as goal

pub returns-then-off-clause-changed : goal.returns-then-off-clause-changed
returns-then-off-clause-changed c =
    let t = tiling c.args.extents.now.segs.items in
    record {
      tiling =
          ∥∥₁_elim c.args.extents.now.kept (hlevel (tiling-set))
          (λ k.
          c.split-rest.ensures.changed.tiling
          ∙ (ap (λ (n : ℕ). change_extent c.args.a.0 (split (c.args.off - n)) t) c.off-then-off.ensures
          ∙ front-some t c.args.a.0 c.args.off (cut-of _ _ c.args.a.0 k c.requires.free.named) (omega arith)));
      pairs = c.split-rest.ensures.changed.pairs;
    }

pub returns-else-off-clause-changed : goal.returns-else-off-clause-changed
returns-else-off-clause-changed c =
    record {
      tiling = ∥∥₁_elim c.args.extents.now.kept (hlevel (tiling-set)) (λ k. front-none (tiling c.args.extents.now.segs.items) c.args.a.0 c.args.off (cut-of _ _ c.args.a.0 k c.requires.free.named) (omega arith));
      pairs = refl;
    }

pub returns-then-off-clause-gaps : goal.returns-then-off-clause-gaps
returns-then-off-clause-gaps c =
    gaps-front _ _ c.args.extents.now.kept c.args.a.0 c.requires.free.named (tiling c.split-rest.new.self.segs.items) c.args.off c.split-rest.result.0 (omega arith) c.requires.within c.requires.multiple
    (c.split-rest.ensures.changed.tiling ∙ ap (λ (n : ℕ). change_extent c.args.a.0 (split (c.args.off - n)) (tiling c.args.extents.now.segs.items)) c.off-then-off.ensures)
    (c.split-rest.ensures.rest ∙ ap (λ (n : ℕ). address ((place_of c.args.a.0).0, n)) (let own = c.off-then-off.ensures in omega arith))
