use Rattle.vc_base.proofs.Common.{eqb, ap, ◌∙◌, ∥∥₁_elim}
use Rattle.std.specs.Coded.{Coded-set, coded_bool}
use Rattle.vc_extent.specs.Tiling.{extent_of, tiling}
use Rattle.vc_gaps.specs.GapStore.{is_free}
use Rattle.vc_image_check.specs.Bytes.Contents.{contents_of_image}
use Rattle.vc_image_check.specs.Laws.Lying.{mark-free}
use Rattle.vc_image_check.proofs.gaps.free_extents.FreeExtentsKnown.has.Goals as goal

pub returns : goal.returns
returns c =
    let t = tiling (contents_of_image c.args.self.now.image.now).segs in
    ∥∥₁_elim c.args.self.now.known (Coded-set coded_bool (eqb c.get.result 1) (is_free t c.args.n)) (λ k.
    ap (λ z. eqb z 1) (c.get.ensures ∙ k.marked.marks c.args.n) ∙ mark-free (extent_of t c.args.n))
