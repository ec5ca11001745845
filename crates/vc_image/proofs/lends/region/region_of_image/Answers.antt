use Rattle.vc_base.proofs.Common.{List, sym, ap, ◌∙◌}
use Rattle.vc_seg.specs.Segment.{Bytes}
use Rattle.vc_best.specs.Counts.{all_extents}
use Rattle.vc_extent.specs.Tiling.{tiling}
use Rattle.vc_image.specs.Lends.Regions.{busy_count}
use Rattle.vc_image_check.specs.Laws.Lying.{root-is}
use Rattle.vc_image.proofs.Regions.{blocks-busy, whole-front}
use Rattle.vc_image.proofs.lends.region.region_of_image.Goals as goal

pub over-requires-clause-whole : goal.over-requires-clause-whole
over-requires-clause-whole g c = whole-front c.args.image.now c.in-Ok.extents.segs.items c.word.result c.requires c.in-Ok.ensures.segments c.word.ensures

pub over-requires-clause-counted : goal.over-requires-clause-counted
over-requires-clause-counted g c =
    let e = c.in-Ok.extents in
    c.count_blocks-busy.ensures ∙ ap (λ (ss : List Bytes). busy_count (all_extents (tiling ss))) c.deref.ensures.value ∙ blocks-busy e.segs.items e.index.items e.kept

pub returns-in-Ok-clause-root : goal.returns-in-Ok-clause-root
returns-in-Ok-clause-root g c = ap (λ a. a.0) c.over.ensures.root ∙ c.word.ensures ∙ sym (root-is c.args.image.now)
