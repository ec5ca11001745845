use Rattle.vc_base.proofs.Common.{◌≡◌, ◌-◌, ◌≤◌, ap, sym, subst, ◌∙◌}
use Rattle.vc_seg.specs.Field.{field_at}
use Rattle.vc_extent.specs.Tiling.{extent_of, tiling}
use Rattle.vc_image_check.specs.Bytes.Contents.{contents_of_image}
use Rattle.vc_image_check.specs.Laws.Lying.{lies}
use Rattle.vc_image_check.proofs.gaps.free_extents.FreeExtents.span.Goals as goal
use Rattle.vc_image_check.proofs.gaps.free_extents.FreeExtents.span.Goals.{After-word}

-- the word that was read is the span
is : (c : After-word) → c.word.result ≡ (extent_of (tiling (contents_of_image c.args.self.now.image.now).segs) c.args.a).span
is c = c.word.ensures ∙ ap (λ z. field_at (z - 16) c.args.self.now.image.now) c.start.ensures.value ∙ (lies _ _ _ c.args.self.now.known c.args.a c.requires).span

pub returns-clause-value : goal.returns-clause-value
returns-clause-value c = is (goal.at.returns-clause-value c).After-word

pub returns-clause-most : goal.returns-clause-most
returns-clause-most c = subst (λ z. z ≤ 33554432) (sym (is (goal.at.returns-clause-most c).After-word)) (lies _ _ _ c.args.self.now.known c.args.a c.requires).most
