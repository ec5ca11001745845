use Rattle.vc_base.proofs.Common.{◌≡◌, get_or, sym, ap, ◌∙◌, subst, ∥∥₁_map, get_or_default}
use Rattle.vc_seg.specs.Segment.{Bytes, pair_of}
use Rattle.vc_extent.specs.Extent.{extents}
use Rattle.vc_extent.specs.Change.{one_free}
use Rattle.vc_extent.specs.Tiles.{IsTiled}
use Rattle.vc_extent.proofs.Resets.{one-free}
use Rattle.vc_extent.proofs.Sets.{AreExtents-set, pairs-set, tiling-set}
use Rattle.vc_extent.proofs.WalkStarts.{near-reset}
use Rattle.vc_extent.proofs.extents.Extents.reset.Goals as goal
use Rattle.vc_extent.proofs.extents.Extents.reset.Goals.{After-format}

same : (c : After-format) → (d : Bytes) → c.index_mut.result.now ≡ get_or c.args.self.now.segs.items c.place-place.result d
same c d = c.index_mut.ensures.value ∙ get_or_default c.args.self.now.segs.items c.place-place.result c.index_mut.result.now d c.place-place.ensures.place.within

pub invariant_of-self : goal.invariant_of-self
invariant_of-self c =
    let h = (goal.at.invariant_of-self c).After-format in
    record {
      kept =
          ∥∥₁_map c.args.self.now.kept
          (AreExtents-set c.args.self.now.segs.items c.args.self.now.index.items c.place-place.result c.format.new.seg c.place-place.ensures.place.within
          (λ d. c.format.ensures.number ∙ ap (λ (b : Bytes). b.number) (same h d)) c.format.ensures.tiled);
      reserved = c.args.self.now.reserved;
      named =
          near-reset c.outside-self.ensures c.args.self.now.segs.items c.place-place.result c.format.new.seg c.place-place.ensures.place
          (c.format.ensures.number ∙ (ap (λ (b : Bytes). b.number) (same h c.index_mut.result.now) ∙ c.place-place.ensures.place.numbered c.index_mut.result.now)) c.format.ensures.tiled c.args.self.now.named;
    }

pub returns-clause-tiling : goal.returns-clause-tiling
returns-clause-tiling c =
    let h = (goal.at.returns-clause-tiling c).After-format in
    let p = c.place-place.ensures.place in
    let s : Bytes = c.index_mut.result.now in
    let tiled : IsTiled s.bytes = subst (λ (b : Bytes). IsTiled b.bytes) (sym (same h s)) (c.place-place.ensures.tiled s) in
    tiling-set c.args.n c.place-place.result c.args.self.now.segs.items c.format.new.seg one_free p.within p.first p.numbered (c.format.ensures.number ∙ (ap (λ (b : Bytes). b.number) (same h s) ∙ p.numbered s))
    (λ d. c.format.ensures.extents ∙ (one-free s.bytes tiled ∙ ap (λ (b : Bytes). one_free (extents b.bytes)) (same h d)))

pub returns-clause-pairs : goal.returns-clause-pairs
returns-clause-pairs c =
    let h = (goal.at.returns-clause-pairs c).After-format in
    pairs-set c.place-place.result c.args.self.now.segs.items c.format.new.seg c.place-place.ensures.place.within (λ d. (λ j. (c.format.ensures.number j, c.format.ensures.len j)) ∙ ap pair_of (same h d))
