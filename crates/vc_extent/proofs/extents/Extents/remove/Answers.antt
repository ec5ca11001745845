use Rattle.vc_base.proofs.Common.{◌≡◌, List, map, length, Some, filter, remove, sym, ap, ◌∙◌, subst, arith, length-set, ∥∥₁_elim, ∥∥₁_map}
use Rattle.vc_seg.specs.Back.{has_other_number}
use Rattle.vc_seg.specs.Segment.{Bytes, pair_of}
use Rattle.vc_extent.specs.Tiling.{AreExtents, IsNamed, tiling}
use Rattle.vc_extent.proofs.Places.{size-place}
use Rattle.vc_extent.proofs.Propositions.{segments-set}
use Rattle.vc_extent.proofs.Removes.{AreExtents-remove, pairs-filter, removed-is, tiling-filter}
use Rattle.vc_extent.proofs.WalkStarts.{near-removed}
use Rattle.vc_extent.proofs.extents.Extents.remove.Goals as goal
use Rattle.vc_extent.proofs.extents.Extents.remove.Goals.{After-remove}

kept : (c : After-remove) → c.remove.new.self.items ≡ filter (has_other_number c.args.n) c.args.self.now.segs.items
kept c =
    let p = c.place-place.ensures.place in
    c.remove.ensures.items ∙ ∥∥₁_elim c.args.self.now.kept (segments-set _ _) (λ k. removed-is c.args.n c.place-place.result c.args.self.now.segs.items k.segments.distinct p.within p.numbered)

pub invariant_of-self : goal.invariant_of-self
invariant_of-self c =
    let p = c.place-place.ensures.place in
    let made : ∥ AreExtents (remove c.args.self.now.segs.items c.place-place.result) c.close_up.new.index.items ∥₁ =
    ∥∥₁_map c.args.self.now.kept
    (λ k. AreExtents-remove c.args.self.now.segs.items c.args.self.now.index.items c.close_up.new.index.items c.args.n c.place-place.result k c.place-place.ensures.last p.within p.numbered (c.close_up.ensures.len ∙ length-set c.args.self.now.index.items c.args.n 0) c.close_up.ensures.numbers) in
    record {
      kept = subst (λ (xs : List Bytes). ∥ AreExtents xs c.close_up.new.index.items ∥₁) (sym c.remove.ensures.items) made;
      reserved = omega (arith, c.remove.ensures.capacity, c.args.self.now.reserved);
      named = λ some.
          subst (λ (xs : List Bytes). IsNamed (tiling xs) c.outside-self.result.0) (sym c.remove.ensures.items)
          (near-removed c.outside-self.ensures c.args.self.now.segs.items c.place-place.result p.numbered c.args.self.now.named some);
    }

pub returns-clause-segs : goal.returns-clause-segs
returns-clause-segs c = kept (goal.at.returns-clause-segs c).After-remove

pub returns-clause-tiling : goal.returns-clause-tiling
returns-clause-tiling c = ap tiling (kept (goal.at.returns-clause-tiling c).After-remove) ∙ tiling-filter c.args.n c.args.self.now.segs.items

pub returns-clause-pairs : goal.returns-clause-pairs
returns-clause-pairs c = ap (map pair_of) (kept (goal.at.returns-clause-pairs c).After-remove) ∙ pairs-filter c.args.n c.args.self.now.segs.items

pub returns-clause-size : goal.returns-clause-size
returns-clause-size c =
    let p = c.place-place.ensures.place in
    let s : Bytes = c.remove.result in
    ap (λ (b : Bytes). Some (length b.bytes)) c.remove.ensures.value ∙ size-place c.args.n c.place-place.result c.args.self.now.segs.items s p.within p.numbered p.first
