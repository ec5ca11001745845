use Rattle.vc_base.proofs.Common.{◌≡◌, [], map, sym, refl, ap, ◌∙◌, subst, contains, place_of, span}
use Rattle.vc_best.proofs.Common.{IsFree, carve, change_extent, pair_of, split, tiling}
use Rattle.vc_extent.specs.declared.extents.Extents.{Extents}
use Rattle.vc_gaps.specs.GapTree.{IsInGaps}
use Rattle.vc_splay.specs.Seats.{Seated}
use Rattle.vc_gaps.specs.GapStore.{gap_store}
use Rattle.vc_gaps.proofs.GapTrees.{free-bool}
use Rattle.vc_best.proofs.Bests.{best-free}
use Rattle.vc_best.proofs.Linking.{in-tree}
use Rattle.vc_best.proofs.Plain.{layout-stays, merged-stays}
use Rattle.vc_best.proofs.Puts.{carved-layout, carved-merged}
use Rattle.vc_best.proofs.Starting.{start-above, start-carved, start-cost, start-free, start-gaps, start-settle, start-span}
use Rattle.vc_best.proofs.tree.put_at_start.Goals as goal
use Rattle.vc_best.proofs.tree.put_at_start.Goals.{After-gap_seat-seat, After-lay_zeros, After-split-rest}

pub gap_seat-seat-requires : goal.gap_seat-seat-requires
gap_seat-seat-requires c =
    let e = c.args.extents.now in
    let f = best-free e.segs.items e.index.items e.kept (span c.args.size) 32 c.args.a.0 c.requires.least in
    record { root = c.args.root.now.0; is_in = in-tree (tiling e.segs.items) c.args.root.now.0 [] c.args.a.0 c.requires.kept.gaps f.named f.free refl }

-- the gap is free, and its place is told
free : (c : After-gap_seat-seat) → IsFree (tiling c.args.extents.now.segs.items) c.args.a.0
free c = let e = c.args.extents.now in best-free e.segs.items e.index.items e.kept (span c.args.size) 32 c.args.a.0 c.requires.least

seat : (c : After-gap_seat-seat) → Seated (gap_store (tiling c.args.extents.now.segs.items)) c.args.root.now.0 c.args.a.0 c.gap_seat-seat.result.above c.gap_seat-seat.result.side c.gap_seat-seat.result.left c.gap_seat-seat.result.right c.requires.kept.gaps.tree.tree
seat c =
    let h = c.requires.kept.gaps in
    let f = free c in
    let i : IsInGaps (tiling c.args.extents.now.segs.items) c.args.root.now.0 c.args.a.0 = in-tree (tiling c.args.extents.now.segs.items) c.args.root.now.0 [] c.args.a.0 h f.named f.free refl in
    c.gap_seat-seat.ensures.seat c.args.root.now.0 h.tree.tree h.tree.is_tree
    (ap (λ xs. contains xs c.args.a.0) h.tree.list ∙ h.exact c.args.a.0 ∙ rw (free-bool (tiling c.args.extents.now.segs.items) c.args.a.0 f) refl)

pub split-rest-requires-clause-free : goal.split-rest-requires-clause-free
split-rest-requires-clause-free c =
    subst (λ (e : Extents). IsFree (tiling e.segs.items) c.args.a.0) (sym c.gap_seat-seat.ensures.same) (free (goal.at.split-rest-requires-clause-free c).After-gap_seat-seat)

-- the gap is split
parted : (c : After-split-rest) → tiling c.split-rest.new.self.segs.items ≡ change_extent c.args.a.0 (split c.span_of.result) (tiling c.args.extents.now.segs.items)
parted c = c.split-rest.ensures.changed.tiling ∙ ap (λ (e : Extents). change_extent c.args.a.0 (split c.span_of.result) (tiling e.segs.items)) c.gap_seat-seat.ensures.same

pub lay_zeros-requires-clause-free : goal.lay_zeros-requires-clause-free
lay_zeros-requires-clause-free c =
    let at = goal.at.lay_zeros-requires-clause-free c in
    start-free _ _ c.args.extents.now.kept c.args.a.0 c.args.size c.args.tag c.requires.sized (free at.After-gap_seat-seat) c.requires.left _ _ c.span_of.ensures (parted at.After-split-rest)

pub lay_zeros-requires-clause-span : goal.lay_zeros-requires-clause-span
lay_zeros-requires-clause-span c =
    let at = goal.at.lay_zeros-requires-clause-span c in
    start-span _ _ c.args.extents.now.kept c.args.a.0 c.args.size c.args.tag c.requires.sized (free at.After-gap_seat-seat) c.requires.left _ _ c.span_of.ensures (parted at.After-split-rest)

pub take_gap_seat-requires-clause-node : goal.take_gap_seat-requires-clause-node
take_gap_seat-requires-clause-node c =
    let at = goal.at.take_gap_seat-requires-clause-node c in
    start-settle _ _ _ _ c.args.extents.now.kept c.lay_zeros.new.extents.kept c.args.a.0 c.args.size c.args.tag c.requires.sized (free at.After-gap_seat-seat) c.requires.left _ _ c.span_of.ensures (parted at.After-split-rest) c.lay_zeros.ensures.changed.tiling
    c.split-rest.result.0 c.split-rest.ensures.rest _ c.requires.kept.gaps c.requires.least _ _ _ _ (seat at.After-gap_seat-seat)

pub take_gap_seat-requires-clause-above : goal.take_gap_seat-requires-clause-above
take_gap_seat-requires-clause-above c =
    let at = goal.at.take_gap_seat-requires-clause-above c in
    start-above _ _ _ _ c.args.extents.now.kept c.lay_zeros.new.extents.kept c.args.a.0 c.args.size c.args.tag c.requires.sized (free at.After-gap_seat-seat) c.requires.left _ _ c.span_of.ensures (parted at.After-split-rest) c.lay_zeros.ensures.changed.tiling
    c.split-rest.result.0 c.split-rest.ensures.rest _ c.requires.kept.gaps c.requires.least _ _ _ _ (seat at.After-gap_seat-seat)

-- the tiling with the block
carved : (c : After-lay_zeros) → tiling c.lay_zeros.new.extents.segs.items ≡ change_extent c.args.a.0 (carve (place_of c.args.a.0).1 c.args.size c.args.tag) (tiling c.args.extents.now.segs.items)
carved c =
    let at = goal.at.After-lay_zeros c in
    start-carved _ _ c.args.extents.now.kept c.args.a.0 c.args.size c.args.tag c.requires.sized (free at.After-gap_seat-seat) c.requires.left _ _ c.span_of.ensures (parted at.After-split-rest) _ c.lay_zeros.ensures.changed.tiling

pub returns-clause-layout : goal.returns-clause-layout
returns-clause-layout c =
    let at = goal.at.returns-clause-layout c in
    layout-stays c.lay_zeros.new.extents.segs.items c.take_gap_seat.new.extents.segs.items c.take_gap_seat.ensures.rest
    ∙ carved-layout _ _ _ _ c.args.extents.now.kept c.lay_zeros.new.extents.kept c.args.a.0 (place_of c.args.a.0).1 c.args.size c.args.tag (free at.After-gap_seat-seat) c.requires.sized.some (carved at.After-lay_zeros)
    (c.lay_zeros.ensures.changed.pairs ∙ c.split-rest.ensures.changed.pairs ∙ ap (λ (e : Extents). map pair_of e.segs.items) c.gap_seat-seat.ensures.same)

pub returns-clause-kept : goal.returns-clause-kept
returns-clause-kept c =
    let at = goal.at.returns-clause-kept c in
    record {
      merged =
          merged-stays (tiling c.lay_zeros.new.extents.segs.items) (tiling c.take_gap_seat.new.extents.segs.items) c.take_gap_seat.ensures.rest.extents
          (carved-merged _ _ _ _ c.args.extents.now.kept c.lay_zeros.new.extents.kept c.args.a.0 (place_of c.args.a.0).1 c.args.size c.args.tag (free at.After-gap_seat-seat) c.requires.sized.some (carved at.After-lay_zeros) c.requires.kept.merged);
      gaps =
          start-gaps _ _ _ _ c.args.extents.now.kept c.lay_zeros.new.extents.kept c.args.a.0 c.args.size c.args.tag c.requires.sized (free at.After-gap_seat-seat) c.requires.left _ _ c.span_of.ensures (parted at.After-split-rest) c.lay_zeros.ensures.changed.tiling
          c.split-rest.result.0 c.split-rest.ensures.rest _ c.requires.kept.gaps c.requires.least _ _ _ _ (seat at.After-gap_seat-seat)
          _ _ c.take_gap_seat.new.extents.kept c.take_gap_seat.result.0 c.take_gap_seat.ensures.rest.extents c.take_gap_seat.ensures.tree;
    }

pub returns-clause-cost : goal.returns-clause-cost
returns-clause-cost c =
    let at = goal.at.returns-clause-cost c in
    start-cost _ _ _ _ c.args.extents.now.kept c.lay_zeros.new.extents.kept c.args.a.0 c.args.size c.args.tag c.requires.sized (free at.After-gap_seat-seat) c.requires.left _ _ c.span_of.ensures (parted at.After-split-rest) c.lay_zeros.ensures.changed.tiling
    c.split-rest.result.0 c.split-rest.ensures.rest _ c.requires.kept.gaps c.requires.least _ _ _ _ (seat at.After-gap_seat-seat)
    _ _ c.take_gap_seat.new.extents.kept c.take_gap_seat.result.0 c.take_gap_seat.ensures.rest.extents c.take_gap_seat.ensures.tree
