use Rattle.vc_base.proofs.Common.{◌≡◌, ◌+◌, ◌*◌, map, length, filter, TookBack}
use Rattle.vc_best.proofs.Common.{AreKept, layout_by, pair_of, tiling}
use Rattle.vc_gaps.specs.Cost.{GapsCost}
use Rattle.vc_seg.specs.Back.{is_marked, stays_from}
use Rattle.vc_best.proofs.compact.give_back_unmarked.Given as goal

-- of those below the number, the segments that aren't marked are back
abbrev pub invariant-loop-number : goal.invariant-loop-number
invariant-loop-number g l =
    record {
      segments : map pair_of l.extents.segs.items ≡ filter (λ s. stays_from (is_marked l.marks) l.number s.0) (map pair_of l.initial.extents.segs.items);
      blocks : (layout_by l.extents.segs.items).blocks ≡ (layout_by l.initial.extents.segs.items).blocks;
      kept : AreKept l.extents.segs.items l.root.0;
      count : l.count + length (map pair_of l.extents.segs.items) ≡ length (map pair_of l.initial.extents.segs.items);
      cost : GapsCost (tiling l.initial.extents.segs.items) (tiling l.extents.segs.items) l.initial.root.0 l.root.0 0 0 (12 * l.count) 0 0;
      back : TookBack ((goal.SegDisc-dyn g (l.initial.disc.vtable, l.initial.disc.value)).state l.initial.disc.value) ((goal.SegDisc-dyn g (l.disc.vtable, l.disc.value)).state l.disc.value) (map pair_of l.initial.extents.segs.items) (map pair_of l.extents.segs.items);
    }
