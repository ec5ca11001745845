use Rattle.vc_base.proofs.Common.{◌≡◌, map, vec_capacity, filter, TookBack}
use Rattle.vc_seg.specs.Back.{is_marked, stays_from}
use Rattle.vc_seg.proofs.back.give_back.Given as goal

-- of those below the number, the segments that aren't marked are back
abbrev pub invariant-loop-number : goal.invariant-loop-number
invariant-loop-number g l =
    record {
      segments : l.segs.items ≡ filter (λ s. stays_from (is_marked l.marks) l.number (g.T.Numbered.pair s).0) l.initial.segs.items;
      back : TookBack
          ((goal.SegDisc-dyn g (l.initial.disc.vtable, l.initial.disc.value)).state l.initial.disc.value)
          ((goal.SegDisc-dyn g (l.disc.vtable, l.disc.value)).state l.disc.value)
          (map g.T.Numbered.pair l.initial.segs.items)
          (map g.T.Numbered.pair l.segs.items);
      room : vec_capacity l.segs ≡ vec_capacity l.initial.segs;
    }
