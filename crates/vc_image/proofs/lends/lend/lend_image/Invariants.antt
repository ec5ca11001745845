use Rattle.vc_image.proofs.Lending.{Lending}
use Rattle.vc_image.proofs.lends.lend.lend_image.Given as goal

-- those so far were lent and filled
abbrev pub invariant-loop-i : goal.invariant-loop-i
invariant-loop-i g l =
    Lending l.image l.i l.at l.extents.segs.items
    ((goal.SegDisc-dyn g (l.initial.disc.vtable, l.initial.disc.value)).state l.initial.disc.value)
    ((goal.SegDisc-dyn g (l.disc.vtable, l.disc.value)).state l.disc.value)
