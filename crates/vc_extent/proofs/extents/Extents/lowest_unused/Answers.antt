use Rattle.vc_base.proofs.Common.{◌≡◌, map, sym, ap, ◌∙◌, true≢false, lowest_unused, numbers}
use Rattle.vc_seg.specs.Segment.{pair_of}
use Rattle.vc_seg.proofs.Unused.{is_among, lowest_unused-unused}
use Rattle.vc_extent.proofs.Unused.{there-among}
use Rattle.vc_extent.proofs.extents.Extents.lowest_unused.Goals as goal

pub returns-clause-unused : goal.returns-clause-unused
returns-clause-unused c =
    λ there.
    let used = numbers (map pair_of c.args.self.now.segs.items) in
    let number : c.lowest_unused.result ≡ lowest_unused used = rw (← c.deref.ensures.value) c.lowest_unused.ensures.value in
    true≢false (sym (there-among c.lowest_unused.result c.args.self.now.segs.items there) ∙ (ap (λ n. is_among n used) number ∙ lowest_unused-unused used))
