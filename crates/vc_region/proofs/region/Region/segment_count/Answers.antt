use Rattle.vc_base.proofs.Common.{length, ap, ◌∙◌, arith, length-map}
use Rattle.vc_seg.specs.Segment.{pair_of}
use Rattle.vc_region.specs.Parts.{segments_in}
use Rattle.vc_region.proofs.KeptSegments.{best-segments, last-segments}
use Rattle.vc_region.proofs.region.Region.segment_count.Goals as goal

pub returns-in-Best : goal.returns-in-Best
returns-in-Best g c =
    let long = ap length (ap segments_in c.in-Best.is ∙ best-segments c.in-Best.best.extents.segs.items) ∙ length-map c.in-Best.best.extents.segs.items pair_of in
    omega (arith, long, c.in-Best.best.extents.segs.ok, c.len.ensures)

pub returns-in-Last : goal.returns-in-Last
returns-in-Last g c =
    let long = ap length (ap segments_in c.in-Last.is ∙ last-segments c.in-Last.last.segs.items c.in-Last.last.latest.0) ∙ length-map c.in-Last.last.segs.items pair_of in
    omega (arith, long, c.in-Last.last.segs.ok, c.len-in-Last.ensures)

pub returns-in-Debug : goal.returns-in-Debug
returns-in-Debug g c =
    let long = ap length (ap segments_in c.in-Debug.is ∙ best-segments c.in-Debug.debug.best.extents.segs.items) ∙ length-map c.in-Debug.debug.best.extents.segs.items pair_of in
    omega (arith, long, c.in-Debug.debug.best.extents.segs.ok, c.len-in-Debug.ensures)

pub returns-in-Profile : goal.returns-in-Profile
returns-in-Profile g c =
    let long = ap length (ap segments_in c.in-Profile.is ∙ best-segments c.in-Profile.profile.best.extents.segs.items) ∙ length-map c.in-Profile.profile.best.extents.segs.items pair_of in
    omega (arith, long, c.in-Profile.profile.best.extents.segs.ok, c.len-in-Profile.ensures)
