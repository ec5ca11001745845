use Rattle.vc_base.proofs.Common.{ℕ, List, map, drop, sym, ap, ◌∙◌, subst}
use Rattle.vc_seg.specs.Tally.{tally_of}
use Rattle.vc_seg.specs.Segment.{AreSegments, pair_of}
use Rattle.vc_region.specs.Parts.{segments_in}
use Rattle.vc_region.proofs.KeptSegments.{best-legal, best-segments, last-legal, last-segments}
use Rattle.vc_region.proofs.region.Region.tally_behind.Goals as goal

pub tally_behind-requires : goal.tally_behind-requires
tally_behind-requires g c = subst AreSegments (sym c.deref.ensures.value) (best-legal c.in-Best.best.extents.segs.items c.in-Best.best.extents.index.items c.in-Best.best.extents.kept)

pub returns-in-Best-clause-value : goal.returns-in-Best-clause-value
returns-in-Best-clause-value g c =
    c.tally_behind.ensures.value
    ∙ ap (λ (ss : List (ℕ × ℕ)). tally_of (map (λ s. s.1) (drop c.args.first ss))) (ap (map pair_of) c.deref.ensures.value ∙ (sym (best-segments c.in-Best.best.extents.segs.items) ∙ ap segments_in (sym c.in-Best.is)))

pub tally_behind-requires-in-Last : goal.tally_behind-requires-in-Last
tally_behind-requires-in-Last g c = subst AreSegments (sym c.deref-in-Last.ensures.value) (last-legal c.in-Last.last.segs.items c.in-Last.last.latest.0 c.in-Last.last.kept)

pub returns-in-Last-clause-value : goal.returns-in-Last-clause-value
returns-in-Last-clause-value g c =
    c.tally_behind-in-Last.ensures.value
    ∙ ap (λ (ss : List (ℕ × ℕ)). tally_of (map (λ s. s.1) (drop c.args.first ss))) (ap (map pair_of) c.deref-in-Last.ensures.value ∙ (sym (last-segments c.in-Last.last.segs.items c.in-Last.last.latest.0) ∙ ap segments_in (sym c.in-Last.is)))

pub tally_behind-requires-in-Debug : goal.tally_behind-requires-in-Debug
tally_behind-requires-in-Debug g c = subst AreSegments (sym c.deref-in-Debug.ensures.value) (best-legal c.in-Debug.debug.best.extents.segs.items c.in-Debug.debug.best.extents.index.items c.in-Debug.debug.best.extents.kept)

pub returns-in-Debug-clause-value : goal.returns-in-Debug-clause-value
returns-in-Debug-clause-value g c =
    c.tally_behind-in-Debug.ensures.value
    ∙ ap (λ (ss : List (ℕ × ℕ)). tally_of (map (λ s. s.1) (drop c.args.first ss))) (ap (map pair_of) c.deref-in-Debug.ensures.value ∙ (sym (best-segments c.in-Debug.debug.best.extents.segs.items) ∙ ap segments_in (sym c.in-Debug.is)))

pub tally_behind-requires-in-Profile : goal.tally_behind-requires-in-Profile
tally_behind-requires-in-Profile g c = subst AreSegments (sym c.deref-in-Profile.ensures.value) (best-legal c.in-Profile.profile.best.extents.segs.items c.in-Profile.profile.best.extents.index.items c.in-Profile.profile.best.extents.kept)

pub returns-in-Profile-clause-value : goal.returns-in-Profile-clause-value
returns-in-Profile-clause-value g c =
    c.tally_behind-in-Profile.ensures.value
    ∙ ap (λ (ss : List (ℕ × ℕ)). tally_of (map (λ s. s.1) (drop c.args.first ss))) (ap (map pair_of) c.deref-in-Profile.ensures.value ∙ (sym (best-segments c.in-Profile.profile.best.extents.segs.items) ∙ ap segments_in (sym c.in-Profile.is)))
