use Rattle.vc_base.proofs.Common.{◌≡◌, drop, find}
use Rattle.vc_image_check.specs.Bytes.Contents.{pairs_in}
use Rattle.vc_image.specs.Lends.Terms.{is_uneven}
use Rattle.vc_image.proofs.lends.terms.uneven_segment.Given as goal

-- the round divides the sizes of those so far
abbrev pub invariant-loop-i : goal.invariant-loop-i
invariant-loop-i l = find (is_uneven l.round) (pairs_in l.image) ≡ find (is_uneven l.round) (drop l.i (pairs_in l.image))
