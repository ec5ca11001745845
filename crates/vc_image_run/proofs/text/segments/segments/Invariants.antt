use Rattle.vc_base.proofs.Common.{◌≡◌, ◌++◌, length}
use Rattle.vc_best.specs.Parts.{segments_in}
use Rattle.vc_commands.proofs.Listing.{segments_above}
use Rattle.vc_image_run.proofs.text.segments.segments.Given as goal

-- the segments so far, and those that are above the last of them
abbrev pub invariant-loop-segment : goal.invariant-loop-segment
invariant-loop-segment g l =
    l.items.items ++ segments_above l.after (segments_in l.best) ≡ segments_above 0 (segments_in l.best)

abbrev pub decreases-loop-segment : goal.decreases-loop-segment
decreases-loop-segment g l = length (segments_above l.after (segments_in l.best))
