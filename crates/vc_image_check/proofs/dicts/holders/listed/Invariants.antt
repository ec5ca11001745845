use Rattle.vc_image_check.proofs.Listing.{Listing}
use Rattle.vc_image_check.proofs.dicts.holders.listed.Given as goal

abbrev pub invariant-loop-left : goal.invariant-loop-left
invariant-loop-left g l = Listing (g.N.Holders.blocks l.nodes) l.count l.fn.first.0 l.holders.items l.at l.left

abbrev pub decreases-loop-left : goal.decreases-loop-left
decreases-loop-left g l = l.left
