use Rattle.vc_commands.specs.Tagged.{AreByTag}
use Rattle.vc_commands.proofs.ByTag.{upto}
use Rattle.vc_commands.proofs.region.tagged.fill_labels.Given as goal

-- each tag so far has a block
abbrev pub invariant-loop-key : goal.invariant-loop-key
invariant-loop-key l = AreByTag (upto l.key l.places) l.labels
