use Rattle.vc_base.proofs.Common.{◌≡◌, replicate, None}
use Rattle.vc_paths.proofs.paths.Paths.new.Given as goal

abbrev pub invariant-loop-number : goal.invariant-loop-number
invariant-loop-number l = l.links.items ≡ replicate l._number None
