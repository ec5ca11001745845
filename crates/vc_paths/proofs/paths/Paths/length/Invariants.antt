use Rattle.vc_base.proofs.Common.{◌≡◌, ◌+◌, ◌<◌, length}
use Rattle.vc_paths.specs.Links.{numbers, path}
use Rattle.vc_paths.proofs.paths.Paths.length.Given as goal

abbrev pub invariant-loop-e : goal.invariant-loop-e
invariant-loop-e l = record {
  within : l.at < numbers;
  same : l.count + length (path l.self l.at) ≡ length (path l.self l.d) + 1;
}

abbrev pub decreases-loop-e : goal.decreases-loop-e
decreases-loop-e l = length (path l.self l.at)
