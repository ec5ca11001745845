use Rattle.vc_base.proofs.Common.{◌≡◌, ◌<◌, length, contains}
use Rattle.vc_paths.specs.Links.{numbers, path}
use Rattle.vc_paths.proofs.paths.Paths.is_on_path.Given as goal

abbrev pub invariant-loop-at : goal.invariant-loop-at
invariant-loop-at l = record {
  within : l.at < numbers;
  same : contains (path l.self l.at) l.d ≡ contains (path l.self l.fn.e) l.d;
}

abbrev pub decreases-loop-at : goal.decreases-loop-at
decreases-loop-at l = length (path l.self l.at)
