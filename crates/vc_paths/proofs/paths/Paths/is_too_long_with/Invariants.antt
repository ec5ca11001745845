use Rattle.vc_base.proofs.Common.{◌≡◌, ◌-◌, ◌<◌, length, nat_lt, Some}
use Rattle.vc_paths.specs.Links.{is_too_long, links_with, numbers, path_of}
use Rattle.vc_paths.proofs.paths.Paths.is_too_long_with.Given as goal

abbrev pub invariant-loop-step : goal.invariant-loop-step
invariant-loop-step l = record {
  within : l.at < numbers;
  same : nat_lt (16 - l._step) (length (path_of (17 - l._step) (links_with l.d (Some l.e) l.self) l.at))
      ≡ is_too_long (links_with l.d (Some l.e) l.self) l.fn.from;
}
