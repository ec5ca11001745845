use Rattle.vc_base.proofs.Common.{◌≡◌, ℕ, ◌<◌, false, Some}
use Rattle.vc_paths.specs.Links.{is_too_long, links_with}
use Rattle.vc_paths.proofs.paths.Paths.are_too_long_with.Given as goal

abbrev pub invariant-loop-from : goal.invariant-loop-from
invariant-loop-from l = (k : ℕ) → k < l.from → is_too_long (links_with l.d (Some l.e) l.self) k ≡ false
