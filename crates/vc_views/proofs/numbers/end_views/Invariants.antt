use Rattle.vc_base.proofs.Common.{◌≡◌, ℕ, ◌<◌, None}
use Rattle.vc_paths.specs.Links.{below}
use Rattle.vc_views.proofs.numbers.end_views.Given as goal

-- each number so far views none
abbrev pub invariant-loop-number : goal.invariant-loop-number
invariant-loop-number l = (n : ℕ) → n < l.number → below l.paths n ≡ None
