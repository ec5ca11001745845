use Rattle.vc_base.proofs.Common.{◌≡◌, ℕ, ◌-◌, ◌<◌, true, map, length, contains}
use Rattle.vc_views.specs.Dicts.{number_in}
use Rattle.vc_views.proofs.numbers.free_number.Given as goal

-- each number so far is that of a dictionary
abbrev pub invariant-loop-number : goal.invariant-loop-number
invariant-loop-number l = (k : ℕ) → k < l.number → contains (map number_in l.dicts.entries) k ≡ true

abbrev pub decreases-loop-number : goal.decreases-loop-number
decreases-loop-number l = length l.dicts.entries - l.number
