-- What a call did, in numbers.
use Rattle.std.specs.Prelude.{ℕ}
use Rattle.vc_cost.specs.declared.tally.Made.{Made}
use Rattle.vc_cost.specs.declared.tally.Made.TheVariants.{Linked, Taken, Found, Missed}

-- how many holders came
abbrev pub came : Made → ℕ
came Linked = 1
came Taken = 0
came Found = 0
came Missed = 0

-- how many went
abbrev pub went : Made → ℕ
went Linked = 0
went Taken = 1
went Found = 0
went Missed = 0

-- how many searches found an object
abbrev pub found_by : Made → ℕ
found_by Linked = 0
found_by Taken = 0
found_by Found = 1
found_by Missed = 0
