use Rattle.vc_base.proofs.Common.{◌≡◌, ◌++◌, length, drop}
use Rattle.vc_region.specs.Parts.{region_of}
use Rattle.vc_region.specs.Region.{rows_in}
use Rattle.vc_commands.proofs.region.audit.row_items.Given as goal

-- the rows so far, and those behind them
abbrev pub invariant-loop-row : goal.invariant-loop-row
invariant-loop-row g l = l.items.items ++ drop l.i (rows_in (region_of l.region)) ≡ rows_in (region_of l.region)

abbrev pub decreases-loop-row : goal.decreases-loop-row
decreases-loop-row g l = length (drop l.i (rows_in (region_of l.region)))
