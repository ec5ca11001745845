-- Why there is no range or operation.
use Rattle.std.specs.Prelude.{ℕ, not, Option, Some, None, ◌==◌, ◌&&◌, if◌then◌else◌}
use Rattle.vc_base.specs.Methods.{is_ordered}
use Rattle.vc_paths.specs.Layers.{Layered}
use Rattle.vc_algebra.specs.declared.fault.AlgebraFault.{AlgebraFault}
use Rattle.vc_algebra.specs.declared.fault.AlgebraFault.TheVariants.{NotOrdered, Differs}

-- why a dictionary has no ranges, if it has none
abbrev pub range_fault : Layered → ℕ → Option AlgebraFault
range_fault all d = if is_ordered (all.layer d).method then None else Some NotOrdered

-- why there is no operation on two dictionaries, if there is none
abbrev pub merge_fault : Layered → ℕ → ℕ → Option AlgebraFault
merge_fault all d e =
    if not (is_ordered (all.layer d).method && is_ordered (all.layer e).method) then Some NotOrdered
    else if not ((all.layer d).kind == (all.layer e).kind) then Some Differs
    else None
