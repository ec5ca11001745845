-- When a dictionary may view another one.
use Rattle.std.specs.Prelude.{ℕ, Bool, not, Option, Some, None, ◌==◌, ◌&&◌, if◌then◌else◌}
use Rattle.vc_base.specs.Holders.{contains}
use Rattle.vc_base.specs.Methods.{method_number}
use Rattle.vc_paths.specs.declared.fault.ViewFault.{ViewFault}
use Rattle.vc_paths.specs.declared.fault.ViewFault.TheVariants.{Differs, Cycle, TooDeep}
use Rattle.vc_paths.specs.Layers.{Layered}
use Rattle.vc_paths.specs.Links.{Links, are_too_long, links_with, path}

-- whether two dictionaries have one method, and kinds of one number
abbrev pub are_alike : Layered → ℕ → ℕ → Bool
are_alike all d e = method_number (all.layer d).method == method_number (all.layer e).method
    && (all.layer d).kind == (all.layer e).kind

-- why the first can't view the second, if it can't
abbrev pub view_fault : Layered → Links → ℕ → ℕ → Option ViewFault
view_fault all links d e = if not (are_alike all d e) then Some Differs
    else if contains (path links e) d then Some Cycle
    else if are_too_long (links_with d (Some e) links) then Some TooDeep
    else None
