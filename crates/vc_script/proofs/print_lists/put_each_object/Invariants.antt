use Rattle.vc_base.proofs.Common.{◌≡◌, ◌++◌, take, flat_map}
use Rattle.vc_script.specs.Print.{object_text}
use Rattle.vc_script.proofs.print_lists.put_each_object.Given as goal

abbrev pub invariant-loop-i : goal.invariant-loop-i
invariant-loop-i l = l.line.items ≡ l.fn.line.items ++ flat_map object_text (take l.i l.items)
