use Rattle.vc_base.proofs.Common.{◌≡◌, ◌++◌, take, flat_map}
use Rattle.vc_script.specs.Print.{block_text}
use Rattle.vc_script.proofs.print_lists.put_each_block.Given as goal

abbrev pub invariant-loop-item : goal.invariant-loop-item
invariant-loop-item l = l.line.items ≡ l.fn.line.items ++ flat_map block_text (take l.item-index l.items)
