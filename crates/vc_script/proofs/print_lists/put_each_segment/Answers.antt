use Rattle.vc_base.proofs.Common.{arith}
use Rattle.vc_script.specs.Print.{segment_text}
use Rattle.vc_script.proofs.PrintSteps.{one-more}
use Rattle.vc_script.proofs.print_lists.put_each_segment.Goals as goal

pub loop-item-preserved : goal.loop-item-preserved
loop-item-preserved c =
    one-more segment_text _ _ _ _ _ c.as_slice-item-items.ensures (omega arith) c.loop-item.invariant
    c.in_ok-put_one_segment.ensures.put
