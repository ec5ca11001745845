use Rattle.vc_base.proofs.Common.{◌++◌, ◌∙◌, ap, arith, length, rules, take}
use Rattle.std.proofs.Math.Seq.{take-append_seam}
use Rattle.vc_script.specs.Print.{block_text}
use Rattle.vc_script.proofs.PrintSteps.{front-behind, one-more}
use Rattle.vc_script.proofs.print_lists.put_each_block.Goals as goal

pub loop-item-preserved : goal.loop-item-preserved
loop-item-preserved c =
    one-more block_text _ _ _ _ c.item-item.result c.as_slice-item-items.ensures (omega arith) c.loop-item.invariant
    (c.in_ok-put_block.ensures.put ∙ ap (λ b. c.loop-item.line.items ++ block_text b) c.item-item.is)

pub returns-in_err-put_block : goal.returns-in_err-put_block
returns-in_err-put_block c =
    let old = c.args.line.now.items in
    record {
      put = search rules;
      front = front-behind old c.loop-item.line.items c.put_block.new.line.items (ap (take (length old)) c.loop-item.invariant ∙ take-append_seam old _) c.put_block.ensures.front;
    }
