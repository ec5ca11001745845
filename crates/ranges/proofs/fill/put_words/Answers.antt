use Rattle.vc_base.proofs.Common.{◌∙◌}
use Rattle.ranges.proofs.fill.put_words.Goals as goal

pub loop-i-preserved : goal.loop-i-preserved
loop-i-preserved g c =
    let done = c.put_part.ensures in
    record {
      begun = c.in_ok-start.ensures.begun;
      fill = done.fill;
      count = done.count ∙ c.loop-i.invariant.count;
      kinds = done.kinds ∙ c.loop-i.invariant.kinds;
    }
