use Rattle.vc_base.proofs.Common.{arith}
use Rattle.vc_image_check.proofs.Doublings.{doubled-most}
use Rattle.vc_image_check.proofs.lists.table.is_slots.Goals as goal

pub overflow_mul-next : goal.overflow_mul-next
overflow_mul-next c =
    let most = doubled-most c.args.slots c.loop-k.next c.loop-k._k c.loop-k-test.true c.loop-k.invariant in
    omega (arith, most)
