use Rattle.vc_base.proofs.Common.{◌≡◌, suc, ◌-◌, arith, nat_tests}
use Rattle.vc_seg.proofs.LastPair.{remove-last_pair, set-last_pair}
use Rattle.vc_seg.proofs.out_list.last_place.Goals as goal

pub returns-then-pair-size-clause-last : goal.returns-then-pair-size-clause-last
returns-then-pair-size-clause-last c =
    let after_end : suc (c.loop-end.end - 1) ≡ c.loop-end.end = omega arith in
    remove-last_pair (c.args.number, c.args.size) c.args.pairs.now (c.loop-end.end - 1) (0, 0) (omega arith) (grind (arith, nat_tests)) (rw after_end c.loop-end.invariant.1)

pub returns-then-pair-size-clause-longer : goal.returns-then-pair-size-clause-longer
returns-then-pair-size-clause-longer c more =
    let after_end : suc (c.loop-end.end - 1) ≡ c.loop-end.end = omega arith in
    set-last_pair (c.args.number, c.args.size) more c.args.pairs.now (c.loop-end.end - 1) (0, 0) (omega arith) (grind (arith, nat_tests)) (rw after_end c.loop-end.invariant.1)
