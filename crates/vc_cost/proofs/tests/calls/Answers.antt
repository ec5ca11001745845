use Rattle.vc_base.proofs.Common.{◌+◌, refl}
use Rattle.vc_cost.proofs.ManyLemmas.{finds-more, links-more}
use Rattle.vc_cost.proofs.tests.calls.Goals as goal

pub loop-number-preserved : goal.loop-number-preserved
loop-number-preserved c =
    let n = c.loop-number.number in
    links-more n c.loop-number.calls c.add.new.self (record { 0 = n + 1 }) refl c.in_ok-add.ensures.ok c.loop-number.invariant

pub loop-number-2-preserved : goal.loop-number-2-preserved
loop-number-2-preserved c = finds-more c.args.count c.loop-number-2.calls c.add-in-loop-number-2.new.self c.new-key.result c.in_ok-add-2.ensures.ok c.loop-number-2.invariant
