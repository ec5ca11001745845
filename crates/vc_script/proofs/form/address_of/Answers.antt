use Rattle.vc_base.proofs.Common.{arith, common_steps}
use Rattle.vc_script.proofs.WordSteps.{read_address-colon}
use Rattle.vc_script.proofs.form.address_of.Goals as goal

pub returns-then-b-eq58 : goal.returns-then-b-eq58
returns-then-b-eq58 c =
    let cut = read_address-colon c.args.word.now c.loop-i.i (omega arith) c.loop-i.invariant c.if-b-eq58.true in
    grind (arith, common_steps, cut)
