use Rattle.vc_base.proofs.Common.{arith}
use Rattle.vc_script.proofs.WordSteps.{plain-word}
use Rattle.vc_script.proofs.word.escapes_in.Goals as goal

pub returns-clause-plain : goal.returns-clause-plain
returns-clause-plain c =
    plain-word c.args.word.now c.loop-i.escapes (λ none k less. c.loop-i.invariant.plain none k (omega arith))
