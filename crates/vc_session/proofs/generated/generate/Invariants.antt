use Rattle.vc_base.proofs.Common.{◌≡◌, ◌++◌, length}
use Rattle.vc_generate.specs.Generated.{commands_of_seed}
use Rattle.vc_session.proofs.generated.generate.Given as goal

-- the commands so far and those to come are all
abbrev pub invariant-loop-commands : goal.invariant-loop-commands
invariant-loop-commands l = l.commands.items ++ l.generator ≡ commands_of_seed l.fn.tool l.fn.n l.fn.seed

-- those to come
abbrev pub decreases-loop-commands : goal.decreases-loop-commands
decreases-loop-commands l = length l.generator
