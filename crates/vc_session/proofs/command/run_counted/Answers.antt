use Rattle.vc_base.proofs.Common.{refl}
use Rattle.vc_session.proofs.command.run_counted.Goals as goal

pub counted_step-requires-clause-counts : goal.counted_step-requires-clause-counts
counted_step-requires-clause-counts g c = c.requires.can_count refl
