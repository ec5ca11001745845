use Rattle.vc_session.proofs.command.run_command.Goals as goal

pub run_counted-requires : goal.run_counted-requires
run_counted-requires g c = rw c.if-quiet.true at c.requires
