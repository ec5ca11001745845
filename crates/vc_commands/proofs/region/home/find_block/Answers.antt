use Rattle.vc_commands.proofs.FoundBlocks.{has-name, if_some-map, name-there}
use Rattle.vc_commands.proofs.region.home.find_block.Goals as goal

pub returns-clause-some : goal.returns-clause-some
returns-clause-some g c = if_some-map c.find.result (λ at found. has-name c.requires found) c.find.ensures.some

pub returns-clause-there : goal.returns-clause-there
returns-clause-there g c = if_some-map c.find.result (λ at found. name-there c.args.region.now (has-name c.requires found)) c.find.ensures.some
