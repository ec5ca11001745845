use Rattle.vc_base.proofs.Common.{ap}
use Rattle.slab.specs.Slab.{Slab}
use Rattle.vc_commands.specs.Labels.{SameLabels}
use Rattle.vc_commands.specs.declared.region.labels.Label.{Label}
use Rattle.vc_commands.proofs.Agreeing.{agree-same, same-reserved}
use Rattle.vc_commands.proofs.region.labels.Labels.reserve.Goals as goal
use Rattle.vc_commands.proofs.region.labels.Labels.reserve.Goals.{After-vacant_key-key}

-- the labels with more room
same : (c : After-vacant_key-key) → SameLabels c.args.self.now (record { by_tag = c.reserve.new.self; tags = c.reserve-2.new.self })
same c = same-reserved c.args.self.now (record { by_tag = c.reserve.new.self; tags = c.reserve-2.new.self }) (ap (λ (s : Slab Label). s.slots) c.in_ok-reserve.ensures.rest_kept) c.in_ok-reserve-2.ensures.entries.2

pub returns-then-key-clause-same : goal.returns-then-key-clause-same
returns-then-key-clause-same c = same (goal.at.returns-then-key-clause-same c).After-vacant_key-key

pub returns-then-key-clause-agree : goal.returns-then-key-clause-agree
returns-then-key-clause-agree c = agree-same c.args.self.now _ (same (goal.at.returns-then-key-clause-agree c).After-vacant_key-key) c.in_ok-reserve-2.ensures.entries.1 c.requires.agree

pub returns-clause-same : goal.returns-clause-same
returns-clause-same c = same (goal.at.returns-clause-same c).After-vacant_key-key

pub returns-clause-agree : goal.returns-clause-agree
returns-clause-agree c = agree-same c.args.self.now _ (same (goal.at.returns-clause-agree c).After-vacant_key-key) c.in_ok-reserve-2.ensures.entries.1 c.requires.agree
