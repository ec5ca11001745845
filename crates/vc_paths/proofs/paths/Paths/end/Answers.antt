use Rattle.vc_paths.proofs.NewLinkLemmas.{ArePaths-ended}
use Rattle.vc_paths.proofs.paths.Paths.end.Goals as goal

pub invariant_of-self : goal.invariant_of-self
invariant_of-self c = ArePaths-ended c.self.inside.links.items c.args.d c.self.invariant c.requires
