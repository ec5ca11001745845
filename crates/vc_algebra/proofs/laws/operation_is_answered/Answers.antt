use Rattle.vc_algebra.proofs.RunLemmas.{operation-listed}
use Rattle.vc_algebra.proofs.laws.operation_is_answered.Goals as goal

pub returns : goal.returns
returns g c = operation-listed g.Y.Layers.layered
