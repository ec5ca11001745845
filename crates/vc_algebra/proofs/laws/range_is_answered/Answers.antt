use Rattle.vc_algebra.proofs.RunLemmas.{range-listed}
use Rattle.vc_algebra.proofs.laws.range_is_answered.Goals as goal

pub returns : goal.returns
returns g c = λ links d low high layers first more. range-listed g.Y.Layers.layered links d low high layers first more (g.met.Y.Layers.lawful layers)
