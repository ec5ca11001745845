use Rattle.vc_algebra.proofs.OwnLemmas.{operation-own, range-own}
use Rattle.vc_algebra.proofs.laws.places_come_once.Goals as goal

pub returns-clause-range : goal.returns-clause-range
returns-clause-range g c = λ links d low high layers. range-own (g.Y.Layers.layered layers) links d low high (g.met.Y.Layers.lawful layers)

pub returns-clause-operation : goal.returns-clause-operation
returns-clause-operation g c = λ links d e op layers. operation-own (g.Y.Layers.layered layers) links d e op (g.met.Y.Layers.lawful layers)
