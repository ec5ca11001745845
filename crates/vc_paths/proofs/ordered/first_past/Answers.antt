use Rattle.vc_paths.proofs.PastLemmas.{past_all, past_other, past_own}
use Rattle.vc_paths.proofs.ordered.first_past.Goals as goal

pub returns-then-f-e-clause-found : goal.returns-then-f-e-clause-found
returns-then-f-e-clause-found g c =
    past_own c.args.back (g.met.Y.Layers.lawful c.args.layers.now) c.requires.seek c.requires.apart c.in-Some.is c.if-f-e.true c.beside.result c.beside.ensures

pub returns-else-f-e-clause-found : goal.returns-else-f-e-clause-found
returns-else-f-e-clause-found g c =
    past_other c.args.back (g.met.Y.Layers.lawful c.args.layers.now) c.requires.seek c.in-Some.is c.past_like.result c.past_like.ensures.found

pub returns-in-None-clause-found : goal.returns-in-None-clause-found
returns-in-None-clause-found g c =
    past_all c.args.back (g.met.Y.Layers.lawful c.args.layers.now) c.requires.seek.dict c.in-None.is c.end_of.result c.end_of.ensures
