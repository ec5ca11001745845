use Rattle.vc_region.proofs.region.Region.check.Goals as goal

pub returns-in-Debug-clause-live : goal.returns-in-Debug-clause-live
returns-in-Debug-clause-live g c = rw c.in-Debug.is c.check.ensures.live
