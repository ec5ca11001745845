use Rattle.vc_region.proofs.region.Region.alloc.Goals as goal

pub returns-in-Profile-clause-put : goal.returns-in-Profile-clause-put
returns-in-Profile-clause-put g c = rw c.in-Profile.is c.alloc-in-Profile.ensures.put
