use Rattle.vc_objects.proofs.Leaving.{keeps-out}
use Rattle.vc_store.proofs.Shown.{took-behind}
use Rattle.vc_store.proofs.collection.Collection.close.Goals as goal

pub shut-requires : goal.shut-requires
shut-requires g c = record { whole = c.requires.open.whole }

pub close-requires : goal.close-requires
close-requires g c = keeps-out _ _ _ _ c.shut.ensures.leaves.disc c.requires.open.lent

pub returns-clause-disc : goal.returns-clause-disc
returns-clause-disc g c = took-behind _ _ _ _ _ c.shut.ensures.disc c.shut.ensures.leaves.disc c.close.ensures.disc
