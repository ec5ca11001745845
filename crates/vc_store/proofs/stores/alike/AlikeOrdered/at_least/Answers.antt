use Rattle.vc_store.proofs.Looked.{layers-same}
use Rattle.vc_store.proofs.stores.alike.AlikeOrdered.at_least.Goals as goal

pub sought_at-requires : goal.sought_at-requires
sought_at-requires g c = record { dict = c.requires.dict; side = c.requires.method }

pub returns-clause-layers : goal.returns-clause-layers
returns-clause-layers g c = layers-same c.sought_at.ensures.keeps c.args.self.now.like c.sought_at.new.self.like c.sought_at.ensures.like

pub returns-clause-stays : goal.returns-clause-stays
returns-clause-stays g c = (c.sought_at.ensures.like, c.sought_at.ensures.keeps)
