use Rattle.vc_store.proofs.Looked.{layers-same}
use Rattle.vc_store.proofs.stores.alike.AlikeLayers.behind_like.Goals as goal

pub sought_like-requires : goal.sought_like-requires
sought_like-requires g c = record { dict = c.requires.dict; there = c.requires.compared.there; asked = c.requires.method; place = c.requires.compared.object }

pub returns-clause-layers : goal.returns-clause-layers
returns-clause-layers g c = layers-same c.sought_like.ensures.keeps c.args.self.now.like c.sought_like.new.self.like c.sought_like.ensures.like

pub returns-clause-stays : goal.returns-clause-stays
returns-clause-stays g c = (c.sought_like.ensures.like, c.sought_like.ensures.keeps)
