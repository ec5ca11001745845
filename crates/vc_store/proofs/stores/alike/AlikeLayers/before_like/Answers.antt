use Rattle.vc_base.proofs.Common.{◌∙◌}
use Rattle.vc_store.specs.Stores.Alike.{layers_of}
use Rattle.vc_store.specs.Stores.AlikeLaws.{are-layers}
use Rattle.vc_store.proofs.Looked.{layers-same}
use Rattle.vc_algebra.proofs.ToldLemmas.{place-less}
use Rattle.vc_store.proofs.stores.alike.AlikeLayers.before_like.Goals as goal

pub sought_like-requires : goal.sought_like-requires
sought_like-requires g c = record { dict = c.requires.dict; there = c.requires.compared.there; asked = c.requires.method; place = c.requires.compared.object }

pub returns-clause-found : goal.returns-clause-found
returns-clause-found g c = λ bytes h.
    let s = c.args.self.now in
    c.sought_like.ensures.found bytes h
    ∙ place-less (layers_of g.D.DictDisc.rules s.store s.like c.args.d) bytes
    ((are-layers g.D.DictDisc.rules g.met.D.DictDisc.lawful s.store s.like).lawful c.args.d c.requires.dict)

pub returns-clause-layers : goal.returns-clause-layers
returns-clause-layers g c = layers-same c.sought_like.ensures.keeps c.args.self.now.like c.sought_like.new.self.like c.sought_like.ensures.like

pub returns-clause-stays : goal.returns-clause-stays
returns-clause-stays g c = (c.sought_like.ensures.like, c.sought_like.ensures.keeps)
