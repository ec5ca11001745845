use Rattle.vc_base.proofs.Common.{refl, ◌∙◌}
use Rattle.vc_dict.specs.Listed.{holders_of}
use Rattle.vc_best.specs.Cells.{cells_in}
use Rattle.vc_store.specs.Stores.Alike.{Keeps}
use Rattle.vc_store.specs.Stores.Stores.{dicts_of}
use Rattle.vc_store.proofs.Here.{below-there, read-there, with_dict}
use Rattle.vc_store.proofs.Looked.{layers-same, look-keeps}
use Rattle.vc_store.proofs.ToldLayers.{is-member, kind-told, like-told, stands-by}
use Rattle.vc_store.proofs.stores.alike.AlikeLayers.last_like.Given.{Over}
use Rattle.vc_store.proofs.stores.alike.AlikeLayers.last_like.Goals as goal
use Rattle.vc_store.proofs.stores.alike.AlikeLayers.last_like.Goals.{After-self-2-1}

pub last_like-requires : goal.last_like-requires
last_like-requires g c =
    let s = c.args.self.now in
    let has = c.requires.dict in
    let at = read-there (dicts_of s.store) c.args.d c.index_mut.result.now (below-there (dicts_of s.store) c.args.d has.there) c.index_mut.ensures.value ∙ c.in-Some.is in
    let same = kind-told g.D.DictDisc.rules s.store s.like c.args.d has c.index.result.now c.index.ensures in
    is-member g.D.DictDisc.rules s.store s.like c.args.d has c.in-Some.dict at c.args.at.0 c.requires.place (g.D.DictDisc.rules c.index.result.now) same

pub returns-clause-found : goal.returns-clause-found
returns-clause-found g c = λ bytes h.
    let s = c.args.self.now in
    let has = c.requires.dict in
    let at = read-there (dicts_of s.store) c.args.d c.index_mut.result.now (below-there (dicts_of s.store) c.args.d has.there) c.index_mut.ensures.value ∙ c.in-Some.is in
    let same = kind-told g.D.DictDisc.rules s.store s.like c.args.d has c.index.result.now c.index.ensures in
    like-told g.D.DictDisc.rules s.store s.like c.args.d has c.in-Some.dict at c.args.at.0 c.requires.place (g.D.DictDisc.rules c.index.result.now) same bytes _ h
    (λ ys stands. (c.last_like.ensures.found ys stands).last)

keeps : (g : Over) (c : After-self-2-1 g) → Keeps g.D.DictDisc.rules c.args.self.now.store (with_dict c.args.self.now.store c.args.d c.last_like.new.cells c.last_like.new.self)
keeps g c =
    let s = c.args.self.now in
    let has = c.requires.dict in
    let at = read-there (dicts_of s.store) c.args.d c.index_mut.result.now (below-there (dicts_of s.store) c.args.d has.there) c.index_mut.ensures.value ∙ c.in-Some.is in
    let same = kind-told g.D.DictDisc.rules s.store s.like c.args.d has c.index.result.now c.index.ensures in
    let stands = stands-by g.D.DictDisc.rules s.store s.like c.args.d has c.in-Some.dict at (g.D.DictDisc.rules c.index.result.now) same in
    look-keeps g.D.DictDisc.rules s.store s.like c.args.d has c.index_mut.result.now c.in-Some.dict c.index.result.now c.index_mut.ensures.value c.in-Some.is c.index.ensures c.last_like.new.cells c.last_like.new.self
    (c.last_like.ensures.dict (holders_of c.in-Some.dict (cells_in s.store.best)) stands) c.last_like.ensures.rest

pub returns-clause-layers : goal.returns-clause-layers
returns-clause-layers g c = layers-same (keeps g c) c.args.self.now.like c.args.self.now.like refl

pub returns-clause-stays : goal.returns-clause-stays
returns-clause-stays g c = (refl, keeps g c)
