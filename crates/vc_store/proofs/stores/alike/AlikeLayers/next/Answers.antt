use Rattle.vc_store.proofs.ToldLayers.{next-told, is-in}
use Rattle.vc_store.proofs.stores.alike.AlikeLayers.next.Goals as goal

pub next-requires : goal.next-requires
next-requires g c =
    let s = c.args.self.now in
    is-in g.D.DictDisc.rules s.store s.like c.args.d c.requires.dict c.dict_of.result.now c.dict_of.ensures c.args.at.0 c.requires.place

pub returns : goal.returns
returns g c =
    let s = c.args.self.now in
    next-told g.D.DictDisc.rules s.store s.like c.args.d c.requires.dict c.dict_of.result.now c.dict_of.ensures c.args.at.0 c.requires.place _ c.next.ensures
