use Rattle.vc_store.proofs.ToldLayers.{last-told, is-kept}
use Rattle.vc_store.proofs.stores.alike.AlikeLayers.last.Goals as goal

pub last-requires : goal.last-requires
last-requires g c =
    let s = c.args.self.now in
    is-kept g.D.DictDisc.rules s.store s.like c.args.d c.requires c.dict_of.result.now c.dict_of.ensures

pub returns : goal.returns
returns g c =
    let s = c.args.self.now in
    last-told g.D.DictDisc.rules s.store s.like c.args.d c.requires c.dict_of.result.now c.dict_of.ensures _ c.last.ensures
