use Rattle.vc_store.proofs.ToldLayers.{first-told, is-kept}
use Rattle.vc_store.proofs.stores.alike.AlikeLayers.first.Goals as goal

pub first-requires : goal.first-requires
first-requires g c =
    let s = c.args.self.now in
    is-kept g.D.DictDisc.rules s.store s.like c.args.d c.requires c.dict_of.result.now c.dict_of.ensures

pub returns : goal.returns
returns g c =
    let s = c.args.self.now in
    first-told g.D.DictDisc.rules s.store s.like c.args.d c.requires c.dict_of.result.now c.dict_of.ensures _ c.first.ensures
